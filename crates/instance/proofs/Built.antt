-- Instances that conform: records written one after the other, NULL for every property, and records appended to one that conforms.
use Prim.Native.Nat.{ℕ, zero, suc, ◌*◌, ◌≤◌, ◌<◌}
use mathlib.Core.List.{List, [], ◌∷◌, ◌++◌}
use mathlib.Core.Path.{◌≡◌, refl, sym, subst}
use mathlib.Core.Logic.{◌↔◌, inl}
use native.Mathlib.Omega.{arith}
use lib.ListN.{length, length-append}
use Rattle.record.specs.declared.read.RecordAt.TheVariants.{Whole}
use Rattle.base.specs.Part.{part}
use Rattle.record.specs.Record.{record_at, Records, item, broken, ended, records, Fit}
use Rattle.record.specs.Kind.{kind_of}
use Rattle.record.specs.Write.{write}
use Rattle.record.proofs.Records.{at_end_law, records_end}
use Rattle.record.proofs.Shift.{shift, part_behind, records_first}
use Rattle.record.proofs.Append.{join, part_stays, records_append, fit_shift, fit_join, Inside, inside}
use Rattle.record.proofs.Written.{length_write, read_first, read_body}
use Rattle.table.specs.Table.{FreeOfFaults}
use Rattle.table.specs.Properties.{kinds_of}
use Rattle.table.proofs.Good.{good_table, counted}
use Rattle.instance.specs.Conforms.{Slot, HasKind, Lays, Conforms}

-- records behind other bytes are laid out as they are alone
lays_behind : (p s ks : List ℕ) (rs : Records) → Lays (p ++ s) ks (shift (length p) rs) ↔ Lays s ks rs
unfolding Lays shift
lays_behind p s [] rs = fit_shift (length p) rs
lays_behind p s (k ∷ ks) (item place kind start len rest) =
    let again = lays_behind p s ks rest in
    rw (part_behind p s start len) (λ h. (h.0, again.0 h.1), λ h. (h.0, again.1 h.1))
lays_behind p s (k ∷ ks) (broken place) = (λ h. h, λ h. h)
lays_behind p s (k ∷ ks) ended = (λ h. h, λ h. h)

-- one more property, whose record stands before the others
module _ {kind start len : ℕ} (w s : List ℕ) (e : record_at (w ++ s) 0 ≡ Whole kind start len (length w)) (k : ℕ) (ks : List ℕ) where
  pub lays_first : Slot k kind (part (w ++ s) start len) (HasKind (kind_of k) (part (w ++ s) start len)) → Lays s ks (records s 0) → Lays (w ++ s) (k ∷ ks) (records (w ++ s) 0)
  unfolding Lays
  lays_first slot h = rw (records_first w s e) (slot, (lays_behind w s ks (records s 0)).1 h)

  pub first_lays : Lays (w ++ s) (k ∷ ks) (records (w ++ s) 0) → Slot k kind (part (w ++ s) start len) (HasKind (kind_of k) (part (w ++ s) start len)) × Lays s ks (records s 0)
  unfolding Lays
  first_lays h = let g = rw (records_first w s e) at h in (g.0, (lays_behind w s ks (records s 0)).0 g.1)

pub lays_write : (k kind : ℕ) (b s ks : List ℕ) → kind < 65536 → length b < 65536 → Slot k kind b (HasKind (kind_of k) b) → Lays s ks (records s 0)
    → Lays (write kind b ++ s) (k ∷ ks) (records (write kind b ++ s) 0)
lays_write k kind b s ks n l slot h =
    lays_first (write kind b) s (read_first kind b s n l) k ks (subst (λ (x : List ℕ). Slot k kind x (HasKind (kind_of k) x)) (sym (read_body kind b s n l)) slot) h

-- NULL for every property
unfoldable pub nulls : ℕ → List ℕ
nulls zero = []
nulls (suc n) = write 0 [] ++ nulls n

length_nulls : (n : ℕ) → length (nulls n) ≡ 4 * n
unfolding nulls
length_nulls zero = refl
length_nulls (suc n) = omega (arith, length-append (write 0 []) (nulls n), length_write 0 [], length_nulls n)

lays_nulls : (ks : List ℕ) → Lays (nulls (length ks)) ks (records (nulls (length ks)) 0)
unfolding nulls Lays Fit
lays_nulls [] = rw (records_end [] 0 (at_end_law [] 0 (omega arith))) tt
lays_nulls (k ∷ ks) = lays_write k 0 [] (nulls (length ks)) ks (omega arith) (omega arith) (inl (refl, refl)) (lays_nulls ks)

-- to every table free of 2 and 3 an instance conforms
pub nulls_conform : (t : List ℕ) → FreeOfFaults t → Conforms t (nulls (length (kinds_of t)))
nulls_conform t f =
    let c = counted t f in
    let g = good_table t c.count c.is in
    record { free = f; short = omega (arith, length_nulls (length (kinds_of t)), g.kinds, g.few); lays = lays_nulls (kinds_of t) }

-- the lengths of all records of an instance that conforms fit
lays_fit : (i ks : List ℕ) (rs : Records) → Lays i ks rs → Fit rs
unfolding Lays Fit
lays_fit i [] rs h = h
lays_fit i (k ∷ ks) (item place kind start len rest) h = lays_fit i ks rest h.1
lays_fit i (k ∷ ks) (broken place) h = h
lays_fit i (k ∷ ks) ended h = absurd h

lays_join : (s t ks : List ℕ) (rs more : Records) → Inside (length s) rs → Lays s ks rs → Fit more → Lays (s ++ t) ks (join rs more)
unfolding Lays join Inside
lays_join s t [] rs more i h g = fit_join rs more h g
lays_join s t (k ∷ ks) (item place kind start len rest) more i h g =
    (subst (λ (b : List ℕ). Slot k kind b (HasKind (kind_of k) b)) (sym (part_stays s t start len i.0)) h.0, lays_join s t ks rest more i.1 h.1 g)
lays_join s t (k ∷ ks) (broken place) more i h g = h
lays_join s t (k ∷ ks) ended more i h g = absurd h

-- records whose lengths fit may be appended, within the 65,535 bytes
pub appended_conforms : (t i more : List ℕ) → Conforms t i → Fit (records more 0) → length (i ++ more) ≤ 65535 → Conforms t (i ++ more)
appended_conforms t i more c g l =
    record {
      free = c.free;
      short = l;
      lays =
          rw (records_append i more (lays_fit i (kinds_of t) (records i 0) c.lays))
          (lays_join i more (kinds_of t) (records i 0) (shift (length i) (records more 0)) (inside i 0) c.lays ((fit_shift (length i) (records more 0)).1 g));
    }
