-- 02 Q-3 "Operators edit unrelated settings and ask whether a filter could react": another record for a property that the query doesn't name. Whatever value of its kind it
-- holds, the instance still conforms, within its 65,535 bytes, and has the same answer.
use Prim.Native.Nat.{ℕ, zero, suc, ◌+◌, ◌<◌}
use mathlib.Core.Path.{◌≡◌, refl, sym, ap, ap₂, ◌∙◌, subst}
use mathlib.Core.List.{List, [], ◌∷◌, ◌++◌, append_assoc}
use mathlib.Core.Bool.{Bool, true, false}
use mathlib.Core.Logic.{inl, inr}
use native.Mathlib.Omega.{arith}
use native.Mathlib.Nat.{mod-add-div}
use lib.ListN.{length, get_or, take, drop, take-append-drop, length-append}
use lib.Seq.{take-append-add, drop-append-add, length-take-le}
use lib.Dec.{ltb}
use borrow.Author.Tests.{ltb-true, ltb-false}
use Rattle.base.specs.Part.{part}
use Rattle.record.specs.Record.{record_at, records}
use Rattle.record.specs.Kind.{kind_of}
use Rattle.record.specs.Write.{write}
use Rattle.record.specs.declared.read.RecordAt.{RecordAt}
use Rattle.record.specs.declared.read.RecordAt.TheVariants.{Whole, Broken, End}
use Rattle.record.proofs.Numbers.{kind_none}
use Rattle.record.proofs.Records.{whole_in_law, records_broken, records_end}
use Rattle.record.proofs.Shift.{moved, part_behind, record_behind}
use Rattle.record.proofs.Append.{part_stays, record_stays, record_within}
use Rattle.record.proofs.Written.{length_write, read_first, read_body}
use Rattle.table.specs.Properties.{kinds_of}
use Rattle.instance.specs.Conforms.{Slot, HasKind, Lays, Conforms}
use Rattle.instance.specs.Start.{start_of}
use Rattle.instance.proofs.Built.{lays_first, first_lays, lays_write}
use Rattle.instance.proofs.Environment.{start_behind}
use Rattle.filter.specs.Evaluate.{evaluate}
use Rattle.invariance.specs.NamedProperties.{Member, named_properties}
use Rattle.invariance.specs.SameRecords.{Held, held, held_in, held_for, SameBut, replaced, Replaces}
use Rattle.invariance.proofs.SameRecords.{unnamed_changed}

-- ---- a first record and what is behind it
module _ {kind start len : ℕ} (w s : List ℕ) (e : record_at (w ++ s) 0 ≡ Whole kind start len (length w)) where
  first_held : held_for (w ++ s) 0 ≡ held kind (part (w ++ s) start len)
  unfolding held_for start_of
  first_held = ap (held_in (w ++ s)) e

  next_held : (n : ℕ) → held_for (w ++ s) (suc n) ≡ held_for s n
  unfolding held_for
  next_held n = rw (start_behind w s e n, record_behind w s (start_of s n)) (go (record_at s (start_of s n)))
    where
      go : (r : RecordAt) → held_in (w ++ s) (moved (length w) r) ≡ held_in s r
      go (Whole k a l x) = ap (held k) (part_behind w s a l)
      go Broken = refl
      go End = refl

  -- another record in its place, or in that of a later one
  replaced_first : (k : ℕ) (b : List ℕ) → replaced (w ++ s) 0 k b ≡ write k b ++ s
  unfolding replaced start_of
  replaced_first k b = ap (λ (n : ℕ). write k b ++ drop n (w ++ s)) (start_behind w s e 0) ∙ ap (λ (x : List ℕ). write k b ++ x) (drop-append-add w s 0)

  replaced_next : (n k : ℕ) (b : List ℕ) → replaced (w ++ s) (suc n) k b ≡ w ++ replaced s n k b
  unfolding replaced
  replaced_next n k b =
      ap₂ (λ (x y : List ℕ). x ++ (write k b ++ y))
      (ap (λ (m : ℕ). take m (w ++ s)) (start_behind w s e n) ∙ take-append-add w s (start_of s n))
      (ap (λ (m : ℕ). drop m (w ++ s)) (start_behind w s e (suc n)) ∙ drop-append-add w s (start_of s (suc n)))
      ∙ append_assoc w (take (start_of s n) s) _

-- an instance by its first record
data Split : List ℕ → Type 0 where
  split : {kind start len : ℕ} (w s : List ℕ) → record_at w 0 ≡ Whole kind start len (length w) → Split (w ++ s)

split_at : (i : List ℕ) (kind start len next : ℕ) → record_at i 0 ≡ Whole kind start len next → Split i
split_at i kind start len next e =
    let w = whole_in_law i 0 kind start len next e in
    subst Split (take-append-drop next i)
    (split (take next i) (drop next i) (record_within i 0 kind start len next e ∙ ap (Whole kind start len) (sym (length-take-le next i w.within))))

split_of : (i ks : List ℕ) → 0 < length ks → Lays i ks (records i 0) → Split i
unfolding Lays
split_of i [] l h = absurd (omega arith)
split_of i (k ∷ ks) l h = go (record_at i 0) refl
  where
    go : (r : RecordAt) → record_at i 0 ≡ r → Split i
    go (Whole kind start len next) e = split_at i kind start len next e
    go Broken e = absurd (rw (records_broken i 0 e) at h)
    go End e = absurd (rw (records_end i 0 e) at h)

-- ---- what an edit of property n leaves: the new record, and all others as they were
record Edited (ks i j : List ℕ) (n : ℕ) (new : Held) : Type 0 where
  lays : Lays j ks (records j 0)
  this : held_for j n ≡ new
  others : (m : ℕ) → (m ≡ n → ⊥) → held_for i m ≡ held_for j m

module _ (kind : ℕ) (b : List ℕ) (fits : kind < 65536) (short : length b < 65536) where
  edit_first : (w s : List ℕ) {k a l : ℕ} → record_at (w ++ s) 0 ≡ Whole k a l (length w) → (asked : ℕ) (ks : List ℕ) → Slot asked kind b (HasKind (kind_of asked) b)
      → Lays s ks (records s 0) → Edited (asked ∷ ks) (w ++ s) (write kind b ++ s) 0 (held kind b)
  edit_first w s e asked ks slot h =
      record {
        lays = lays_write asked kind b s ks fits short slot h;
        this = first_held (write kind b) s (read_first kind b s fits short) ∙ ap (held kind) (read_body kind b s fits short);
        others = others;
      }
    where
      others : (m : ℕ) → (m ≡ 0 → ⊥) → held_for (w ++ s) m ≡ held_for (write kind b ++ s) m
      others zero d = absurd (d refl)
      others (suc m) d = next_held w s e m ∙ sym (next_held (write kind b) s (read_first kind b s fits short) m)

  edit_later : (w s s' : List ℕ) {k a l : ℕ} → record_at w 0 ≡ Whole k a l (length w) → (asked : ℕ) (ks : List ℕ) (n : ℕ)
      → Slot asked k (part (w ++ s) a l) (HasKind (kind_of asked) (part (w ++ s) a l)) → Edited ks s s' n (held kind b)
      → Edited (asked ∷ ks) (w ++ s) (w ++ s') (suc n) (held kind b)
  edit_later w s s' {k} {a} {l} e asked ks n slot again =
      record {
        lays = lays_first w s' (stands s') asked ks (subst (λ (x : List ℕ). Slot asked k x (HasKind (kind_of asked) x)) body slot) again.lays;
        this = next_held w s' (stands s') n ∙ again.this;
        others = others;
      }
    where
      stands : (x : List ℕ) → record_at (w ++ x) 0 ≡ Whole k a l (length w)
      stands x = record_stays w x 0 k a l (length w) e

      body : part (w ++ s) a l ≡ part (w ++ s') a l
      body = let i = whole_in_law w 0 k a l (length w) e in part_stays w s a l (omega (arith, i.ends)) ∙ sym (part_stays w s' a l (omega (arith, i.ends)))

      others : (m : ℕ) → (m ≡ suc n → ⊥) → held_for (w ++ s) m ≡ held_for (w ++ s') m
      others zero d = first_held w s (stands s) ∙ ap (held k) body ∙ sym (first_held w s' (stands s'))
      others (suc m) d = next_held w s (stands s) m ∙ again.others m (λ f. d (ap suc f)) ∙ sym (next_held w s' (stands s') m)

  edit : (ks : List ℕ) (n : ℕ) {i : List ℕ} → Split i → n < length ks → Slot (get_or ks n 0) kind b (HasKind (kind_of (get_or ks n 0)) b) → Lays i ks (records i 0)
      → Edited ks i (replaced i n kind b) n (held kind b)
  edit [] n v h slot l = absurd (omega arith)
  edit (k ∷ ks) zero (split w s e) h slot l =
      let stands = record_stays w s 0 _ _ _ (length w) e in
      rw (replaced_first w s stands kind b) (edit_first w s stands k ks slot (first_lays w s stands k ks l).1)
  edit (k ∷ ks) (suc n) (split w s e) h slot l =
      let stands = record_stays w s 0 _ _ _ (length w) e in
      let f = first_lays w s stands k ks l in
      rw (replaced_next w s stands n kind b) (edit_later w s (replaced s n kind b) e k ks n f.0 (edit ks n (split_of s ks (omega arith) f.1) (omega arith) slot f.1))

-- ---- the theorem
kind_below : (k : ℕ) (b : List ℕ) → HasKind (kind_of k) b → k < 65536
kind_below k b h = go (ltb k 65536) refl
  where
    go : (below : Bool) → ltb k 65536 ≡ below → k < 65536
    go true e = ltb-true k 65536 e
    go false e =
        let l = ltb-false k 65536 e in
        let d = mod-add-div k 0x0100 in
        absurd (rw (sym (kind_none k (λ f. omega arith) (λ f. omega arith))) at h)

slot_below : (asked kind : ℕ) (b : List ℕ) → Slot asked kind b (HasKind (kind_of asked) b) → kind < 65536
slot_below asked kind b (inl null) = omega (arith, null.0)
slot_below asked kind b (inr is) = let h = kind_below asked b is.1 in omega (arith, is.0)

module _ (t i : List ℕ) (n kind : ℕ) (b : List ℕ) (c : Conforms t i) (r : Replaces t i n kind b) where
  body_short : length b < 65536
  unfolding replaced
  body_short =
      let after = write kind b ++ drop (start_of i (suc n)) i in
      omega (arith, r.within, length-append (take (start_of i n) i) after, length-append (write kind b) (drop (start_of i (suc n)) i), length_write kind b)

  edited : Edited (kinds_of t) i (replaced i n kind b) n (held kind b)
  edited =
      let first = split_of i (kinds_of t) (omega (arith, r.property)) c.lays in
      edit kind b (slot_below (get_or (kinds_of t) n 0) kind b r.allowed) body_short (kinds_of t) n first r.property r.allowed c.lays

  pub replaced_conforms : Conforms t (replaced i n kind b)
  replaced_conforms = record { free = c.free; short = r.within; lays = edited.lays }

  pub replaced_this : held_for (replaced i n kind b) n ≡ held kind b
  replaced_this = edited.this

  pub replaced_others : SameBut n t i (replaced i n kind b)
  replaced_others m l d = edited.others m d

  -- a query that doesn't name the property can't react
  pub replaced_same : (q : List ℕ) → (Member n (named_properties q t) → ⊥) → evaluate q t i ≡ evaluate q t (replaced i n kind b)
  replaced_same q out = unnamed_changed q t i (replaced i n kind b) c replaced_conforms n out replaced_others
