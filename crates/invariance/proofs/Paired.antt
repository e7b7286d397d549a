-- Records in pairs: what stands at two places with pairs from there on, and that names that agree make two tables of one length.
use Prim.Native.Nat.{ℕ, zero, suc, ◌-◌, ◌≤◌, ◌<◌}
use mathlib.Core.Path.{◌≡◌, refl, sym, ap, ◌∙◌}
use mathlib.Core.List.{List}
use native.Mathlib.Omega.{arith}
use lib.ListN.{length}
use Rattle.base.specs.Part.{part}
use Rattle.base.proofs.Lists.{part_length}
use Rattle.record.specs.Record.{record_at, Records, item, broken, ended, records}
use Rattle.record.specs.declared.read.RecordAt.{RecordAt}
use Rattle.record.specs.declared.read.RecordAt.TheVariants.{Whole, Broken, End}
use Rattle.record.proofs.Records.{whole_in_law, at_last, records_whole, records_broken, records_end}
use Rattle.invariance.specs.Wider.{Paired, ends, both, SameName}

module _ (s u : List ℕ) (Pair : (kind : ℕ) (body : List ℕ) (other : ℕ) (stored : List ℕ) → Type 0) where
  -- a record stands at both places, or both are at the end
  pub data Stand (at place : ℕ) : Type 0 where
    at_end_law : record_at s at ≡ End → record_at u place ≡ End → Stand at place
    at_record : {k a n x l b m y : ℕ} → record_at s at ≡ Whole k a n x → record_at u place ≡ Whole l b m y → Pair k (part s a n) l (part u b m)
        → Paired s u Pair (records s x) (records u y) → Stand at place

  first : {p k a n o l b m : ℕ} {rs qs : Records} → Paired s u Pair (item p k a n rs) (item o l b m qs) → Pair k (part s a n) l (part u b m)
  first (both w r) = w

  rest : {p k a n o l b m : ℕ} {rs qs : Records} → Paired s u Pair (item p k a n rs) (item o l b m qs) → Paired s u Pair rs qs
  rest (both w r) = r

  -- beside an item stands an item, and beside the end the end
  abbrev Beside : Records → Records → Type 0
  Beside (item p k a n rs) (item o l b m qs) = Unit
  Beside (item p k a n rs) (broken o) = ⊥
  Beside (item p k a n rs) ended = ⊥
  Beside (broken p) qs = ⊥
  Beside ended (item o l b m qs) = ⊥
  Beside ended (broken o) = ⊥
  Beside ended ended = Unit

  beside : {rs qs : Records} → Paired s u Pair rs qs → Beside rs qs
  beside ends = tt
  beside (both w r) = tt

  pub stand : (at place : ℕ) → Paired s u Pair (records s at) (records u place) → Stand at place
  stand at place w = go (record_at s at) (record_at u place) refl refl
    where
      go : (r v : RecordAt) → record_at s at ≡ r → record_at u place ≡ v → Stand at place
      go (Whole k a n x) (Whole l b m y) e f =
          let h = rw (records_whole s at k a n x e, records_whole u place l b m y f) at w in at_record e f (first h) (rest h)
      go (Whole k a n x) Broken e f = absurd (rw (records_whole s at k a n x e, records_broken u place f) at (beside w))
      go (Whole k a n x) End e f = absurd (rw (records_whole s at k a n x e, records_end u place f) at (beside w))
      go Broken v e f = absurd (rw (records_broken s at e) at (beside w))
      go End (Whole l b m y) e f = absurd (rw (records_end s at e, records_whole u place l b m y f) at (beside w))
      go End Broken e f = absurd (rw (records_end s at e, records_broken u place f) at (beside w))
      go End End e f = at_end_law e f

-- the same names: as many bytes from there on
module _ (t u : List ℕ) where
  Left : (at place : ℕ) → Type 0
  Left at place = at ≤ length t → place ≤ length u → Paired t u SameName (records t at) (records u place) → length t - at ≡ length u - place

  left_step : (at place : ℕ) → ((x y : ℕ) → at < x → Left x y) → at ≤ length t → place ≤ length u → Stand t u SameName at place
      → length t - at ≡ length u - place
  unfolding Left
  left_step at place again h g (at_end_law e f) = omega (arith, at_last t at e, at_last u place f)
  left_step at place again h g (at_record {k} {a} {n} {x} {l} {b} {m} {y} e f z r) =
      let i = whole_in_law t at k a n x e in
      let j = whole_in_law u place l b m y f in
      let o : n ≡ m = sym (part_length t a n (omega arith)) ∙ ap length z.1 ∙ part_length u b m (omega arith) in
      let v = again x y (omega arith) (omega arith) (omega arith) r in
      omega arith

  left_from : (f at place : ℕ) → length t - at < f → Left at place
  unfolding Left
  left_from zero at place d h g w = absurd (omega arith)
  left_from (suc f) at place d h g w =
      left_step at place (λ x y l p. left_from f x y (omega arith) p) h g (stand t u SameName at place w)

  pub same_length : Paired t u SameName (records t 0) (records u 0) → length u ≡ length t
  unfolding Left
  same_length w = omega (arith, left_from (suc (length t)) 0 0 (omega arith) (omega arith) (omega arith) w)
