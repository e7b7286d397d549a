-- One law for each exit of `src/conjoin.rt`.
use Rattle.std.specs.Prelude.{Err, Ok, Result}
use Prim.Native.Nat.{ℕ, ◌≤◌, ◌<◌}
use mathlib.Core.Path.{◌≡◌, refl, sym, ap, ◌∙◌, subst}
use mathlib.Core.List.{List, ◌++◌}
use mathlib.Core.Bool.{Bool, true, false, ◌||◌}
use native.Mathlib.Omega.{arith}
use native.Mathlib.Nat.{zero-add}
use lib.ListN.{length, drop}
use lib.Seq.{sets, sets-eq}
use lib.Dec.{ltb}
use borrow.Author.Tests.{lt-ltb, le-ltb}
use Rattle.base.specs.Pick.{pick}
use Rattle.base.specs.Part.{part}
use Rattle.text_writer.specs.Written.{Written}
use Rattle.text_writer.proofs.Written.{written_whole}
use Rattle.filter.specs.Check.{check}
use Rattle.filter.specs.declared.refusal.Refusal.{Refusal}
use Rattle.filter.proofs.Accepted.{accepts}
use Rattle.conjunction.specs.declared.refusal.ConjoinCause.{ConjoinCause}
use Rattle.conjunction.specs.declared.refusal.ConjoinCause.TheVariants.{First, Second, Size, Buffer}
use Rattle.conjunction.specs.Conjunction.{conjunction, comparisons_of, is_too_large}
use Rattle.conjunction.specs.Conjoin.{refused, conjoin_accepted, conjoin_second, conjoin_first, conjoin, buffer_by, buffer_after}
use Rattle.conjunction.specs.declared.refusal.ConjoinRefusal.{ConjoinRefusal}

either : (a b : Bool) → b ≡ true → (a || b) ≡ true
either true b e = refl
either false b e = e

module _ (q p : List ℕ) where
  pub refused_leaves : (b : List ℕ) {r : Result ℕ ConjoinRefusal} {c : ConjoinCause} → r ≡ refused c 0 → b ≡ buffer_by q p b r
  refused_leaves b e = sym (ap (buffer_by q p b) e)

  too_large : {r : Result ℕ ConjoinRefusal} (size : ℕ) → r ≡ refused Size 0 → is_too_large q p ≡ true → r ≡ conjoin_accepted q p size
  too_large size e h = e ∙ sym (ap (λ (x : Bool). pick x (refused Size 0) (pick (ltb size (length (conjunction q p))) (refused Buffer 0) (Ok (length (conjunction q p))))) h)

  module _ {n : ℕ} (count : n ≡ comparisons_of q p) where
    pub too_many : {r : Result ℕ ConjoinRefusal} (size : ℕ) → 64 < n → r ≡ refused Size 0 → r ≡ conjoin_accepted q p size
    unfolding is_too_large
    too_many size h e = too_large size e (ap (λ (x : Bool). x || ltb 4096 (length (conjunction q p))) (lt-ltb 64 (comparisons_of q p) (subst (λ (x : ℕ). 64 < x) count h)))

    module _ {s t : List ℕ} {m : ℕ} (room : length s ≡ 4097) (w : Written s 0 (conjunction q p) m t) where
      pub too_long : {r : Result ℕ ConjoinRefusal} (size : ℕ) → 4096 < m → r ≡ refused Size 0 → r ≡ conjoin_accepted q p size
      unfolding is_too_large
      too_long size h e = too_large size e (either (ltb 64 (comparisons_of q p)) (ltb 4096 (length (conjunction q p))) (lt-ltb 4096 (length (conjunction q p)) (omega (arith, w.ends, room))))

      module _ (few : n ≤ 64) (short : m ≤ 4096) where
        whole : m ≡ length (conjunction q p)
        whole = omega (arith, w.ends, room)

        fits : is_too_large q p ≡ false
        unfolding is_too_large
        fits = rw (le-ltb 64 (comparisons_of q p) (subst (λ (x : ℕ). x ≤ 64) count few), le-ltb 4096 (length (conjunction q p)) (omega (arith, whole))) refl

        pub too_short : {r : Result ℕ ConjoinRefusal} (size : ℕ) → size < m → r ≡ refused Buffer 0 → r ≡ conjoin_accepted q p size
        too_short size h e = e ∙ sym (rw (fits, lt-ltb size (length (conjunction q p)) (omega (arith, whole))) refl)

        pub written_length : (size : ℕ) → m ≤ size → Ok m ≡ conjoin_accepted q p size
        written_length size h = sym (rw (fits, le-ltb size (length (conjunction q p)) (omega (arith, whole))) (ap Ok (sym whole)))

        pub written_text : {x b c : List ℕ} {k : ℕ} → m ≤ length b → x ≡ part t 0 m → Written b 0 x k c → c ≡ buffer_by q p b (Ok m)
        written_text {x} {b} {c} {k} h e v =
            let z : x ≡ conjunction q p = e ∙ written_whole w (omega (arith, whole, room)) in
            v.stores ∙ ap (sets b 0) z ∙ sets-eq (conjunction q p) b 0 (omega (arith, whole)) ∙ ap (λ (j : ℕ). conjunction q p ++ drop j b) (zero-add (length (conjunction q p)) ∙ sym whole)

-- ---- the two checks before it
pub accepted_short : (q t : List ℕ) {v : Result (Unit {0}) Refusal} → v ≡ check q t → v ≡ Ok tt → length q ≤ 4096
accepted_short q t e f = (accepts q t (sym e ∙ f)).short

module _ (q p t : List ℕ) where
  after_by : (b : List ℕ) {r : Result ℕ ConjoinRefusal} → r ≡ conjoin q p t (length b) → buffer_by q p b r ≡ buffer_after q p t b
  unfolding buffer_after
  after_by b e = ap (buffer_by q p b) e

  module _ {v : Result (Unit {0}) Refusal} (ev : v ≡ check q t) where
    by_first : (size : ℕ) {w : Result (Unit {0}) Refusal} → v ≡ w → conjoin_first q p t size w ≡ conjoin q p t size
    unfolding conjoin
    by_first size e = ap (conjoin_first q p t size) (sym e ∙ ev)

    module _ {r : Refusal} (e : v ≡ Err r) where
      pub first_refused : (size : ℕ) {x : ConjoinRefusal} → x ≡ record { cause = First r.cause; place = r.place } → Err x ≡ conjoin q p t size
      first_refused size f = ap Err f ∙ by_first size e

      pub first_leaves : (b : List ℕ) → b ≡ buffer_after q p t b
      first_leaves b = after_by b (by_first (length b) e)

    module _ (e : v ≡ Ok tt) {u : Result (Unit {0}) Refusal} (eu : u ≡ check p t) where
      by_second : (size : ℕ) {w : Result (Unit {0}) Refusal} → u ≡ w → conjoin_second q p size w ≡ conjoin q p t size
      by_second size f = ap (conjoin_second q p size) (sym f ∙ eu) ∙ by_first size e

      module _ {r : Refusal} (f : u ≡ Err r) where
        pub second_refused : (size : ℕ) {x : ConjoinRefusal} → x ≡ record { cause = Second r.cause; place = r.place } → Err x ≡ conjoin q p t size
        second_refused size g = ap Err g ∙ by_second size f

        pub second_leaves : (b : List ℕ) → b ≡ buffer_after q p t b
        second_leaves b = after_by b (by_second (length b) f)

      module _ (f : u ≡ Ok tt) {r : Result ℕ ConjoinRefusal} where
        pub both_answer : (size : ℕ) → r ≡ conjoin_accepted q p size → r ≡ conjoin q p t size
        both_answer size g = g ∙ by_second size f

        pub both_leave : (b : List ℕ) {c : List ℕ} → r ≡ conjoin_accepted q p (length b) → c ≡ buffer_by q p b r → c ≡ buffer_after q p t b
        both_leave b g h = h ∙ after_by b (both_answer (length b) g)
