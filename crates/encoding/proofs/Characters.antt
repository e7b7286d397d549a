-- The characters of a text, one step at a time; there are no more of them than bytes; each is a scalar value. Assumes nothing.
use Prim.Native.Nat.{ℕ, zero, suc, ◌+◌, ◌-◌, ◌≤◌, ◌<◌}
use mathlib.Core.List.{List, [], ◌∷◌}
use mathlib.Core.Bool.{Bool, true, false}
use mathlib.Core.Path.{◌≡◌, refl, ap, sym, ◌∙◌}
use native.Mathlib.Omega.{arith}
use lib.ListN.{length}
use lib.Dec.{eqb}
use borrow.Author.Tests.{eq-eqb, ne_eqb, eqb-true, eqb-false}
use Rattle.base.specs.Pick.{pick}
use Rattle.base.proofs.Walk.{from_at}
use Rattle.encoding.specs.WellFormed.{sequence_at}
use Rattle.encoding.specs.Scalar.{is_scalar_value, scalar_at}
use Rattle.encoding.specs.Characters.{character_step, characters_from}
use Rattle.encoding.proofs.WellFormed.{sequence_fits, past_end}
use Rattle.encoding.proofs.ScalarValue.{scalar_at_value}

pub characters_at : (s : List ℕ) (at : ℕ) → characters_from s at ≡ character_step s at (characters_from s)
unfolding characters_from
characters_at s = from_at (character_step s) [] (length s) (λ at p q h. one at p q h (eqb (sequence_at s at) 0) refl)
  where
    one : (at : ℕ) (p q : ℕ → List ℕ) → ((next : ℕ) → at < next → next ≤ length s → p next ≡ q next) → (t : Bool) → eqb (sequence_at s at) 0 ≡ t
        → pick t [] (scalar_at s at ∷ p (at + sequence_at s at)) ≡ pick t [] (scalar_at s at ∷ q (at + sequence_at s at))
    one at p q h true e = refl
    one at p q h false e =
        let f = sequence_fits s at in
        let z = eqb-false (sequence_at s at) 0 e in
        ap (λ (l : List ℕ). scalar_at s at ∷ l) (h (at + sequence_at s at) (omega arith) (omega arith))

-- the next character, and the end
module _ (s : List ℕ) (at : ℕ) where
  pub characters_next : (sequence_at s at ≡ 0 → ⊥) → characters_from s at ≡ scalar_at s at ∷ characters_from s (at + sequence_at s at)
  characters_next n = characters_at s at ∙ rw (ne_eqb _ _ n)

  pub characters_stop : sequence_at s at ≡ 0 → characters_from s at ≡ []
  characters_stop e = characters_at s at ∙ rw (eq-eqb _ _ e)

  pub characters_end : length s ≤ at → characters_from s at ≡ []
  characters_end h = characters_stop (sym (past_end s at h))

-- what holds of the characters at each place, given that it holds at later ones, holds of them all
module _ (P : ℕ → List ℕ → Type 0) (s : List ℕ)
    (stop : (at : ℕ) → P at [])
    (next : (at : ℕ) → (sequence_at s at ≡ 0 → ⊥) → P (at + sequence_at s at) (characters_from s (at + sequence_at s at))
    → P at (scalar_at s at ∷ characters_from s (at + sequence_at s at))) where
  go : (f at : ℕ) → length s - at < f → P at (characters_from s at)
  go zero at h = absurd (omega arith)
  go (suc f) at h = by (eqb (sequence_at s at) 0) refl (λ n. go f (at + sequence_at s at) n)
    where
      by : (t : Bool) → eqb (sequence_at s at) 0 ≡ t
          → (length s - (at + sequence_at s at) < f → P (at + sequence_at s at) (characters_from s (at + sequence_at s at)))
          → P at (characters_from s at)
      by true e k = rw (characters_stop s at (eqb-true _ _ e)) (stop at)
      by false e k =
          let n = eqb-false (sequence_at s at) 0 e in
          let l = sequence_fits s at in
          rw (characters_next s at n) (next at n (k (omega arith)))

  pub through : (at : ℕ) → P at (characters_from s at)
  through at = go (suc (length s - at)) at (omega arith)

pub characters_fewer : (s : List ℕ) (at : ℕ) → length (characters_from s at) ≤ length s - at
characters_fewer s = through (λ at l. length l ≤ length s - at) s (λ at. omega arith) (λ at n h. omega (arith, sequence_fits s at))

-- every element of a list is a scalar value
pub data Scalars : List ℕ → Type 0 where
  none : Scalars []
  more : {v : ℕ} {l : List ℕ} → is_scalar_value v ≡ true → Scalars l → Scalars (v ∷ l)

pub characters_scalar : (s : List ℕ) (at : ℕ) → Scalars (characters_from s at)
characters_scalar s = through (λ at l. Scalars l) s (λ at. none) (λ at n h. more (scalar_at_value s at n) h)
