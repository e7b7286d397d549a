-- What a real literal is made of, at each exit.
use Rattle.std.proofs.Common.{◌≡◌, ℕ, zero, suc, ◌+◌, ◌-◌, ◌^◌, ◌<◌, ◌≤◌, Bool, true, false, ltb, ℤ, pos, neg_ℤ, sym, refl, ap, ◌∙◌, arith, ltb-true, le-ltb, lt-ltb, le-leb}
use lib.Ieee.{binary64, of_int, div}
use Rattle.real.specs.Real.{power_of_ten, magnitude, real_with, real_of, in_range, exponent_of}
use Rattle.real.specs.Scale.{scale_of}
use Rattle.real.specs.declared.Real.{Real}
use Rattle.std.specs.Prelude.{Option, Some, None}
use Rattle.real.specs.declared.scale.Scale.{Scale}
use Rattle.real.specs.declared.scale.Scale.TheVariants.{Up, Down}
use Rattle.real.proofs.Scales.{up_is, down_is, beyond_is, below_sum, above_rest, up_beyond, down_beyond}

pub divided : (d k : ℕ) → 0 < k → div binary64 (of_int binary64 (pos d)) (power_of_ten k) ≡ magnitude d (neg_ℤ (pos k))
unfolding magnitude
divided d zero h = absurd (no h)
  where
    no : 0 < 0 → ⊥
    no l = omega arith
divided d (suc k) h = refl

pub too_many_digits : (negative : Bool) (d : ℕ) (e : ℤ) → 10 ^ 15 ≤ d → None ≡ real_of negative d e
unfolding real_of
too_many_digits negative d e h = rw (le-ltb d (10 ^ 15) h)

down_within_range : (d k : ℕ) → d < 10 ^ 15 → 0 < k → k ≤ 22 → in_range d (neg_ℤ (pos k)) ≡ true
down_within_range d zero few a b = absurd (no a)
  where
    no : 0 < 0 → ⊥
    no l = omega arith
down_within_range d (suc k) few a b = rw (lt-ltb d (10 ^ 15) few, le-leb k 21 (omega arith))

range_past : (d : ℕ) (e : ℤ) → scale_of e ≡ None → in_range d e ≡ false
range_past d e h = go (ltb d (10 ^ 15)) refl
  where
    go : (b : Bool) → ltb d (10 ^ 15) ≡ b → in_range d e ≡ false
    go true l = beyond_is d e (ltb-true d (10 ^ 15) l) h
    go false l = rw l

-- what the scale tells of the index of a power
module _ (e : ℤ) {s : Option Scale} (scale : s ≡ scale_of e) where
  pub up_most : {t : Scale} (k : ℕ) → s ≡ Some t → t ≡ Up k → k < 23
  up_most k h i = omega (arith, (up_is e k (sym scale ∙ h ∙ ap Some i)).most)

  pub down_some : {t : Scale} (k : ℕ) → s ≡ Some t → t ≡ Down k → 0 < k
  down_some k h i = (down_is e k (sym scale ∙ h ∙ ap Some i)).some

  pub down_most : {t : Scale} (k : ℕ) → s ≡ Some t → t ≡ Down k → k < 23
  down_most k h i = omega (arith, (down_is e k (sym scale ∙ h ∙ ap Some i)).most)

module _ (negative : Bool) (d : ℕ) (e : ℤ) (few : d < 10 ^ 15) {s : Option Scale} (scale : s ≡ scale_of e) where
  pub up_made : {t : Scale} {r : Real} (k : ℕ) → s ≡ Some t → t ≡ Up k → r ≡ real_with negative d (pos k) → Some r ≡ real_of negative d e
  unfolding real_of
  up_made k h j m = let i = up_is e k (sym scale ∙ h ∙ ap Some j) in rw (i.is, lt-ltb d (10 ^ 15) few, le-leb k 22 i.most) (ap Some m)

  pub down_made : {t : Scale} {r : Real} (k : ℕ) → s ≡ Some t → t ≡ Down k → r ≡ real_with negative d (neg_ℤ (pos k)) → Some r ≡ real_of negative d e
  unfolding real_of
  down_made k h j m = let i = down_is e k (sym scale ∙ h ∙ ap Some j) in rw (i.is, down_within_range d k few i.some i.most) (ap Some m)

  pub beyond_made : s ≡ None → None ≡ real_of negative d e
  unfolding real_of
  beyond_made h = rw (beyond_is d e few (sym scale ∙ h))

-- an exponent is out of range from 23 more than the digits after the point on, whatever its sign: a reader may clip it there
pub exponent_too_large : (negative : Bool) (d : ℕ) (below : Bool) (size after : ℕ) → 22 + after < size → None ≡ real_of negative d (exponent_of below size after)
unfolding real_of
exponent_too_large negative d true size after h =
    rw (below_sum size after, range_past d (neg_ℤ (pos (size + after))) (sym (down_beyond (size + after) (omega arith))))
exponent_too_large negative d false size after h =
    rw (above_rest size after (omega arith), range_past d (pos (size - after)) (sym (up_beyond (size - after) (omega arith))))
