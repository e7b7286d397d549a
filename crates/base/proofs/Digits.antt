-- Laws of digits and of the numbers they write, over the base and the number of digits.
use mathlib.Core.Path.{◌≡◌, refl, sym, ◌∙◌, subst}
use mathlib.Core.Bool.{Bool, true, false, ◌&&◌}
use mathlib.Core.List.{List}
use mathlib.Core.Logic.{◌⊎◌, inl, inr}
use Prim.Native.Nat.{ℕ, zero, suc, ◌+◌, ◌-◌, ◌*◌, ◌/◌, ◌^◌, ◌≤◌, ◌<◌}
use native.Mathlib.Numerals.{add-one}
use native.Mathlib.Nat.{div-lt_iff_lt-mul, mul-one, mul-le-mul_left, mul-le-mul_right, eq-or-lt_of_le, le_of_suc-le-suc, pow-succ', pow-zero}
use native.Mathlib.Omega.{arith}
use lib.Dec.{leb, ltb}
use borrow.Author.Tests.{le-leb, lt-leb, leb-true, leb-false, lt-ltb, ltb-true}
use Rattle.base.specs.Part.{byte_at}
use Rattle.base.specs.Range.{within}
use Rattle.base.specs.Digit.{digit_of, all_digits, value_of, size_under}
use Rattle.std.specs.Prelude.{Option, Some, None}
use Rattle.base.proofs.Says.{and_both}

-- the ends of a range
pub within_low : (low high b : ℕ) → true ≡ within low high b → low ≤ b
unfolding within
within_low low high b h = leb-true low b (and_both (leb low b) (leb b high) (sym h)).0

pub within_high : (low high b : ℕ) → true ≡ within low high b → b ≤ high
unfolding within
within_high low high b h = leb-true b high (and_both (leb low b) (leb b high) (sym h)).1

-- a run of digits, one byte longer
pub digits_more : {all d : Bool} (base : ℕ) (s : List ℕ) (at i : ℕ) → all ≡ all_digits base s at i → d ≡ ltb (digit_of (byte_at s (at + i))) base → (all && d) ≡ all_digits base s at (i + 1)
unfolding all_digits
digits_more base s at i e f = rw (add-one i, ← e, ← f)

pub digits_next : {d : ℕ} (base : ℕ) (s : List ℕ) (at i : ℕ) → all_digits base s at i ≡ true → d ≡ digit_of (byte_at s (at + i)) → d < base → all_digits base s at (i + 1) ≡ true
digits_next base s at i h e l = sym (digits_more base s at i (sym h) (sym (rw (← e) (lt-ltb _ _ l))))

-- each byte of a run of digits is one
pub digit_in : (base : ℕ) (s : List ℕ) (at n i : ℕ) → all_digits base s at n ≡ true → i < n → ltb (digit_of (byte_at s (at + i))) base ≡ true
unfolding all_digits
digit_in base s at zero i d l = absurd (none l)
  where
    none : i < 0 → ⊥
    none k = omega arith
digit_in base s at (suc n) i d l = go (eq-or-lt_of_le (le_of_suc-le-suc l)) (λ k. digit_in base s at n i (and_both _ _ d).0 k)
  where
    go : (i ≡ n) ⊎ (i < n) → (i < n → ltb (digit_of (byte_at s (at + i))) base ≡ true) → ltb (digit_of (byte_at s (at + i))) base ≡ true
    go (inl e) r = rw e (and_both (all_digits base s at n) (ltb (digit_of (byte_at s (at + n))) base) d).1
    go (inr k) r = r k

-- a part of a run of digits
pub digits_inside : (base : ℕ) (s : List ℕ) (at n from m : ℕ) → at ≤ from → from + m ≤ at + n → all_digits base s at n ≡ true → all_digits base s from m ≡ true
unfolding all_digits
digits_inside base s at n from zero g h d = refl
digits_inside base s at n from (suc m) g h d =
    let e : at + (from + m - at) ≡ from + m = omega arith in
    let x = digit_in base s at n (from + m - at) d (omega arith) in
    rw (digits_inside base s at n from m g (omega arith) d) (subst (λ (k : ℕ). ltb (digit_of (byte_at s k)) base ≡ true) e x)

-- n digits of a base write a number below its n-th power
pub value_below : (base : ℕ) (s : List ℕ) (at n : ℕ) → all_digits base s at n ≡ true → value_of base 0 s at n < base ^ n
unfolding all_digits value_of
value_below base s at zero h = omega (arith, pow-zero base)
value_below base s at (suc n) h =
    let p = and_both (all_digits base s at n) (ltb (digit_of (byte_at s (at + n))) base) h in
    let v = value_below base s at n p.0 in
    let d = ltb-true (digit_of (byte_at s (at + n))) base p.1 in
    omega (arith, pow-succ' base n, mul-le-mul_right base v)

-- values, one digit longer
pub value_next : (base v₀ v : ℕ) (s : List ℕ) (at i d : ℕ) → v ≡ value_of base v₀ s at i → d ≡ digit_of (byte_at s (at + i)) → v * base + d ≡ value_of base v₀ s at (i + 1)
unfolding value_of
value_next base v₀ v s at i d e f = rw (add-one i, ← e, ← f)

step_up : (base m d : ℕ) → 0 < base → m ≤ m * base + d
step_up base m d h = omega (arith, mul-le-mul_left {m = 1} {n = base} m h, mul-one m)

pub value_grows : (base v : ℕ) (s : List ℕ) (at i n : ℕ) → 0 < base → i ≤ n → value_of base v s at i ≤ value_of base v s at n
unfolding value_of
value_grows base v s at i zero b h = let z : i ≡ 0 = omega arith in rw z (omega arith)
value_grows base v s at i (suc n) b h = go (eq-or-lt_of_le h) (λ l. value_grows base v s at i n b l)
  where
    go : (i ≡ suc n) ⊎ (i < suc n) → (i ≤ n → value_of base v s at i ≤ value_of base v s at n) → value_of base v s at i ≤ value_of base v s at n * base + digit_of (byte_at s (at + n))
    go (inl e) r = rw e (omega arith)
    go (inr l) r = omega (arith, r (le_of_suc-le-suc l), step_up base (value_of base v s at n) (digit_of (byte_at s (at + n))) b)

-- the loop's test says whether one more digit keeps the number within the limit
pub fits_more : (base limit v d : ℕ) → 0 < base → d ≤ limit → v ≤ (limit - d) / base → v * base + d ≤ limit
fits_more base limit v d b l h = go (leb (v * base + d) limit) refl
  where
    no : limit < v * base + d → ⊥
    no k = omega (arith, (div-lt_iff_lt-mul {k = base} {x = limit - d} {y = v} b).1 (omega arith))

    go : (t : Bool) → leb (v * base + d) limit ≡ t → v * base + d ≤ limit
    go true e = leb-true _ _ e
    go false e = absurd (no (leb-false _ _ e))

pub over_more : (base limit v d : ℕ) → 0 < base → d ≤ limit → (limit - d) / base < v → limit < v * base + d
over_more base limit v d b l h = omega (arith, (div-lt_iff_lt-mul {k = base} {x = limit - d} {y = v} b).0 h)

pub size_fits : (limit v n : ℕ) → v ≡ n → v ≤ limit → Some v ≡ size_under limit n
unfolding size_under
size_fits limit v n e h = rw (← e, le-leb v limit h)

pub size_large : (limit v n : ℕ) → limit < v → v ≤ n → None ≡ size_under limit n
unfolding size_under
size_large limit v n h k = rw (lt-leb n limit (omega arith))

-- what a size tells of the number that it was made of
module _ {s : Option ℕ} (limit n : ℕ) (e : s ≡ size_under limit n) where
  pub fits_value : (v : ℕ) → s ≡ Some v → v ≡ n
  unfolding size_under
  fits_value v f = go (leb n limit) refl
    where
      go : (t : Bool) → leb n limit ≡ t → v ≡ n
      go true h = let z : Some n ≡ Some v = sym (e ∙ rw h refl) ∙ f in cc
      go false h = let z : None ≡ Some v = sym (e ∙ rw h refl) ∙ f in cc

  pub large_value : s ≡ None → limit < n
  unfolding size_under
  large_value f = go (leb n limit) refl
    where
      go : (t : Bool) → leb n limit ≡ t → limit < n
      go true h = let z : Some n ≡ None = sym (e ∙ rw h refl) ∙ f in let y : ◌≡◌ {A = ℕ} 0 1 = cc in omega arith
      go false h = leb-false n limit h

  pub fits_limit : (v : ℕ) → s ≡ Some v → v ≤ limit
  unfolding size_under
  fits_limit v f = go (leb n limit) refl
    where
      go : (t : Bool) → leb n limit ≡ t → v ≤ limit
      go true h = let z : Some n ≡ Some v = sym (e ∙ rw h refl) ∙ f in let y : v ≡ n = cc in rw y (leb-true n limit h)
      go false h = let z : None ≡ Some v = sym (e ∙ rw h refl) ∙ f in let y : ◌≡◌ {A = ℕ} 0 1 = cc in omega arith
