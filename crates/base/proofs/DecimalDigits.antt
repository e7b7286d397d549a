-- A digit of base 10 is an ASCII digit, `0` to `9`, and writes its byte less 48.
use mathlib.Core.Path.{◌≡◌, refl, sym, ◌∙◌}
use mathlib.Core.Bool.{Bool, true, false}
use mathlib.Core.List.{List}
use Prim.Native.Nat.{ℕ, ◌+◌, ◌-◌, ◌*◌, ◌≤◌, ◌<◌}
use native.Mathlib.Nat.{pow-le-pow_right}
use native.Mathlib.Omega.{arith}
use lib.Dec.{ltb}
use borrow.Author.Tests.{ltb-true, lt-ltb, le-leb}
use Rattle.base.specs.Pick.{pick}
use Rattle.base.specs.Part.{byte_at}
use Rattle.base.specs.Range.{within}
use Rattle.base.specs.Digit.{digit_of, all_digits, value_of}
use Rattle.base.proofs.Says.{Says}
use Rattle.base.proofs.Digits.{within_low, within_high, digit_in, digits_inside, value_below, value_next}

inside : (b : ℕ) → (48 ≤ b) × (b ≤ 57) → within 48 57 b ≡ true
unfolding within
inside b h = rw (le-leb 48 b h.0, le-leb b 57 h.1)

pub decimal_digit : (b : ℕ) → Says (ltb (digit_of b) 10) ((48 ≤ b) × (b ≤ 57))
unfolding digit_of
decimal_digit b = record { to = λ e. to (within 48 57 b) refl (within 65 70 b) refl (within 97 102 b) refl (ltb-true _ 10 e); from = back }
  where
    to : (p : Bool) → within 48 57 b ≡ p → (q : Bool) → within 65 70 b ≡ q → (r : Bool) → within 97 102 b ≡ r → pick p (b - 48) (pick q (b - 55) (pick r (b - 87) 16)) < 10 → (48 ≤ b) × (b ≤ 57)
    to true e q f r g h = (within_low 48 57 b (sym e), within_high 48 57 b (sym e))
    to false e true f r g h = let l = within_low 65 70 b (sym f) in (omega arith, omega arith)
    to false e false f true g h = let l = within_low 97 102 b (sym g) in (omega arith, omega arith)
    to false e false f false g h = (omega arith, omega arith)

    back : (48 ≤ b) × (b ≤ 57) → ltb (digit_of b) 10 ≡ true
    back h = rw (inside b h) (lt-ltb (b - 48) 10 (omega arith))

pub decimal_digits : (s : List ℕ) (at n i : ℕ) → all_digits 10 s at n ≡ true → i < n → (48 ≤ byte_at s (at + i)) × (byte_at s (at + i) ≤ 57)
decimal_digits s at n i h l = (decimal_digit (byte_at s (at + i))).to (digit_in 10 s at n i h l)

-- ---- as the code meets them
pub is_decimal : (b : ℕ) {r : Bool} → r ≡ within 48 57 b → r ≡ ltb (digit_of b) 10
is_decimal b e = e ∙ same (within 48 57 b) refl (ltb (digit_of b) 10) refl
  where
    same : (p : Bool) → within 48 57 b ≡ p → (q : Bool) → ltb (digit_of b) 10 ≡ q → p ≡ q
    same true f true g = refl
    same true f false g = sym ((decimal_digit b).from (within_low 48 57 b (sym f), within_high 48 57 b (sym f))) ∙ g
    same false f true g = sym f ∙ inside b ((decimal_digit b).to g)
    same false f false g = refl

module _ (s : List ℕ) (at n i : ℕ) (digits : all_digits 10 s at n ≡ true) (here : i < n) where
  pub decimal_from : 48 ≤ byte_at s (at + i)
  decimal_from = (decimal_digits s at n i digits here).0

  decimal_of : (b : ℕ) → (48 ≤ b) × (b ≤ 57) → b - 48 ≡ digit_of b
  unfolding digit_of
  decimal_of b h = rw (inside b h) refl

  pub decimal_next : {v d : ℕ} → v ≡ value_of 10 0 s at i → d ≡ byte_at s (at + i) - 48 → v * 10 + d ≡ value_of 10 0 s at (i + 1)
  decimal_next {v} e f = value_next 10 0 v s at i _ e (f ∙ decimal_of (byte_at s (at + i)) (decimal_digits s at n i digits here))

  -- so few digits write a number far below 2^64
  pub decimal_small : n ≤ 15 → {v : ℕ} → v ≡ value_of 10 0 s at i → v < 1000000000000000
  decimal_small h e =
      omega (arith, e, value_below 10 s at i (digits_inside 10 s at n at i (omega arith) (omega arith) digits), pow-le-pow_right {n = 10} (omega arith) {i = i} {j = 15} (omega arith))
