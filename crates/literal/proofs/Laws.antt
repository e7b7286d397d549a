-- One law for each exit of the readers of numbers.
use Rattle.std.specs.Prelude.{ℤ, None, Option, Some, Err, Ok}
use Prim.Native.Nat.{ℕ, ◌+◌, ◌-◌, ◌≤◌}
use mathlib.Core.Path.{◌≡◌, refl, ap}
use mathlib.Core.List.{List}
use mathlib.Core.Bool.{Bool}
use native.Mathlib.Omega.{arith}
use Rattle.base.specs.Digit.{value_of, size_under}
use Rattle.base.proofs.Digits.{fits_value, large_value, size_large, value_grows}
use Rattle.scan.specs.Class.{run}
use Rattle.scan.specs.declared.Class.TheVariants.{Digit}
use Rattle.real.specs.declared.Real.{Real}
use Rattle.real.specs.Real.{real_of, exponent_of}
use Rattle.real.proofs.Laws.{too_many_digits, exponent_too_large}
use Rattle.token.specs.declared.Form.{Form}
use Rattle.numeral.specs.Numeral.{signed}
use Rattle.literal.specs.Integer.{negative, base_of, lead_of, digit_count, magnitude_from, magnitude, with_sign, integer_by, integer_of}
use Rattle.literal.specs.RealLiteral.{digits_of, exponent_size, exponent_below, decoded_real, real_from}
use Rattle.literal.specs.declared.Literal.TheVariants as Literal
use Rattle.literal.specs.declared.LiteralFault.TheVariants as LiteralFault

-- D
module _ {s₁ : Option ℕ} (q : List ℕ) (s i f : ℕ) (ei : i ≡ run (Digit 10) q s) (ef : f ≡ run (Digit 10) q (i + 1)) (e : s₁ ≡ size_under 999999999999999 (value_of 10 0 q s (i - s))) where
  pub digits_whole : {s₂ : Option ℕ} (v : ℕ) → s₁ ≡ Some v → s₂ ≡ size_under 999999999999999 (value_of 10 v q (i + 1) (f - (i + 1))) → s₂ ≡ size_under 999999999999999 (digits_of q s)
  unfolding digits_of
  digits_whole v g h = rw (← ei, ← ef, ← fits_value _ _ e v g) h

  pub digits_large : s₁ ≡ None → None ≡ size_under 999999999999999 (digits_of q s)
  unfolding digits_of value_of
  digits_large g =
      size_large 999999999999999 (value_of 10 0 q s (i - s)) _ (large_value _ _ e g)
      (rw (← ei, ← ef) (value_grows 10 (value_of 10 0 q s (i - s)) q (i + 1) 0 (f - (i + 1)) (omega arith) (omega arith)))

-- the real from the digits after the sign on; i is the place of the point, f the end of the digits
module _ (q : List ℕ) (n : Bool) (s : ℕ) {i f : ℕ} {z : Option ℕ} (ei : i ≡ run (Digit 10) q s) (ef : f ≡ run (Digit 10) q (i + 1))
    (ez : z ≡ size_under 999999999999999 (digits_of q s)) where
  pub real_made : {y : Option ℕ} {b : Bool} {r : Option Real} (d e : ℕ) → z ≡ Some d → y ≡ size_under 0x8000000000000016 (exponent_size q f) → y ≡ Some e
      → b ≡ exponent_below q f → r ≡ real_of n d (exponent_of b e (f - (i + 1))) → decoded_real r ≡ real_from q n s
  unfolding real_from
  real_made d e g ey h eb er = rw (← ei, ← ef, ← fits_value _ _ ez d g, ← fits_value _ _ ey e h, ← eb, ← er) refl

  pub real_far : {y : Option ℕ} (d : ℕ) → z ≡ Some d → y ≡ size_under 0x8000000000000016 (exponent_size q f) → y ≡ None → f - (i + 1) ≤ 0x8000000000000000 → Err LiteralFault.OutOfRange ≡ real_from q n s
  unfolding real_from
  real_far d g ey h l =
      rw (← ei, ← ef, ← fits_value _ _ ez d g)
      (ap decoded_real (exponent_too_large n d (exponent_below q f) (exponent_size q f) (f - (i + 1)) (omega (arith, large_value _ _ ey h))))

  pub real_long : z ≡ None → Err LiteralFault.OutOfRange ≡ real_from q n s
  unfolding real_from
  real_long g = ap decoded_real (too_many_digits n (digits_of q s) _ (omega (arith, large_value _ _ ez g)))

-- the integer at a place, whose digits start behind the sign and what leads them
module _ (q : List ℕ) (f : Form) (start : ℕ) {s l n base : ℕ} {m : Option ℕ} (es : s ≡ signed q start) (el : l ≡ lead_of f) (en : n ≡ digit_count f q (s + l))
    (eb : base ≡ base_of f) (em : m ≡ size_under 18446744073709551615 (value_of base 0 q (s + l) n)) where
  read_by : integer_by (negative q start) m ≡ integer_of q f start
  unfolding integer_of magnitude magnitude_from
  read_by = rw (em, en, eb, el, es) refl

  pub integer_large : m ≡ None → Err LiteralFault.OutOfRange ≡ integer_of q f start
  unfolding integer_by
  integer_large h = rw h at read_by

  pub integer_read : (v : ℕ) → m ≡ Some v → {b : Bool} → b ≡ negative q start → {i : ℤ} → i ≡ with_sign b v → Ok (Literal.Integer i) ≡ integer_of q f start
  unfolding integer_by
  integer_read v h e g = rw (g, e) (rw h at read_by)
