-- Real literals. 01 "Query text": "A real literal is kept with its sign, digits, exponent and value: its digits without the point make D below 10^15,
-- its exponent less the digits after the point makes e from −22 to 22, and the value is D × 10^e by one multiplication or one division of exactly held
-- real64 numbers."
use Rattle.std.specs.Prelude.{ℕ, suc, ◌^◌, Bool, ◌&&◌, ℤ, pos, negsuc, ◌-ℤ◌, neg_ℤ, int_le, nat_lt, Float, Option, Some, None}
use Rattle.std.specs.Float.{binary64}
use Rattle.std.specs.Float.Ieee.{of_int, mul, div, neg}
use Rattle.base.specs.Pick.{pick}
use Rattle.real.specs.declared.Real.{Real}

-- e: the exponent, which has its own sign, less the number of digits after the point
abbrev pub exponent_of : Bool → ℕ → ℕ → ℤ
exponent_of negative size after = pick negative (neg_ℤ (pos size)) (pos size) -ℤ pos after

abbrev pub power_of_ten : ℕ → Float
power_of_ten k = of_int binary64 (pos (10 ^ k))

-- D × 10^e: one multiplication, or below 0 one division
unfoldable pub magnitude : ℕ → ℤ → Float
magnitude d (pos k) = mul binary64 (of_int binary64 (pos d)) (power_of_ten k)
magnitude d (negsuc k) = div binary64 (of_int binary64 (pos d)) (power_of_ten (suc k))

-- a sign is applied exactly, also to 0
abbrev pub signed : Bool → Float → Float
signed negative x = pick negative (neg x) x

abbrev pub kept_with : Bool → ℕ → ℤ → Float → Real
kept_with negative d e x = record { negative = negative; digits = d; exponent = e; value = signed negative x }

abbrev pub real_with : Bool → ℕ → ℤ → Real
real_with negative d e = kept_with negative d e (magnitude d e)

abbrev pub in_range : ℕ → ℤ → Bool
in_range d e = nat_lt d (10 ^ 15) && (int_le (negsuc 21) e && int_le e (pos 22))

unfoldable pub real_of : Bool → ℕ → ℤ → Option Real
real_of negative d e = pick (in_range d e) (Some (real_with negative d e)) None
