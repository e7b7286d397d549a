-- The number rules of DSP0212 5.3.2, by their names. A rule at a place is the end of its longest match there, and the place itself
-- where it does not fit; none of them matches nothing.
use Rattle.std.specs.Prelude.{ℕ, ◌+◌, ◌-◌, ◌*◌, ◌/◌, List, Bool, ◌||◌, ltb, eqb}
use Rattle.base.specs.Pick.{pick}
use Rattle.base.specs.Part.{byte_at}
use Rattle.scan.specs.Class.{run}
use Rattle.scan.specs.declared.Class.TheVariants.{Digit}

-- one of two bytes
abbrev pub one_of : ℕ → ℕ → ℕ → Bool
one_of a c b = eqb b a || eqb b c

-- an end that a rule reached after a start, and `at` if it did not move
abbrev pub moved : ℕ → ℕ → ℕ → ℕ
moved at start end = pick (ltb start end) end at

-- [sign]
unfoldable pub signed : List ℕ → ℕ → ℕ
signed q at = pick (one_of 43 45 (byte_at q at)) (at + 1) at

-- unsigned-integer = 1*(decimal-digit)
unfoldable pub unsigned_integer : List ℕ → ℕ → ℕ
unsigned_integer q at = run (Digit 10) q at

-- decimal-literal = [sign] unsigned-integer
unfoldable pub decimal_literal : List ℕ → ℕ → ℕ
decimal_literal q at = moved at (signed q at) (unsigned_integer q (signed q at))

-- 1*(binary-digit) "B"
unfoldable pub binary_body : List ℕ → ℕ → ℕ
binary_body q at = pick (ltb at (run (Digit 2) q at)) (pick (one_of 66 98 (byte_at q (run (Digit 2) q at))) (run (Digit 2) q at + 1) at) at

-- binary-literal = [sign] 1*(binary-digit) "B"
unfoldable pub binary_literal : List ℕ → ℕ → ℕ
binary_literal q at = moved at (signed q at) (binary_body q (signed q at))

-- *( hex-digit hex-digit )
unfoldable pub hex_pairs : List ℕ → ℕ → ℕ
hex_pairs q at = at + (run (Digit 16) q at - at) / 2 * 2

-- "0X" 1*( hex-digit hex-digit )
unfoldable pub hex_body : List ℕ → ℕ → ℕ
hex_body q at =
    pick (eqb (byte_at q at) 48) (pick (one_of 88 120 (byte_at q (at + 1))) (moved at (at + 2) (hex_pairs q (at + 2))) at) at

-- hex-literal = [sign] "0X" 1*( hex-digit hex-digit )
unfoldable pub hex_literal : List ℕ → ℕ → ℕ
hex_literal q at = moved at (signed q at) (hex_body q (signed q at))

-- exact-numeric = unsigned-integer "." [unsigned-integer] / "." unsigned-integer; `point` is the end of the digits before the "."
abbrev pub numeric_from : List ℕ → ℕ → ℕ → ℕ
numeric_from q at point =
    pick (eqb (byte_at q point) 46)
    (pick (ltb at point) (unsigned_integer q (point + 1)) (moved at (point + 1) (unsigned_integer q (point + 1)))) at

unfoldable pub exact_numeric : List ℕ → ℕ → ℕ
exact_numeric q at = numeric_from q at (unsigned_integer q at)

-- [ "E" decimal-literal ]
unfoldable pub exponent_part : List ℕ → ℕ → ℕ
exponent_part q at = pick (one_of 69 101 (byte_at q at)) (moved at (at + 1) (decimal_literal q (at + 1))) at

-- exact-numeric [ "E" decimal-literal ]
unfoldable pub real_body : List ℕ → ℕ → ℕ
real_body q at = pick (ltb at (exact_numeric q at)) (exponent_part q (exact_numeric q at)) at

-- real-literal = [sign] exact-numeric [ "E" decimal-literal ]
unfoldable pub real_literal : List ℕ → ℕ → ℕ
real_literal q at = moved at (signed q at) (real_body q (signed q at))
