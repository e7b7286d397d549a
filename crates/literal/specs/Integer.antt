-- Integer literals (000 5.3.2, integer-literal; 01 "Query text"): from −(2^64−1) to 2^64−1, of any number of digits.
use Rattle.std.specs.Prelude.{ℕ, ◌+◌, ◌-◌, ◌*◌, ◌/◌, List, Bool, true, false, ℤ, pos, neg_ℤ, eqb, None, Option, Some, Err, Ok, Result}
use Rattle.base.specs.Part.{byte_at}
use Rattle.base.specs.Digit.{value_of, size_under}
use Rattle.scan.specs.Class.{run}
use Rattle.scan.specs.declared.Class.TheVariants.{Digit}
use Rattle.numeral.specs.Numeral.{signed}
use Rattle.token.specs.declared.Form.{Form}
use Rattle.token.specs.declared.Form.TheVariants.{Decimal, Binary, Hex, Real}
use Rattle.literal.specs.declared.Literal.TheVariants as Literal
use Rattle.literal.specs.declared.LiteralFault.TheVariants.{OutOfRange}
use Rattle.literal.specs.declared.Literal.{Literal}
use Rattle.literal.specs.declared.LiteralFault.{LiteralFault}

-- a minus sign at the start
abbrev pub negative : List ℕ → ℕ → Bool
negative q start = eqb (byte_at q start) 45

unfoldable pub base_of : Form → ℕ
base_of Decimal = 10
base_of Binary = 2
base_of Hex = 16
base_of Real = 10

-- what stands before the digits: "0X"
unfoldable pub lead_of : Form → ℕ
lead_of Decimal = 0
lead_of Binary = 0
lead_of Hex = 2
lead_of Real = 0

-- how many digits: all of the base that follow one another, hex digits in pairs
unfoldable pub digit_count : Form → List ℕ → ℕ → ℕ
digit_count Decimal q p = run (Digit 10) q p - p
digit_count Binary q p = run (Digit 2) q p - p
digit_count Hex q p = (run (Digit 16) q p - p) / 2 * 2
digit_count Real q p = 0

-- the number that the digits from a place on write
unfoldable pub magnitude_from : Form → List ℕ → ℕ → ℕ
magnitude_from f q p = value_of (base_of f) 0 q p (digit_count f q p)

-- the number without its sign
unfoldable pub magnitude : Form → List ℕ → ℕ → ℕ
magnitude f q start = magnitude_from f q (signed q start + lead_of f)

-- the number with its sign; −0 is 0
unfoldable pub with_sign : Bool → ℕ → ℤ
with_sign true m = neg_ℤ (pos m)
with_sign false m = pos m

unfoldable pub integer_by : Bool → Option ℕ → Result Literal LiteralFault
integer_by n (Some m) = Ok (Literal.Integer (with_sign n m))
integer_by n None = Err OutOfRange

unfoldable pub integer_of : List ℕ → Form → ℕ → Result Literal LiteralFault
integer_of q f start = integer_by (negative q start) (size_under 18446744073709551615 (magnitude f q start))
