-- Real literals (000 5.3.2, real-literal; 01 "Query text"): D is the digits without the point, e the exponent less the digits after the point.
use Rattle.std.specs.Prelude.{ℕ, ◌+◌, ◌-◌, List, Bool, ◌&&◌, eqb, None, Option, Some, Err, Ok, Result}
use Rattle.base.specs.Pick.{pick}
use Rattle.base.specs.Part.{byte_at}
use Rattle.base.specs.Digit.{value_of}
use Rattle.scan.specs.Class.{run}
use Rattle.scan.specs.declared.Class.TheVariants.{Digit}
use Rattle.numeral.specs.Numeral.{one_of, signed}
use Rattle.real.specs.Real.{real_of, exponent_of}
use Rattle.real.specs.declared.Real.{Real}
use Rattle.literal.specs.Integer.{negative}
use Rattle.literal.specs.declared.Literal.TheVariants as Literal
use Rattle.literal.specs.declared.Literal.{Literal}
use Rattle.literal.specs.declared.LiteralFault.{LiteralFault}
use Rattle.literal.specs.declared.LiteralFault.TheVariants as LiteralFault

-- s is the place after the sign; the point stands at the end of the digits from there on
abbrev pub fraction_from : List ℕ → ℕ → ℕ
fraction_from q s = run (Digit 10) q s + 1

abbrev pub fraction_end : List ℕ → ℕ → ℕ
fraction_end q s = run (Digit 10) q (fraction_from q s)

-- D: the digits before the point, with those after it written behind them
unfoldable pub digits_of : List ℕ → ℕ → ℕ
digits_of q s = value_of 10 (value_of 10 0 q s (run (Digit 10) q s - s)) q (fraction_from q s) (fraction_end q s - fraction_from q s)

-- the exponent's digits after "E", and whether a minus sign stands before them; 0 if there is no exponent
unfoldable pub exponent_size : List ℕ → ℕ → ℕ
exponent_size q f = pick (one_of 69 101 (byte_at q f)) (value_of 10 0 q (signed q (f + 1)) (run (Digit 10) q (signed q (f + 1)) - signed q (f + 1))) 0

unfoldable pub exponent_below : List ℕ → ℕ → Bool
exponent_below q f = one_of 69 101 (byte_at q f) && eqb (byte_at q (f + 1)) 45

abbrev pub decoded_real : Option Real → Result Literal LiteralFault
decoded_real (Some x) = Ok (Literal.Real x)
decoded_real None = Err LiteralFault.OutOfRange

unfoldable pub real_from : List ℕ → Bool → ℕ → Result Literal LiteralFault
real_from q n s =
    decoded_real (real_of n (digits_of q s) (exponent_of (exponent_below q (fraction_end q s)) (exponent_size q (fraction_end q s)) (fraction_end q s - fraction_from q s)))

unfoldable pub real_literal_of : List ℕ → ℕ → Result Literal LiteralFault
real_literal_of q start = real_from q (negative q start) (signed q start)
