-- Of 01 "What can go wrong with a call", the causes that lie in one comparison, with 01's numbers.
use Rattle.std.specs.Prelude.{ℕ}
use Rattle.operand.specs.declared.cause.Cause.{Cause}
use Rattle.operand.specs.declared.cause.Cause.TheVariants.{Name, Shape, Row, Range, Pattern, Datetime}

-- name not in table; scalar or array in the wrong form; row or operator not allowed; literal or index out of range;
-- pattern malformed or too large; datetime literal malformed
abbrev pub number_of : Cause → ℕ
number_of Name = 20
number_of Shape = 22
number_of Row = 21
number_of Range = 23
number_of Pattern = 24
number_of Datetime = 25
