use mathlib.Core.Path.{◌≡◌}
use Rattle.base.specs.Digit.{value_of}
use Rattle.base.proofs.decimal.decimal_at.Given as goal

abbrev pub invariant-loop-i : goal.invariant-loop-i
invariant-loop-i l = l.v ≡ value_of 10 0 l.s l.at l.i
