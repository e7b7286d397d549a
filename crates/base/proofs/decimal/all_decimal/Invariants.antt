use mathlib.Core.Path.{◌≡◌}
use Rattle.base.specs.Digit.{all_digits}
use Rattle.base.proofs.decimal.all_decimal.Given as goal

abbrev pub invariant-loop-i : goal.invariant-loop-i
invariant-loop-i l = l.all ≡ all_digits 10 l.s l.at l.i
