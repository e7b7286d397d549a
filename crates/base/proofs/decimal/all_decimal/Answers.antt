use mathlib.Core.Path.{refl}
use Rattle.base.specs.Digit.{all_digits}
use Rattle.base.proofs.Digits.{digits_more}
use Rattle.base.proofs.decimal.all_decimal.Goals as goal

pub loop-i-init : goal.loop-i-init
unfolding all_digits
loop-i-init c = refl

pub loop-i-preserved : goal.loop-i-preserved
loop-i-preserved c = digits_more _ _ _ _ c.loop-i.invariant c.is_decimal-all.ensures
