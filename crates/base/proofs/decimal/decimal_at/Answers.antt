use mathlib.Core.Path.{refl}
use native.Mathlib.Omega.{arith}
use Prim.Native.Nat.{◌+◌}
use Rattle.base.specs.Digit.{value_of}
use Rattle.base.proofs.DecimalDigits.{decimal_from, decimal_next, decimal_small}
use Rattle.base.proofs.decimal.decimal_at.Goals as goal

pub loop-i-init : goal.loop-i-init
unfolding value_of
loop-i-init c = refl

pub overflow_mul-v : goal.overflow_mul-v
overflow_mul-v c = let m = decimal_small _ _ _ _ c.requires.2 c.loop-i-test.true c.requires.1 c.loop-i.invariant in omega arith

pub overflow_sub-s : goal.overflow_sub-s
overflow_sub-s c = decimal_from _ _ _ _ c.requires.2 c.loop-i-test.true

pub overflow_add-v : goal.overflow_add-v
overflow_add-v c = let m = decimal_small _ _ _ _ c.requires.2 c.loop-i-test.true c.requires.1 c.loop-i.invariant in omega (arith, c.from.ensures, (c.type_inv.s (c.args.at + c.loop-i.i)).fits)

pub loop-i-preserved : goal.loop-i-preserved
loop-i-preserved c = decimal_next _ _ _ _ c.requires.2 c.loop-i-test.true c.loop-i.invariant c.from.ensures
