use mathlib.Core.Path.{◌≡◌, refl}
use native.Mathlib.Omega.{arith}
use Rattle.base.specs.Digit.{value_of}
use Rattle.base.proofs.Digits.{value_next, value_grows, fits_more, over_more, size_fits, size_large}
use Rattle.base.proofs.digit.read_value.Goals as goal
use borrow.Author.Rules.{rules}

pub loop-i-init : goal.loop-i-init
unfolding value_of
loop-i-init c = (refl, search rules)

pub returns-then-limit-d : goal.returns-then-limit-d
returns-then-limit-d c = let big = over_more _ _ _ _ c.requires.1 (omega arith) c.if-limit-d.true in
    let e = value_next _ _ _ _ _ _ _ c.loop-i.invariant.0 c.digit_of-d.ensures.0 in
    size_large _ _ _ big (rw e (value_grows _ _ _ _ _ _ c.requires.1 (omega arith)))

pub overflow_mul-v : goal.overflow_mul-v
overflow_mul-v c = omega (arith, fits_more _ _ _ _ c.requires.1 (omega arith) c.if-limit-d.false)

pub overflow_add-v : goal.overflow_add-v
overflow_add-v c = omega (arith, fits_more _ _ _ _ c.requires.1 (omega arith) c.if-limit-d.false)

pub loop-i-preserved : goal.loop-i-preserved
loop-i-preserved c = (value_next _ _ _ _ _ _ _ c.loop-i.invariant.0 c.digit_of-d.ensures.0, fits_more _ _ _ _ c.requires.1 (omega arith) c.if-limit-d.false)

pub returns : goal.returns
returns c = let e : c.loop-i.i ≡ c.args.n = omega arith in size_fits _ _ _ (rw e at c.loop-i.invariant.0) c.loop-i.invariant.1
