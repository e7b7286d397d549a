use native.Mathlib.Omega.{arith}
use Rattle.base.proofs.Lists.{part_whole}
use Rattle.encoding.proofs.WellFormed.{sequence_fits}
use Rattle.matcher.proofs.Memory as law
use Rattle.matcher.proofs.remembered.Memory.hit_at.Goals as goal

pub returns-then-b-lt128 : goal.returns-then-b-lt128
returns-then-b-lt128 c = law.hit_of_ascii _ _ _ _ _ c.requires.0 c.if-b-lt128.true c.hit_ascii.ensures

pub overflow_add-at : goal.overflow_add-at
overflow_add-at c = omega (arith, sequence_fits c.args.text.now c.args.at, c.requires.1)

pub slice_bounds-scalar_of-end : goal.slice_bounds-scalar_of-end
slice_bounds-scalar_of-end c = omega (arith, sequence_fits c.args.text.now c.args.at, c.requires.1)

pub returns : goal.returns
returns c = law.hit_of_other _ _ _ _ _ c.requires.1 (part_whole c.args.text.now c.args.at c.args.n) c.scalar_of.ensures c.hit_other.ensures
