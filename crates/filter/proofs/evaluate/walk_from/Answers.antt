use Rattle.filter.proofs.Laws as law
use native.Mathlib.Omega.{arith}
use Rattle.filter.proofs.evaluate.walk_from.Goals as goal

pub returns-then-is_last : goal.returns-then-is_last
returns-then-is_last c = search law.walked_last

pub loop-read-preserved : goal.loop-read-preserved
loop-read-preserved c = (search law.walked_more, omega (arith, c.loop-read.invariant.1, c.judge_if-one.ensures.1, c.requires))
