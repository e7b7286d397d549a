use Rattle.std.proofs.Common.{arith}
use Rattle.encoding.proofs.ScalarValue as law
use Rattle.encoding.proofs.scalar.scalar_of.Goals as goal

pub returns-in-empty : goal.returns-in-empty
returns-in-empty c = law.scalar_none _ (omega arith)

pub returns-in-len1 : goal.returns-in-len1
returns-in-len1 c = rw c.from.ensures (law.scalar_one _ (omega arith))

pub returns-in-len2 : goal.returns-in-len2
returns-in-len2 c = rw (c.from-in-len2.ensures, c.from-in-len2-2.ensures) (law.scalar_two _ (omega arith))

pub returns-in-len3 : goal.returns-in-len3
returns-in-len3 c = rw (c.from-in-len3.ensures, c.from-in-len3-2.ensures, c.from-in-len3-3.ensures) (law.scalar_three _ (omega arith))

pub returns-in-len4-up : goal.returns-in-len4-up
returns-in-len4-up c = rw (c.from-in-len4-up.ensures, c.from-in-len4-up-2.ensures, c.from-in-len4-up-3.ensures, c.from-in-len4-up-4.ensures) (law.scalar_four _ (omega arith))
