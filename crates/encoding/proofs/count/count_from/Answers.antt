use Rattle.encoding.proofs.Counting as law
use Rattle.encoding.proofs.Counting.{Counted}
use Rattle.encoding.proofs.WellFormed.{sequence_fits}
use native.Mathlib.Omega.{arith}
use Rattle.encoding.proofs.count.count_from.Goals as goal

pub returns-then-n-eq0 : goal.returns-then-n-eq0
returns-then-n-eq0 c = search law.counted_stop

pub loop-next-preserved-then-is_block : goal.loop-next-preserved-then-is_block
loop-next-preserved-then-is_block c = search law.counted_block

pub overflow_add-next-else-is_block : goal.overflow_add-next-else-is_block
overflow_add-next-else-is_block c = omega (arith, c.sequence_at-n.ensures, sequence_fits c.args.s.now c.loop-next.next)

pub loop-next-preserved : goal.loop-next-preserved
loop-next-preserved c = search law.counted_one

pub returns : goal.returns
returns c = search law.counted_end
