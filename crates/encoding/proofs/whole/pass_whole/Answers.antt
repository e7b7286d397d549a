use Rattle.encoding.proofs.WholeSequences as law
use Rattle.encoding.proofs.whole.pass_whole.Goals as goal

pub returns-then-is_continuation : goal.returns-then-is_continuation
returns-then-is_continuation c = search law.whole_stays

pub returns : goal.returns
returns c = search law.whole_moved
