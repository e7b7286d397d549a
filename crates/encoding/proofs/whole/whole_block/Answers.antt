use Rattle.std.proofs.Common.{rules}
use Rattle.encoding.specs.Blocks.{all_whole}
use Rattle.encoding.proofs.WholeSequences as law
use Rattle.encoding.proofs.whole.whole_block.Goals as goal

pub loop-i-init : goal.loop-i-init
unfolding all_whole
loop-i-init c = search rules

pub loop-i-preserved : goal.loop-i-preserved
loop-i-preserved c = search law.whole_more
