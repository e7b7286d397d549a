use Rattle.std.proofs.Common.{rules}
use Rattle.encoding.specs.Blocks.{all_ascii}
use Rattle.encoding.proofs.Blocks as law
use Rattle.encoding.proofs.text.all_ascii.Goals as goal

pub loop-i-init : goal.loop-i-init
unfolding all_ascii
loop-i-init c = search rules

pub loop-i-preserved : goal.loop-i-preserved
loop-i-preserved c = search law.ascii_more
