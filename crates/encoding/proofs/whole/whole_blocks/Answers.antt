use borrow.Author.Rules.{rules}
use Rattle.encoding.proofs.WholeSequences as law
use Rattle.encoding.proofs.whole.whole_blocks.Goals as goal

pub loop-end-init : goal.loop-end-init
loop-end-init c = (search rules, (search rules, search law.no_run))

pub loop-end-preserved : goal.loop-end-preserved
loop-end-preserved c = (search rules, (search rules, search law.run_more))
