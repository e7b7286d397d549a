use borrow.Author.Rules.{rules}
use Rattle.encoding.specs.Blocks.{here}
use Rattle.encoding.proofs.Blocks as law
use Rattle.encoding.proofs.text.pass_sequences.Goals as goal

pub loop-next-init : goal.loop-next-init
loop-next-init c = (search rules, (search rules, here))

pub loop-next-preserved : goal.loop-next-preserved
loop-next-preserved c = (search rules, (search law.sequence_ends, search law.sequences_more))
