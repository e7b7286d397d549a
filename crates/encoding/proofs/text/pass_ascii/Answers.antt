use borrow.Author.Rules.{rules}
use Rattle.encoding.specs.Blocks.{here}
use Rattle.encoding.proofs.Blocks as law
use Rattle.encoding.proofs.text.pass_ascii.Goals as goal

pub loop-next-init : goal.loop-next-init
loop-next-init c = (search rules, here)

pub loop-next-preserved : goal.loop-next-preserved
loop-next-preserved c = (search rules, search law.ascii_next)

pub returns-then-ends_ascii : goal.returns-then-ends_ascii
returns-then-ends_ascii c = search law.ascii_ends
