use borrow.Author.Rules.{rules}
use Rattle.encoding.specs.Blocks.{here}
use Rattle.encoding.proofs.Blocks as law
use Rattle.encoding.proofs.text.pass_text.Goals as goal

pub loop-next-init : goal.loop-next-init
loop-next-init c = (search rules, (search rules, here))

pub returns-then-then-next : goal.returns-then-then-next
returns-then-then-next c = search law.walk_stays

pub loop-next-preserved : goal.loop-next-preserved
loop-next-preserved c = (search law.walk_begins, (search law.walk_within, search law.walk_next))

pub returns : goal.returns
returns c = search law.walk_ends
