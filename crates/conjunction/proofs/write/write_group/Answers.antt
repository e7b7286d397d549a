use Rattle.conjunction.proofs.Writing as law
use borrow.Author.Rules.{rules}
use Rattle.conjunction.proofs.write.write_group.Goals as goal

pub returns : goal.returns
returns c = search law.group_written
