use borrow.Author.Rules.{rules}
use Rattle.conjunction.proofs.Writing as law
use Rattle.conjunction.proofs.write.write_both.Goals as goal

pub returns : goal.returns
returns c = search law.both_written
