use Rattle.judge.proofs.Judging as law
use borrow.Author.Rules.{rules}
use Rattle.judge.proofs.judge.Goals as goal

pub returns-in_default : goal.returns-in_default
returns-in_default c = rw c.at.ensures (search law.left_absent)

pub returns : goal.returns
returns c = search law.left_found
