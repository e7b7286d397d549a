use Rattle.judge.proofs.Judging as law
use borrow.Author.Rules.{rules}
use Rattle.judge.proofs.judge_kind.Goals as goal

pub returns-in-None : goal.returns-in-None
returns-in-None c = rw c.at.ensures (search law.untyped)

pub returns-in-Some : goal.returns-in-Some
returns-in-Some c = search law.typed
