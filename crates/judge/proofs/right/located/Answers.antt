use Rattle.judge.proofs.Sides as law
use borrow.Author.Rules.{rules}
use Rattle.judge.proofs.right.located.Goals as goal

pub returns : goal.returns
returns c = search law.record_located
