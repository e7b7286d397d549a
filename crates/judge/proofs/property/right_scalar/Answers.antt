use Rattle.judge.proofs.RightSides as law
use borrow.Author.Rules.{rules}
use Rattle.judge.proofs.property.right_scalar.Goals as goal

pub returns-in-None : goal.returns-in-None
returns-in-None c = search law.right_one

pub returns-in-Some : goal.returns-in-Some
returns-in-Some c = search law.right_indexed
