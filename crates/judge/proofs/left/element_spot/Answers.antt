use Rattle.judge.proofs.Sides as law
use borrow.Author.Rules.{rules}
use Rattle.judge.proofs.left.element_spot.Goals as goal

pub returns-in-None : goal.returns-in-None
returns-in-None c = search law.element_null

pub returns-in-Some : goal.returns-in-Some
returns-in-Some c = search law.element_there
