use Rattle.judge.proofs.RightSides as law
use borrow.Author.Rules.{rules}
use Rattle.judge.proofs.property.right_array.Goals as goal

pub returns-in-None : goal.returns-in-None
returns-in-None c = search law.right_whole

pub returns-in-Some : goal.returns-in-Some
returns-in-Some c = search law.right_element
