use Rattle.judge.proofs.RightSides as law
use borrow.Author.Rules.{rules}
use Rattle.judge.proofs.property.right_property.Goals as goal

pub returns-in_default : goal.returns-in_default
returns-in_default c = search law.property_absent

pub returns : goal.returns
returns c = search law.property_found
