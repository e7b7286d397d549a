use Rattle.judge.proofs.RightSides as law
use borrow.Author.Rules.{rules}
use Rattle.judge.proofs.property.right_of.Goals as goal

pub returns-in-Literal : goal.returns-in-Literal
returns-in-Literal c = search law.by_literal

pub returns-in-Elements : goal.returns-in-Elements
returns-in-Elements c = search law.by_elements

pub returns-in-Property : goal.returns-in-Property
returns-in-Property c = search law.by_property

pub returns-in-Pattern : goal.returns-in-Pattern
returns-in-Pattern c = search law.by_pattern
