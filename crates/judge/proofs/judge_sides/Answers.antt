use Rattle.judge.proofs.Judging as law
use borrow.Author.Rules.{rules}
use Rattle.judge.proofs.judge_sides.Goals as goal

pub returns-in-Missing : goal.returns-in-Missing
returns-in-Missing c = rw c.at.ensures (search law.sides_missing)

pub returns-in-Unindexable : goal.returns-in-Unindexable
returns-in-Unindexable c = rw c.at-in-Unindexable.ensures (search law.sides_unindexable)

pub returns-in-One : goal.returns-in-One
returns-in-One c = search law.sides_one

pub returns-in-Elements : goal.returns-in-Elements
returns-in-Elements c = search law.sides_elements

pub returns-in-Many : goal.returns-in-Many
returns-in-Many c = search law.sides_many

pub returns-in-Pattern : goal.returns-in-Pattern
returns-in-Pattern c = search law.sides_pattern
