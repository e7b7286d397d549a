use Rattle.judge.proofs.Sides as law
use borrow.Author.Rules.{rules}
use Rattle.judge.proofs.right.literal_at.Goals as goal

pub returns-in-Ok : goal.returns-in-Ok
returns-in-Ok c = search law.literal_value_law

pub returns-in-Err : goal.returns-in-Err
returns-in-Err c = search law.literal_fault
