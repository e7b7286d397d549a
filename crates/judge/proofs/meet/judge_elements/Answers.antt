use Rattle.judge.proofs.Meeting as law
use borrow.Author.Rules.{rules}
use Rattle.judge.proofs.meet.judge_elements.Goals as goal

pub returns-then-not-is_equality : goal.returns-then-not-is_equality
returns-then-not-is_equality c = rw c.at.ensures (search law.list_order)

pub returns-in-Ok : goal.returns-in-Ok
returns-in-Ok c = search law.list_told

pub returns-in-Err : goal.returns-in-Err
returns-in-Err c = search law.list_fault
