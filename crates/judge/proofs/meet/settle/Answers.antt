use Rattle.judge.proofs.Meeting as law
use borrow.Author.Rules.{rules}
use Rattle.judge.proofs.meet.settle.Goals as goal

pub returns-then-not-allowed : goal.returns-then-not-allowed
returns-then-not-allowed c = rw c.at.ensures (search law.settle_row)

pub returns-in-Err : goal.returns-in-Err
returns-in-Err c = search law.settle_fault

pub returns-in-Ok-x : goal.returns-in-Ok-x
returns-in-Ok-x c = search law.settle_ready

pub returns-in-Err-x : goal.returns-in-Err-x
returns-in-Err-x c = rw c.at-in-Err-x.ensures (search law.settle_large)
