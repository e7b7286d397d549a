use Rattle.judge.proofs.Sides as law
use borrow.Author.Rules.{rules}
use Rattle.judge.proofs.right.fault_of.Goals as goal

pub returns-in-Ok : goal.returns-in-Ok
returns-in-Ok c = search law.list_good

pub returns-in-Err : goal.returns-in-Err
returns-in-Err c = search law.list_err
