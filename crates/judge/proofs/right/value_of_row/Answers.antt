use Rattle.judge.proofs.Sides as law
use borrow.Author.Rules.{rules}
use Rattle.judge.proofs.right.value_of_row.Goals as goal

pub returns-then-not-same : goal.returns-then-not-same
returns-then-not-same c = search law.row_unlike

pub returns-in-Ok : goal.returns-in-Ok
returns-in-Ok c = search law.row_value

pub returns-in-Err : goal.returns-in-Err
returns-in-Err c = rw c.at.ensures (search law.row_large)
