use Rattle.judge.proofs.Meeting as law
use borrow.Author.Rules.{rules}
use Rattle.judge.proofs.meet.judge_bodies.Goals as goal

pub returns-then-is_equality-same : goal.returns-then-is_equality-same
returns-then-is_equality-same c = search law.bodies_told

pub returns : goal.returns
returns c = rw c.at.ensures (search law.bodies_row)
