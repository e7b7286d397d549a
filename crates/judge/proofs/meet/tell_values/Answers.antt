use Rattle.judge.proofs.Meeting as law
use borrow.Author.Rules.{rules}
use Rattle.judge.proofs.meet.tell_values.Goals as goal

pub returns : goal.returns
returns c = search law.tell_one
