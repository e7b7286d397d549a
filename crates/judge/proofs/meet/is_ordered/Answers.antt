use Rattle.judge.proofs.Meeting as law
use borrow.Author.Rules.{rules}
use Rattle.judge.proofs.meet.is_ordered.Goals as goal

pub returns : goal.returns
returns c = search law.ordered_by
