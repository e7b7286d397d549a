use Rattle.conjunction.proofs.Reading as law
use borrow.Author.Rules.{rules}
use Rattle.conjunction.proofs.group.first_token.Goals as goal

pub returns : goal.returns
returns c = search law.started
