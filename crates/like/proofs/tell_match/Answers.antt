use Rattle.like.proofs.Liking as law
use borrow.Author.Rules.{rules}
use Rattle.like.proofs.tell_match.Goals as goal

pub returns : goal.returns
returns c = search law.match_told
