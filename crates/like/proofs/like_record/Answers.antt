use Rattle.like.proofs.Liking as law
use borrow.Author.Rules.{rules}
use Rattle.like.proofs.like_record.Goals as goal

pub returns-then-kind-eq0 : goal.returns-then-kind-eq0
returns-then-kind-eq0 c = search law.like_null

pub returns-else-kind-eq0 : goal.returns-else-kind-eq0
returns-else-kind-eq0 c = search law.like_some

pub returns-in-Broken : goal.returns-in-Broken
returns-in-Broken c = search law.like_broken

pub returns-in-End : goal.returns-in-End
returns-in-End c = search law.like_missing
