use Rattle.conjunction.proofs.Counting as law
use borrow.Author.Rules.{rules}
use Rattle.conjunction.proofs.size.count_comparisons.Goals as goal

pub returns : goal.returns
returns c = search law.counted_query
