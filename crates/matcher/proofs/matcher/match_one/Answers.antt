use Rattle.matcher.proofs.Texts as law
use Rattle.matcher.proofs.matcher.match_one.Goals as goal

pub returns : goal.returns
returns c = law.match_one _ _ _ (law.linked _ c.read_pattern.ensures c.in-Some.is) _ _ c.hits_of.ensures c.start.ensures c.next_set-set.ensures
