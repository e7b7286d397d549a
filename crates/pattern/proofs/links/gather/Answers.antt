use Rattle.pattern.proofs.Gathering as law
use Rattle.pattern.proofs.links.gather.Goals as goal

pub loop-left-preserved : goal.loop-left-preserved
loop-left-preserved c = law.gathering_next _ _ c.loop-left.invariant c.least_in-k.ensures c.without.ensures c.covered.ensures c.outside-left-in-loop-left.ensures c.requires.1
