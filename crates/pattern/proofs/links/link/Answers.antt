use Rattle.pattern.proofs.Linking as law
use Rattle.pattern.proofs.links.link.Goals as goal

pub loop-left-preserved : goal.loop-left-preserved
loop-left-preserved c = search law.linking_next

pub returns : goal.returns
returns c = search law.linking_end
