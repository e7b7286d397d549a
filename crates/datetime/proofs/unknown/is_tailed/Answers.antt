use Rattle.datetime.proofs.Stars as law
use Rattle.datetime.proofs.unknown.is_tailed.Goals as goal

pub returns : goal.returns
returns c = law.tail_told _ _ c.requires.1 c.requires.0 c.eq.ensures
