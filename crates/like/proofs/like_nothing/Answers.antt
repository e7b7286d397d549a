use Rattle.like.proofs.Liking as law
use Rattle.like.proofs.like_nothing.Goals as goal

pub returns : goal.returns
returns c = search law.nothing_told
