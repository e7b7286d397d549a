use Rattle.record.proofs.Laws as law
use Rattle.record.proofs.read.number_at.Goals as goal

pub returns : goal.returns
returns c = search law.number_of
