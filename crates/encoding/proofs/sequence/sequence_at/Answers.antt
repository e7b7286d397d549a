use Rattle.encoding.proofs.WellFormed as law
use Rattle.encoding.proofs.sequence.sequence_at.Goals as goal

pub returns-then-s-at : goal.returns-then-s-at
returns-then-s-at c = search law.past_end

pub returns-then-b-lt128 : goal.returns-then-b-lt128
returns-then-b-lt128 c = search law.one_at
