use Rattle.value.proofs.Laws as law
use Rattle.value.proofs.unit.next_quoted.Goals as goal

pub returns-in_default : goal.returns-in_default
returns-in_default c = search law.quoted_end

pub returns : goal.returns
returns c = search law.quoted_next
