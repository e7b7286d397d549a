use Rattle.matcher.proofs.Memory as law
use Rattle.matcher.proofs.remembered.Memory.new.Goals as goal

pub returns : goal.returns
returns c = law.remembers_none
