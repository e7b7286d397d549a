use Rattle.datetime.proofs.Known.{known_most}
use Rattle.datetime.proofs.Reading as law
use Rattle.datetime.proofs.read.is_starred.Goals as goal

pub returns-then-s-ne25 : goal.returns-then-s-ne25
returns-then-s-ne25 c = law.says_long _ (known_most _) c.if-s-ne25.true
