use Rattle.matcher.proofs.Recalled as law
use Rattle.pattern.proofs.Gathering.{simple_none, closed_none}
use Rattle.matcher.proofs.recent.Recent.new.Goals as goal

pub returns-then-n-lt-LONG : goal.returns-then-n-lt-LONG
returns-then-n-lt-LONG c = law.recalls_none _ (simple_none _) (closed_none _)

pub returns-then-n-lt-LONGER : goal.returns-then-n-lt-LONGER
returns-then-n-lt-LONGER c = law.recalls_none _ c.simple_in.ensures (closed_none _)

pub returns : goal.returns
returns c = law.recalls_none _ c.simple_in.ensures c.closed_in.ensures
