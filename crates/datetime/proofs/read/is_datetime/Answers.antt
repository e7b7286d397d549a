use Rattle.datetime.proofs.Reading as law
use Rattle.datetime.proofs.read.is_datetime.Goals as goal

pub returns-then-is_exact : goal.returns-then-is_exact
returns-then-is_exact c = law.exact_says _ c.is_exact.ensures c.if-is_exact.true
