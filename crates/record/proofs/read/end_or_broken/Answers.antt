use borrow.Author.Tests.{eq-eqb, ne_eqb}
use Rattle.record.proofs.read.end_or_broken.Goals as goal

pub returns-then-left-eq0 : goal.returns-then-left-eq0
returns-then-left-eq0 c = rw (eq-eqb _ _ c.if-left-eq0.true)

pub returns : goal.returns
returns c = rw (ne_eqb _ _ c.if-left-eq0.false)
