use mathlib.Core.Path.{◌∙◌}
use Rattle.value.proofs.read.read_real.Goals as goal

pub returns-then-width-eq4 : goal.returns-then-width-eq4
returns-then-width-eq4 c = c.real32_in.ensures ∙ rw c.if-width-eq4.true

pub returns : goal.returns
returns c = c.real64_in.ensures ∙ rw (borrow.Author.Tests.ne_eqb _ _ c.if-width-eq4.false)
