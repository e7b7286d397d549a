use Rattle.std.proofs.Common.{rules, ◌∙◌}
use Rattle.instance.proofs.Laws as law
use Rattle.instance.proofs.Noting as noting
use Rattle.instance.proofs.conform.check_instance.Goals as goal

pub returns-then-i-gt65535 : goal.returns-then-i-gt65535
returns-then-i-gt65535 c = (search (rules, law.fault_long), search (rules, noting.notes_long), search rules)

pub returns : goal.returns
returns c = (law.fault_short _ _ c.if-i-gt65535.false _ (c.walk_beside.ensures.0 ∙ rw c.first_property.ensures), noting.notes_short _ _ _ c.if-i-gt65535.false (c.walk_beside.ensures.1 ∙ rw c.first_property.ensures), search rules)
