use Rattle.value.proofs.Laws as law
use Rattle.base.specs.Part.{same_bytes}
use Rattle.value.proofs.same.next_units.Goals as goal
use Rattle.value.proofs.same.next_units.Goals.{in_default-via-in-Some+in_default, in_default-via-in-None+in_default}

pub returns-then-m-n : goal.returns-then-m-n
returns-then-m-n c = search law.units_differ

pub returns-else-m-n : goal.returns-else-m-n
returns-else-m-n c = (search law.units_next, search law.units_fewer)

pub returns-in_default : goal.returns-in_default
unfolding same_bytes
returns-in_default c =
    elim c.in_default.branch [ in_default-via-in-Some+in_default w ↦ rw (w.in_default.ensures.steps, w.in_default.ensures'.steps) | in_default-via-in-None+in_default w ↦ rw (w.in_default.ensures.steps, w.in_default.ensures'.steps) ]

pub returns-in-None-None : goal.returns-in-None-None
returns-in-None-None c = search law.units_both_end
