use mathlib.Core.Path.{◌≡◌}
use lib.ListN.{length}
use Rattle.base.specs.Part.{same_bytes}
use Rattle.value.specs.Unit.{units}
use Rattle.value.proofs.same.same_units.Given as goal

abbrev pub invariant-loop-first : goal.invariant-loop-first
invariant-loop-first l = same_bytes (units l.x) (units l.y) ≡ same_bytes (units l.left) (units l.right)

abbrev pub decreases-loop-first : goal.decreases-loop-first
decreases-loop-first l = length (units l.left)
