use Prim.Native.Nat.{◌≤◌}
use mathlib.Core.Path.{◌≡◌}
use Rattle.base.specs.Digit.{value_of}
use Rattle.base.proofs.digit.read_value.Given as goal

abbrev pub invariant-loop-i : goal.invariant-loop-i
invariant-loop-i l = (l.v ≡ value_of l.base l.first l.s l.at l.i) × (l.v ≤ l.limit)
