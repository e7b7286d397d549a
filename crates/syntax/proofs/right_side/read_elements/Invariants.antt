use Prim.Native.Nat.{◌-◌}
use mathlib.Core.Path.{◌≡◌}
use Rattle.syntax.specs.Scan.{scan}
use Rattle.syntax.specs.Comparison.{elements}
use Rattle.syntax.proofs.right_side.read_elements.Given as goal

abbrev pub invariant-loop-before : goal.invariant-loop-before
invariant-loop-before l = elements 32 (scan l.q) l.start 0 l.initial.t ≡ elements (32 - l.before) (scan l.q) l.start l.before l.t
