use Prim.Native.Nat.{◌+◌, ◌-◌, ◌≤◌}
use mathlib.Core.Path.{◌≡◌}
use lib.ListN.{length}
use Rattle.syntax.specs.Scan.{scan}
use Rattle.syntax.specs.Property.{dotted, first_name}
use Rattle.syntax.proofs.path.read_names.Given as goal

abbrev pub invariant-loop-step : goal.invariant-loop-step
invariant-loop-step l = (dotted (length l.q + 1) (scan l.q) (first_name l.fn.first) l.fn.second ≡ dotted (length l.q + 1 - l._step) (scan l.q) l.path l.t) × (l.path.names ≤ l._step + 1)
