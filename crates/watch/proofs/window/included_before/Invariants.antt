use Prim.Native.Nat.{◌+◌}
use mathlib.Core.Path.{◌≡◌}
use lib.ListN.{take, drop}
use Rattle.run.specs.Totals.{count}
use Rattle.watch.specs.Window.{is_one, included}
use Rattle.watch.proofs.window.included_before.Given as goal

abbrev pub invariant-loop-mark : goal.invariant-loop-mark
invariant-loop-mark l = l.ones + count is_one (drop l.mark-index l.mark-items) ≡ included l.window (take l.end l.marks)
