use Prim.Native.Nat.{◌-◌, ◌≤◌}
use Rattle.encoding.specs.Blocks.{Reaches}
use Rattle.encoding.proofs.text.pass_text.Given as goal

abbrev pub invariant-loop-next : goal.invariant-loop-next
invariant-loop-next l = (l.at ≤ l.next) × ((l.next - l.at ≤ l.end - l.at) × Reaches l.s l.at l.next)

abbrev pub decreases-loop-next : goal.decreases-loop-next
decreases-loop-next l = l.end - l.next
