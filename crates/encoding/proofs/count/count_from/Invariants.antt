use Rattle.encoding.proofs.Counting.{Counted}
use lib.ListN.{length}
use Prim.Native.Nat.{◌-◌}
use Rattle.encoding.proofs.count.count_from.Given as goal

abbrev pub invariant-loop-next : goal.invariant-loop-next
invariant-loop-next l = Counted l.s l.at l.next l.count

abbrev pub decreases-loop-next : goal.decreases-loop-next
decreases-loop-next l = length l.s - l.next
