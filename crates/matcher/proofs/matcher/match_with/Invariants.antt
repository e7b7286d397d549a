use Rattle.matcher.proofs.Texts.{Matching}
use lib.ListN.{length}
use Prim.Native.Nat.{◌-◌}
use Rattle.matcher.proofs.matcher.match_with.Given as goal

abbrev pub invariant-loop-at : goal.invariant-loop-at
invariant-loop-at l = Matching l.p l.whole l.links l.text l.memory l.recent l.live l.at l.count

abbrev pub decreases-loop-at : goal.decreases-loop-at
decreases-loop-at l = length l.text - l.at
