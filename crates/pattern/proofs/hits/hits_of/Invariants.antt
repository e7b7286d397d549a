use Rattle.pattern.proofs.Scanned.{Scanning}
use lib.ListN.{length}
use Prim.Native.Nat.{◌-◌}
use Rattle.pattern.proofs.hits.hits_of.Given as goal

abbrev pub invariant-loop-at : goal.invariant-loop-at
invariant-loop-at l = Scanning l.p l.c l.at l.k l.found

abbrev pub decreases-loop-at : goal.decreases-loop-at
decreases-loop-at l = length l.p - l.at
