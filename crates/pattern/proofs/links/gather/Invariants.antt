use Rattle.pattern.proofs.Gathering.{Gathering}
use Rattle.pattern.proofs.links.gather.Given as goal

abbrev pub invariant-loop-left : goal.invariant-loop-left
invariant-loop-left l = Gathering l.links l.set l.left l.found

abbrev pub decreases-loop-left : goal.decreases-loop-left
decreases-loop-left l = l.left
