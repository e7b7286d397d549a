use Rattle.pattern.specs.Links.{Closed}
use Rattle.pattern.proofs.links.closed_in.Given as goal

abbrev pub invariant-loop-k : goal.invariant-loop-k
invariant-loop-k l = Closed l.links l.found
