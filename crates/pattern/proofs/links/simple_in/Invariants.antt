use Rattle.pattern.specs.Links.{Simple}
use Rattle.pattern.proofs.links.simple_in.Given as goal

abbrev pub invariant-loop-k : goal.invariant-loop-k
invariant-loop-k l = Simple l.links l.found
