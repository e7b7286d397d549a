use Rattle.pattern.proofs.Linking.{Linking}
use Rattle.pattern.proofs.links.link.Given as goal

abbrev pub invariant-loop-left : goal.invariant-loop-left
invariant-loop-left l = Linking l.last l.first l.initial.links l.left l.links

abbrev pub decreases-loop-left : goal.decreases-loop-left
decreases-loop-left l = l.left
