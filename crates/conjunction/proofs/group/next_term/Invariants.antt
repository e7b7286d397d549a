use borrow.Author.Rules.{rules}
use Rattle.conjunction.proofs.Walk.{left}
use Rattle.conjunction.proofs.Reading as law
use Rattle.conjunction.proofs.Reading.{Searching}
use Rattle.conjunction.proofs.group.next_term.Given as goal

abbrev pub invariant-loop-op : goal.invariant-loop-op
invariant-loop-op l = Searching l.q l.initial.token l.token

abbrev pub decreases-loop-op : goal.decreases-loop-op
decreases-loop-op l = left l.q l.token
