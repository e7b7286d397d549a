use borrow.Author.Rules.{rules}
use Rattle.conjunction.specs.Groups.{terms_from, terms_of}
use Rattle.conjunction.specs.Terms.{term_at}
use Rattle.conjunction.specs.Conjunction.{chained, each, text}
use Rattle.conjunction.proofs.Walk.{left}
use Rattle.conjunction.proofs.Reading as reading
use Rattle.conjunction.proofs.Writing as law
use Rattle.conjunction.proofs.Writing.{Writing}
use Rattle.conjunction.proofs.write.write_beside.Given as goal

abbrev pub invariant-loop-next : goal.invariant-loop-next
invariant-loop-next l = Writing l.initial.out l.at (text (each (chained (term_at l.q l.a)) (terms_of l.p))) l.out l.place (text (each (chained (term_at l.q l.a)) (terms_from l.p l.b)))

abbrev pub decreases-loop-next : goal.decreases-loop-next
decreases-loop-next l = left l.p l.b
