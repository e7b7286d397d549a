use borrow.Author.Rules.{rules}
use Rattle.conjunction.specs.Terms.{term_at}
use Rattle.conjunction.specs.Conjunction.{term_text}
use Rattle.conjunction.proofs.Walk.{left}
use Rattle.conjunction.proofs.Reading as reading
use Rattle.conjunction.proofs.Writing as law
use Rattle.conjunction.proofs.Writing.{Writing}
use Rattle.conjunction.proofs.write.write_term.Given as goal

abbrev pub invariant-loop-op : goal.invariant-loop-op
invariant-loop-op l = Writing l.initial.out l.at (term_text (term_at l.q l.initial.token)) l.out l.place (term_text (term_at l.q l.token))

abbrev pub decreases-loop-op : goal.decreases-loop-op
decreases-loop-op l = left l.q l.token
