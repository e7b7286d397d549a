use borrow.Author.Rules.{rules}
use Rattle.conjunction.specs.Groups.{terms_from, terms_of}
use Rattle.conjunction.specs.Conjunction.{products, text, conjunction}
use Rattle.conjunction.proofs.Walk.{left}
use Rattle.conjunction.proofs.Reading as reading
use Rattle.conjunction.proofs.Writing as law
use Rattle.conjunction.proofs.Writing.{Writing}
use Rattle.conjunction.proofs.write.write_conjunction.Given as goal

abbrev pub invariant-loop-next : goal.invariant-loop-next
invariant-loop-next l = Writing l.initial.out 0 (conjunction l.q l.p) l.out l.place (text (products (terms_from l.q l.a) (terms_of l.p)))

abbrev pub decreases-loop-next : goal.decreases-loop-next
decreases-loop-next l = left l.q l.a
