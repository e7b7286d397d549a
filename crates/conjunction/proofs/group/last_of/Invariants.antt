use borrow.Author.Rules.{rules}
use mathlib.Core.Path.{◌≡◌, refl}
use Rattle.conjunction.specs.Groups.{last}
use Rattle.conjunction.proofs.Walk.{left}
use Rattle.conjunction.proofs.Reading as law
use Rattle.conjunction.proofs.group.last_of.Given as goal

abbrev pub invariant-loop-next : goal.invariant-loop-next
invariant-loop-next l = last l.q l.initial.token ≡ last l.q l.token

abbrev pub decreases-loop-next : goal.decreases-loop-next
decreases-loop-next l = left l.q l.token
