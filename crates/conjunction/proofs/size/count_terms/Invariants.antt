use borrow.Author.Rules.{rules}
use Prim.Native.Nat.{suc, ◌+◌}
use mathlib.Core.Path.{◌≡◌}
use native.Mathlib.Omega.{arith}
use Rattle.conjunction.specs.Groups.{terms_from, terms_of}
use Rattle.conjunction.specs.Conjunction.{count}
use Rattle.conjunction.proofs.Walk.{left}
use Rattle.conjunction.proofs.Reading as reading
use Rattle.conjunction.proofs.Counting as law
use Rattle.conjunction.proofs.size.count_terms.Given as goal

abbrev pub invariant-loop-next : goal.invariant-loop-next
invariant-loop-next l = l.terms + count (terms_from l.q l.token) ≡ suc (count (terms_of l.q))

abbrev pub decreases-loop-next : goal.decreases-loop-next
decreases-loop-next l = left l.q l.token
