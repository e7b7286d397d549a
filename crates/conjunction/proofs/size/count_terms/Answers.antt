use borrow.Author.Rules.{rules}
use Prim.Native.Nat.{suc, ◌+◌}
use mathlib.Core.Path.{◌≡◌}
use native.Mathlib.Omega.{arith}
use Rattle.conjunction.specs.Groups.{terms_from, terms_of}
use Rattle.conjunction.specs.Conjunction.{count}
use Rattle.conjunction.proofs.Walk.{left}
use Rattle.conjunction.proofs.Reading as reading
use Rattle.conjunction.proofs.Counting as law
use Rattle.conjunction.proofs.size.count_terms.Goals as goal

pub loop-next-init : goal.loop-next-init
loop-next-init c = search law.terms_begin

pub returns : goal.returns
returns c = search law.terms_all

pub overflow_add-terms : goal.overflow_add-terms
overflow_add-terms c = let m = law.terms_fit _ _ _ c.loop-next.invariant c.next_term.ensures _ c.in-Some.is c.requires in omega arith

pub loop-next-smaller : goal.loop-next-smaller
loop-next-smaller c = search reading.term_nearer

pub loop-next-preserved : goal.loop-next-preserved
loop-next-preserved c = search law.terms_more
