use borrow.Author.Rules.{rules}
use Rattle.judge.proofs.Sides as law
use Rattle.operand.specs.Element.{elements_from, element_tokens}
use Rattle.judge.specs.Meaning.{elements}
use Rattle.judge.specs.Answers.{list_read, list_before}
use mathlib.Core.Path.{◌≡◌}
use Prim.Native.Nat.{◌-◌}
use Rattle.judge.proofs.right.check_elements.Given as goal

abbrev pub invariant-loop-before : goal.invariant-loop-before
invariant-loop-before l = list_read (elements l.family l.q (element_tokens l.q l.start l.count)) ≡ list_before l.seen (list_read (elements l.family l.q (elements_from l.q l.t (l.count - l._before))))
