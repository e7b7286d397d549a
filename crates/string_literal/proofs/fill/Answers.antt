use borrow.Author.Rules.{rules}
use mathlib.Core.Path.{refl}
use native.Mathlib.Omega.{arith}
use Rattle.string_literal.proofs.Laws.{moved}
use Rattle.string_literal.proofs.Filling.{next_character, at_end, at_past, all_in, too_many, step_in}
use Rattle.string_literal.proofs.fill.Goals as goal

pub loop-i-init : goal.loop-i-init
loop-i-init c = (refl, search rules, refl)

pub returns-then-out-n : goal.returns-then-out-n
returns-then-out-n c = (too_many _ _ _ _ c.loop-i.invariant.0 _ c.loop-i.invariant.2 _ _ (omega arith) c.loop-i.invariant.1 (next_character _ _ c.char_in_string.ensures.0 _ _ c.in-Character.is), tt)

pub loop-i-smaller : goal.loop-i-smaller
loop-i-smaller c = let m = moved c.char_in_string.ensures.1 c.in-Character.is in omega arith

pub loop-i-preserved : goal.loop-i-preserved
loop-i-preserved c = (step_in _ _ _ c.loop-i.out c.loop-i.n _ c.char_in_string.ensures.0 c.in-Character.is c.loop-i.invariant.0 c.loop-i.invariant.2 (omega arith), search rules, search rules)

pub returns-in-Close : goal.returns-in-Close
returns-in-Close c = all_in _ _ _ _ c.loop-i.invariant.0 _ c.loop-i.invariant.2 c.loop-i.invariant.1 (at_end _ _ c.char_in_string.ensures.0 c.in-Close.is)

pub returns : goal.returns
returns c = all_in _ _ _ _ c.loop-i.invariant.0 _ c.loop-i.invariant.2 c.loop-i.invariant.1 (at_past _ _ c.loop-i-test.false)
