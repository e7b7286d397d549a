use borrow.Author.Rules.{rules}
use mathlib.Core.Path.{refl, sym, ◌∙◌}
use native.Mathlib.Omega.{arith}
use Rattle.string_literal.proofs.Laws.{moved, end_step, end_close, end_bad, end_plain, end_past}
use Rattle.string_literal.proofs.text_end.Goals as goal

pub loop-i-preserved-then-b : goal.loop-i-preserved-then-b
loop-i-preserved-then-b c = (c.loop-i.invariant.0 ∙ end_plain _ _ _ refl c.if-b.true, search rules, search rules)

pub loop-i-smaller : goal.loop-i-smaller
loop-i-smaller c = let m = moved c.char_in_string.ensures.1 c.in-Character.is in omega arith

pub loop-i-preserved : goal.loop-i-preserved
loop-i-preserved c = let m = moved c.char_in_string.ensures.1 c.in-Character.is in (c.loop-i.invariant.0 ∙ end_step _ _ _ c.char_in_string.ensures.0 c.in-Character.is, omega arith, omega arith)

pub returns-in-Close : goal.returns-in-Close
returns-in-Close c = (sym (c.loop-i.invariant.0 ∙ end_close _ _ _ c.char_in_string.ensures.0 c.in-Close.is), omega arith, omega arith)

pub returns-in-Bad : goal.returns-in-Bad
returns-in-Bad c = (sym (c.loop-i.invariant.0 ∙ end_bad _ _ _ c.char_in_string.ensures.0 c.in-Bad.is), omega arith, omega arith)

pub returns : goal.returns
returns c = (sym (c.loop-i.invariant.0 ∙ end_past _ _ _ c.loop-i-test.false), omega arith, omega arith)
