use native.Mathlib.Omega.{arith}
use borrow.Author.Tests.{eq-eqb, ne_eqb}
use Rattle.string_literal.specs.declared.InString.TheVariants.{Close}
use Rattle.string_literal.specs.Char.{char_at}
use Rattle.string_literal.proofs.Laws.{at_byte, with_within}
use Rattle.string_literal.proofs.char_in_string.Goals as goal

pub returns-then-b-eq39 : goal.returns-then-b-eq39
unfolding char_at
returns-then-b-eq39 c = with_within c.args.q.now c.args.at Close (simp (← c.byte_at-b.ensures, eq-eqb _ _ c.if-b-eq39.true))

pub overflow_add-at : goal.overflow_add-at
overflow_add-at c = omega (arith, at_byte c.args.q.now c.args.at 92 c.byte_at-b.ensures c.if-b-eq92.true (omega arith))

pub returns-then-b-eq92 : goal.returns-then-b-eq92
unfolding char_at
returns-then-b-eq92 c = with_within c.args.q.now c.args.at c.escape_at.result (simp (← c.byte_at-b.ensures, ne_eqb _ _ c.if-b-eq39.false, eq-eqb _ _ c.if-b-eq92.true, c.escape_at.ensures))

pub returns : goal.returns
unfolding char_at
returns c = with_within c.args.q.now c.args.at c.raw_at.result (simp (← c.byte_at-b.ensures, ne_eqb _ _ c.if-b-eq39.false, ne_eqb _ _ c.if-b-eq92.false, c.raw_at.ensures))
