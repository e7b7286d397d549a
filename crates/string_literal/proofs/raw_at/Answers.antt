use native.Mathlib.Omega.{arith}
use borrow.Author.Tests.{eq-eqb, ne_eqb}
use Rattle.std.specs.Prelude.{ℕ, ◌+◌, ◌-◌, ◌≡◌, List, take, drop}
use Rattle.encoding.specs.Scalar.{scalar_at, scalar_of}
use Rattle.encoding.proofs.WellFormed.{sequence_fits}
use Rattle.string_literal.specs.Char.{raw_at}
use Rattle.string_literal.proofs.Ascii.{ascii_within, ascii_raw}
use Rattle.base.proofs.Lists.{part_whole}
use Rattle.string_literal.proofs.raw_at.Goals as goal

-- a sequence is a part of the text
decoded : (q : List ℕ) (at n v : ℕ) → v ≡ scalar_of (take (at + n - at) (drop at q)) → v ≡ scalar_of (take n (drop at q))
decoded q at n v e = rw (part_whole q at n) at e

pub overflow_add-result : goal.overflow_add-result
overflow_add-result c = omega (arith, ascii_within c.args.q.now c.args.at c.byte_at-b.ensures c.if-b.true)

pub returns-then-b : goal.returns-then-b
returns-then-b c = rw c.from.ensures (ascii_raw c.args.q.now c.args.at c.byte_at-b.ensures c.if-b.true)

pub returns-then-n-eq0 : goal.returns-then-n-eq0
unfolding raw_at
returns-then-n-eq0 c = simp (← c.sequence_at-n.ensures, eq-eqb _ _ c.if-n-eq0.true)

pub overflow_add-result-then-is_unicode_char : goal.overflow_add-result-then-is_unicode_char
overflow_add-result-then-is_unicode_char c = omega (arith, sequence_fits c.args.q.now c.args.at, c.sequence_at-n.ensures)

pub overflow_add-at : goal.overflow_add-at
overflow_add-at c = omega (arith, sequence_fits c.args.q.now c.args.at, c.sequence_at-n.ensures)

pub slice_bounds-scalar_of-end : goal.slice_bounds-scalar_of-end
slice_bounds-scalar_of-end c = omega (arith, sequence_fits c.args.q.now c.args.at, c.sequence_at-n.ensures)

pub returns-then-is_unicode_char : goal.returns-then-is_unicode_char
unfolding raw_at scalar_at
returns-then-is_unicode_char c = simp (← c.sequence_at-n.ensures, ne_eqb _ _ c.if-n-eq0.false, ← decoded c.args.q.now c.args.at _ _ c.scalar_of-v.ensures, ← c.is_unicode_char.ensures, c.if-is_unicode_char.true)

pub returns : goal.returns
unfolding raw_at scalar_at
returns c = simp (← c.sequence_at-n.ensures, ne_eqb _ _ c.if-n-eq0.false, ← decoded c.args.q.now c.args.at _ _ c.scalar_of-v.ensures, ← c.is_unicode_char.ensures, c.if-is_unicode_char.false)
