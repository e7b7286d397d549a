use native.Mathlib.Omega.{arith}
use borrow.Author.Tests.{lt-ltb}
use Rattle.base.proofs.Digits.{fits_limit}
use Rattle.string_literal.specs.Char.{unicode_escape}
use Rattle.string_literal.proofs.Bounds.{hex_run_fits}
use Rattle.string_literal.proofs.Laws.{escape_scalar, escape_surrogate, escape_beyond}
use borrow.Author.Rules.{rules}
use Rattle.string_literal.proofs.unicode_escape.Goals as goal

pub returns-then-n-lt4 : goal.returns-then-n-lt4
unfolding unicode_escape
returns-then-n-lt4 c = simp (← c.hex_run-n.ensures, lt-ltb _ _ c.if-n-lt4.true)

pub read_value-requires : goal.read_value-requires
read_value-requires c = let h = hex_run_fits c.args.q.now c.args.at in (omega (arith, c.hex_run-n.ensures), search rules, search rules, search rules)

pub overflow_cast-c : goal.overflow_cast-c
overflow_cast-c c = omega (arith, fits_limit _ _ c.read_value.ensures _ c.in-Some.is)

pub overflow_add-result : goal.overflow_add-result
overflow_add-result c = omega (arith, hex_run_fits c.args.q.now c.args.at, c.hex_run-n.ensures)

pub returns-then-is_scalar_value : goal.returns-then-is_scalar_value
returns-then-is_scalar_value c = search escape_scalar

pub returns : goal.returns
returns c = search escape_surrogate

pub returns-in_default : goal.returns-in_default
returns-in_default c = search escape_beyond
