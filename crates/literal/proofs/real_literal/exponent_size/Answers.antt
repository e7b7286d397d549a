use Rattle.base.specs.Digit.{size_under}
use Rattle.literal.specs.RealLiteral.{exponent_size}
use borrow.Author.Rules.{rules}
use Rattle.literal.proofs.real_literal.exponent_size.Goals as goal

pub returns-then-is_one_of : goal.returns-then-is_one_of
unfolding exponent_size
returns-then-is_one_of c = simp (← c.byte_at.ensures, ← c.is_one_of.ensures, c.if-is_one_of.true, ← c.skip_sign-s.ensures.0, ← c.run_end.ensures.0, c.read_value.ensures)

pub returns : goal.returns
unfolding exponent_size size_under
returns c = simp (← c.byte_at.ensures, ← c.is_one_of.ensures, c.if-is_one_of.false)
