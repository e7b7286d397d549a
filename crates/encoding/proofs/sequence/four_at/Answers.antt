use Rattle.encoding.proofs.WellFormed as law
use native.Mathlib.Omega.{arith}
use mathlib.Core.Bool.{true, false}
use Rattle.encoding.proofs.sequence.four_at.Goals as goal

pub returns-then-s-at-ge245 : goal.returns-then-s-at-ge245
returns-then-s-at-ge245 c = law.four_none _ _ c.requires.0 c.requires.1 c.requires.2 (omega (arith, c.if-s-at-ge245.true))

pub returns-then-s-at-lt4 : goal.returns-then-s-at-lt4
returns-then-s-at-lt4 c = law.four_short _ _ c.requires.0 c.requires.1 c.requires.2 c.if-s-at-lt4.true

pub returns-then-is_second-is_continuation : goal.returns-then-is_second-is_continuation
returns-then-is_second-is_continuation c = law.four_by _ _ c.requires.0 c.requires.1 c.requires.2 c.if-s-at-ge245.false c.if-s-at-lt4.false {t = true} c.is_second.ensures c.is_continuation.ensures c.is_continuation-2.ensures c.if-is_second-is_continuation.true

pub returns-else-is_second-is_continuation : goal.returns-else-is_second-is_continuation
returns-else-is_second-is_continuation c = law.four_by _ _ c.requires.0 c.requires.1 c.requires.2 c.if-s-at-ge245.false c.if-s-at-lt4.false {t = false} c.is_second.ensures c.is_continuation.ensures c.is_continuation-2.ensures c.if-is_second-is_continuation.false
