use Rattle.encoding.proofs.WellFormed as law
use native.Mathlib.Omega.{arith}
use mathlib.Core.Bool.{true, false}
use Rattle.encoding.proofs.sequence.two_at.Goals as goal

pub returns-then-s-at-lt194 : goal.returns-then-s-at-lt194
returns-then-s-at-lt194 c = law.two_none _ _ c.requires.0 c.requires.1 c.requires.2 (omega (arith, c.if-s-at-lt194.true))

pub returns-then-s-at-lt2 : goal.returns-then-s-at-lt2
returns-then-s-at-lt2 c = law.two_short _ _ c.requires.0 c.requires.1 c.requires.2 c.if-s-at-lt2.true

pub returns-then-is_continuation : goal.returns-then-is_continuation
returns-then-is_continuation c = law.two_by _ _ c.requires.0 c.requires.1 c.requires.2 c.if-s-at-lt194.false c.if-s-at-lt2.false {t = true} c.is_continuation.ensures c.if-is_continuation.true

pub returns-else-is_continuation : goal.returns-else-is_continuation
returns-else-is_continuation c = law.two_by _ _ c.requires.0 c.requires.1 c.requires.2 c.if-s-at-lt194.false c.if-s-at-lt2.false {t = false} c.is_continuation.ensures c.if-is_continuation.false
