use Rattle.encoding.proofs.WellFormed as law
use mathlib.Core.Bool.{true, false}
use Rattle.encoding.proofs.sequence.three_at.Goals as goal

pub returns-then-s-at-lt3 : goal.returns-then-s-at-lt3
returns-then-s-at-lt3 c = law.three_short _ _ c.requires.0 c.requires.1 c.requires.2 c.if-s-at-lt3.true

pub returns-then-is_second-is_continuation : goal.returns-then-is_second-is_continuation
returns-then-is_second-is_continuation c = law.three_by _ _ c.requires.0 c.requires.1 c.requires.2 c.if-s-at-lt3.false {t = true} c.is_second.ensures c.is_continuation.ensures c.if-is_second-is_continuation.true

pub returns-else-is_second-is_continuation : goal.returns-else-is_second-is_continuation
returns-else-is_second-is_continuation c = law.three_by _ _ c.requires.0 c.requires.1 c.requires.2 c.if-s-at-lt3.false {t = false} c.is_second.ensures c.is_continuation.ensures c.if-is_second-is_continuation.false
