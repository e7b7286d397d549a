use Rattle.std.proofs.Common.{rules}
use Rattle.filter.proofs.Laws as law
use Rattle.filter.proofs.check.check_from.Goals as goal

pub returns-then-is_last : goal.returns-then-is_last
returns-then-is_last c =
    law.checked_last _ _ _ _ _ c.loop-read.invariant.0 c.loop-read.invariant.1 (search rules) c.read_next.ensures _ _ _ c.in-Ok.is c.check_comparison.ensures c.in_ok-check_comparison.was
    c.is_last.ensures c.if-is_last.true

pub loop-read-preserved : goal.loop-read-preserved
loop-read-preserved c = (
  law.checked_more _ _ _ _ _ c.loop-read.invariant.0 c.loop-read.invariant.1 (search rules) c.read_next.ensures _ _ _ c.in-Ok.is c.check_comparison.ensures c.in_ok-check_comparison.was
      c.is_last.ensures c.if-is_last.false,
  law.taken_more _ _ _ _ _ c.loop-read.invariant.0 c.loop-read.invariant.1 (search rules) c.read_next.ensures _ _ _ c.in-Ok.is c.check_comparison.ensures c.in_ok-check_comparison.was
      c.is_last.ensures c.if-is_last.false,
)
