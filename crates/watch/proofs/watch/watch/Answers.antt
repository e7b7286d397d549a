use Rattle.watch.proofs.Laws as law
use borrow.Author.Rules.{rules}
use mathlib.Core.Bool.{not}
use mathlib.Core.Path.{ap}
use Rattle.watch.proofs.watch.watch.Goals as goal

pub returns-then-not-in_range : goal.returns-then-not-in_range
returns-then-not-in_range c = (search law.range_refuses, search law.range_leaves, search rules)

pub watch_marks-requires : goal.watch_marks-requires
watch_marks-requires c = (law.enough _ _ _ _ c.mark.ensures.0 c.in_ok-totals.was c.mark.ensures.1, search law.window_some)

pub returns-in_err-totals : goal.returns-in_err-totals
returns-in_err-totals c = (
  law.mark_refuses _ _ _ _ _ c.in_range.ensures (ap not c.if-not-in_range.false) _ c.mark.ensures.0 c.in_err-totals.was c.from_residual.ensures,
  law.mark_leaves _ _ _ _ _ c.in_range.ensures (ap not c.if-not-in_range.false) _ c.mark.ensures.0 c.in_err-totals.was c.mark.ensures.1,
  search rules,
)

pub returns : goal.returns
returns c = (
  law.good_totals _ _ _ _ _ c.in_range.ensures (ap not c.if-not-in_range.false) _ c.mark.ensures.0 c.in_ok-totals.was c.mark.ensures.1 c.watch_marks.ensures.0,
  law.good_marks _ _ _ _ _ c.in_range.ensures (ap not c.if-not-in_range.false) _ c.mark.ensures.0 c.in_ok-totals.was c.mark.ensures.1 c.watch_marks.ensures.1,
  search rules,
)
