use Rattle.std.proofs.Common.{rules}
use Rattle.watch.proofs.Passing as law
use Rattle.watch.proofs.window.watch_marks.Goals as goal

pub loop-left-preserved : goal.loop-left-preserved
loop-left-preserved c = law.passing_before _ _ _ _ _ _ _ _ c.loop-left.invariant (search rules) c.window_mark-mark.ensures c.moved_before-held.ensures c.one_of-ones.ensures
