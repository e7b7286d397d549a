use Rattle.watch.proofs.Passing.{Passing}
use Rattle.watch.proofs.window.watch_marks.Given as goal

abbrev pub invariant-loop-left : goal.invariant-loop-left
invariant-loop-left l = Passing l.window l.need l.initial.marks l.count l.left l.marks l.held l.ones
