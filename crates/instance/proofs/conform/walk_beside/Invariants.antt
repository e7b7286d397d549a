use Rattle.record.specs.Walked.{left}
use Rattle.instance.proofs.Noting.{Walking}
use Rattle.instance.proofs.conform.walk_beside.Given as goal

abbrev pub invariant-loop-number : goal.invariant-loop-number
invariant-loop-number l = Walking l.t l.i l.first l.initial.notes l.notes (left l.number-iterator.iter) l.at l.number-iterator.count
