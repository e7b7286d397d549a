use Rattle.std.proofs.Common.{◌≡◌}
use Rattle.record.specs.Walked.{left}
use Rattle.instance.specs.Fault.{elements_fit, array_fits}
use Rattle.instance.proofs.array.array_fits.Given as goal

abbrev pub invariant-loop-count : goal.invariant-loop-count
invariant-loop-count l = array_fits l.element l.of l.s ≡ elements_fit l.element l.of l.s l.count-iterator.count (left l.count-iterator.iter)
