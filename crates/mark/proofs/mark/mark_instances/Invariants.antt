use Rattle.std.proofs.Common.{◌≡◌}
use lib.ListN.{length}
use Rattle.record.specs.Walked.{left}
use Rattle.run.specs.Run.{bodies_of, instances_of}
use Rattle.mark.proofs.Marking.{Marking}
use Rattle.mark.proofs.mark.mark_instances.Given as goal

abbrev pub invariant-loop-number : goal.invariant-loop-number
invariant-loop-number l = Marking l.query l.table (instances_of l.run) (bodies_of l.run (left l.number-iterator.iter)) l.initial.marks l.number-iterator.count l.totals l.marks × (length l.notes ≡ 128)
