use Rattle.std.proofs.Common.{◌≡◌}
use Rattle.record.specs.Record.{records}
use Rattle.record.specs.Walked.{left}
use Rattle.instance.specs.Fault.{further_fault}
use Rattle.instance.proofs.conform.further.Given as goal

abbrev pub invariant-loop-record : goal.invariant-loop-record
invariant-loop-record l = further_fault (records l.i l.first) ≡ further_fault (left l.record-iterator)
