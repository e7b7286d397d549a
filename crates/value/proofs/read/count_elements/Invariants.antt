use Rattle.std.proofs.Common.{◌≡◌, ◌+◌, ◌≤◌}
use Rattle.record.specs.Record.{records}
use Rattle.record.specs.Walked.{left}
use Rattle.instance.specs.Conforms.{count}
use Rattle.value.proofs.read.count_elements.Given as goal

abbrev pub invariant-loop-record : goal.invariant-loop-record
invariant-loop-record l = (count (records l.s 0) ≡ l.n + count (left l.record-iterator)) × (l.n ≤ l.record-iterator.at)
