use Rattle.std.proofs.Common.{◌≡◌}
use Rattle.record.specs.Record.{records}
use Rattle.record.specs.Reserved.{among}
use Rattle.record.specs.Walked.{left}
use Rattle.table.specs.Properties.{names_before}
use Rattle.table.proofs.validate.name_used.Given as goal

abbrev pub invariant-loop-record : goal.invariant-loop-record
invariant-loop-record l = among l.name (names_before l.t l.stop (records l.t l.first)) ≡ among l.name (names_before l.t l.stop (left l.record-iterator))
