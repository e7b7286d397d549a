use Rattle.std.proofs.Common.{◌≡◌, ◌≤◌}
use Rattle.record.specs.Walked.{left}
use Rattle.run.specs.Run.{reading_from, run_reading}
use Rattle.run.proofs.reading.read_run.Given as goal

abbrev pub invariant-loop-record : goal.invariant-loop-record
invariant-loop-record l = (run_reading l.run ≡ reading_from l.count (left l.record-iterator)) × (l.count ≤ l.record-iterator.at)
