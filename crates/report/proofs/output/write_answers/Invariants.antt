use Rattle.std.proofs.Common.{◌≡◌, ◌≤◌, length}
use Rattle.record.specs.Walked.{left}
use Rattle.run.specs.Totals.{answers_of}
use Rattle.report.proofs.Writing.{Writing, answers_in}
use Rattle.report.proofs.output.write_answers.Given as goal

-- the numbers of the lines are no more than the bytes that are read
abbrev pub invariant-loop-record : goal.invariant-loop-record
invariant-loop-record l =
    Writing (answers_of l.query l.table l.run) l.initial.out l.out l.place l.count l.totals (answers_in l.query l.table l.run (left l.record-iterator))
    × (l.count ≤ l.record-iterator.at)
    × (length l.notes ≡ 128)
