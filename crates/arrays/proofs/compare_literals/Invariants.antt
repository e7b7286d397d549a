use Rattle.std.proofs.Common.{◌≡◌, ◌+◌, ◌≤◌}
use Rattle.std.proofs.Math.Option.{some}
use Rattle.record.specs.Record.{records}
use Rattle.record.specs.Walked.{left}
use Rattle.instance.specs.Conforms.{count}
use Rattle.instance.specs.Value.{elements}
use Rattle.place.specs.Place.{elements_of}
use Rattle.arrays.specs.Answers.{compared}
use Rattle.arrays.proofs.Comparing as law
use Rattle.arrays.proofs.compare_literals.Given as goal

-- the counter is at most one above the offset, so it has room
abbrev pub invariant-loop-record : goal.invariant-loop-record
invariant-loop-record l = (compared l.op (some (elements_of l.of l.a)) (some (law.literals_from l.of.family l.q l.initial.t (count (records l.a 0))))
    ≡ law.pairs_from l.op l.steps (elements l.of l.a (left l.record-iterator)) (law.literals_from l.of.family l.q l.t (count (left l.record-iterator))))
    × (l.steps ≤ l.record-iterator.at + 1) × (l.record-iterator.bytes.now ≡ l.a)
