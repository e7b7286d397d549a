use Rattle.std.proofs.Common.{◌≡◌, ◌+◌, ◌≤◌}
use Rattle.std.proofs.Math.Option.{some}
use Rattle.record.specs.Walked.{left}
use Rattle.instance.specs.Conforms.{count}
use Rattle.instance.specs.Value.{elements}
use Rattle.place.specs.Place.{elements_of}
use Rattle.arrays.specs.Answers.{compared}
use Rattle.arrays.proofs.Comparing as law
use Rattle.arrays.proofs.compare_pairs.Given as goal

-- the counter is at most one above the offset, so it has room
abbrev pub invariant-loop-x : goal.invariant-loop-x
invariant-loop-x l = (compared l.op (some (elements_of l.of l.a)) (some (elements_of l.with l.b))
    ≡ law.pairs_from l.op l.n (elements l.of l.a (left l.x-iterator.a)) (elements l.with l.b (left l.x-iterator.b)))
    × (count (left l.x-iterator.a) ≡ count (left l.x-iterator.b)) × (l.n ≤ l.x-iterator.a.at + 1) × (l.x-iterator.a.bytes.now ≡ l.a)
