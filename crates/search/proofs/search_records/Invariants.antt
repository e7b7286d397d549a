use Rattle.std.proofs.Common.{◌≡◌, ◌+◌, ◌-◌, ◌≤◌, false, length}
use Rattle.std.proofs.Math.Option.{some}
use Rattle.record.specs.Walked.{left}
use Rattle.instance.specs.Value.{elements}
use Rattle.value.specs.Item.{item_value}
use Rattle.place.specs.Place.{elements_of}
use Rattle.search.specs.Search.{besides, searched}
use Rattle.search.proofs.Searching as law
use Rattle.search.proofs.search_records.Given as goal

-- the counter is at most one above the offset, so it has room
abbrev pub invariant-loop-record : goal.invariant-loop-record
invariant-loop-record l = (searched false l.any l.op (some (elements_of l.of l.a)) (item_value l.b l.y)
    ≡ law.search_from l.any (besides l.op (item_value l.b l.y)) l.n (elements l.of l.a (left l.records)))
    × (l.n ≤ l.records.at + 1) × (l.records.bytes.now ≡ l.a)

abbrev pub decreases-loop-record : goal.decreases-loop-record
decreases-loop-record l = length l.a - l.records.at
