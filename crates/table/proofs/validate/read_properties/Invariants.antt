use Rattle.std.proofs.Common.{◌≡◌, length, take, []}
use Rattle.record.specs.Record.{records}
use Rattle.record.specs.Walked.{left}
use Rattle.record.proofs.Reach.{Reaches}
use Rattle.table.specs.Table.{properties}
use Rattle.table.specs.Properties.{names_before}
use Rattle.table.specs.Hash.{hashes_of}
use Rattle.table.proofs.validate.read_properties.Given as goal

abbrev pub invariant-loop-record : goal.invariant-loop-record
invariant-loop-record l =
    (l.record-iterator.bytes.now ≡ l.t)
    × Reaches l.t l.first l.record-iterator.at
    × (l.count ≡ length (names_before l.t l.record-iterator.at (records l.t l.first)))
    × (properties l.t [] (records l.t l.first) ≡ properties l.t (names_before l.t l.record-iterator.at (records l.t l.first)) (left l.record-iterator))
    × (length l.hashes ≡ 128)
    × (take l.count l.hashes ≡ hashes_of (names_before l.t l.record-iterator.at (records l.t l.first)))
