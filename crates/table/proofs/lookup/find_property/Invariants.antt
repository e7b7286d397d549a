use Rattle.std.proofs.Common.{◌≡◌}
use Rattle.record.specs.Walked.{left}
use Rattle.table.specs.Properties.{find_in, find_property}
use Rattle.table.proofs.lookup.find_property.Given as goal

abbrev pub invariant-loop-number : goal.invariant-loop-number
invariant-loop-number l = find_property l.t l.name ≡ find_in l.t l.name l.number-iterator.count (left l.number-iterator.iter)
