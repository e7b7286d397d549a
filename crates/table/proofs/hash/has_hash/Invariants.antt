use Rattle.std.proofs.Common.{◌≡◌, ◌||◌, drop}
use Rattle.table.specs.Hash.{has_hash}
use Rattle.table.proofs.hash.has_hash.Given as goal

abbrev pub invariant-loop-other : goal.invariant-loop-other
invariant-loop-other l = has_hash l.hash l.hashes ≡ (l.found || has_hash l.hash (drop l.other-index l.hashes))
