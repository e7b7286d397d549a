use Rattle.std.proofs.Common.{◌≡◌, ◌<◌, drop}
use Rattle.table.specs.Hash.{hash_of, hash_from}
use Rattle.table.proofs.hash.hash_of.Given as goal

abbrev pub invariant-loop-byte : goal.invariant-loop-byte
invariant-loop-byte l = (l.h < 65536) × (hash_of l.name ≡ hash_from l.h (drop l.byte-index l.name))
