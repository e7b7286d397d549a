use Rattle.std.proofs.Common.{rules}
use Rattle.table.proofs.Hashes as law
use Rattle.table.proofs.hash.hash_of.Goals as goal

pub loop-byte-preserved : goal.loop-byte-preserved
loop-byte-preserved c = (law.hash_below _, law.hash_next _ _ _ c.loop-byte.invariant.1 c.loop-byte-test.true (search rules))

pub returns : goal.returns
returns c = law.hash_end _ _ _ c.loop-byte.invariant.1 c.loop-byte-test.false
