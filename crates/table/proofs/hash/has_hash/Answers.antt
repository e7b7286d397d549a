use Rattle.table.proofs.Hashes as law
use Rattle.table.proofs.hash.has_hash.Goals as goal

pub loop-other-preserved : goal.loop-other-preserved
loop-other-preserved c = law.has_next _ _ _ c.loop-other.found c.loop-other.invariant c.loop-other-test.true

pub returns : goal.returns
returns c = law.has_end _ _ _ c.loop-other.found c.loop-other.invariant c.loop-other-test.false
