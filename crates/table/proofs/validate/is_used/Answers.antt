use Rattle.std.proofs.Common.{ap, not, ◌∙◌}
use Rattle.table.proofs.Hashes as law
use Rattle.table.proofs.validate.is_used.Goals as goal

pub returns-else-has_hash : goal.returns-else-has_hash
returns-else-has_hash c = c.if-has_hash.false ∙ law.new_name _ _ _ c.requires.0 _ c.requires.1 _ c.has_hash.ensures (ap not c.if-has_hash.false)
