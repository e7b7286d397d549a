use mathlib.Core.Path.{ap, ◌∙◌}
use Rattle.base.specs.LittleEndian.{unsigned}
use Rattle.base.proofs.Lists.{part_short}
use Rattle.base.proofs.integer.unsigned_in.Goals as goal

pub unsigned_of-requires : goal.unsigned_of-requires
unsigned_of-requires c = rw c.piece.ensures (part_short c.args.s.now 0 8)

pub returns : goal.returns
returns c = c.unsigned_of.ensures.0 ∙ ap unsigned c.piece.ensures
