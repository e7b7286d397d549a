use Rattle.encoding.specs.Scalar.{scalar_at}
use Rattle.encoding.proofs.scalar.scalar_at.Goals as goal

pub returns : goal.returns
unfolding scalar_at
returns c = rw (c.scalar_of.ensures, c.piece.ensures, c.sequence_at-n.ensures)
