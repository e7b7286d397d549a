use Rattle.datetime.proofs.Stars as law
use native.Mathlib.Omega.{arith}
use Rattle.datetime.proofs.unknown.fill.Goals as goal

pub returns : goal.returns
returns c = law.fills _ _ _ c.requires.0 (omega arith) c.requires.1 (omega arith) c.write_text.ensures c.piece.ensures c.write_text-2.ensures
