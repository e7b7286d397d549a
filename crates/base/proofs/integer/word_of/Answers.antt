use native.Mathlib.Omega.{arith}
use Rattle.base.proofs.LittleEndian.{eight_bytes}
use Rattle.base.proofs.integer.word_of.Goals as goal

pub returns : goal.returns
returns c = (omega (arith, eight_bytes c.args.s.now c.requires), omega arith)
