use native.Mathlib.Omega.{arith}
use Rattle.encoding.proofs.Blocks as law
use Rattle.encoding.proofs.text.pass_block.Goals as goal

pub returns-then-all_ascii : goal.returns-then-all_ascii
returns-then-all_ascii c = law.block_passed _ _ _ 16 (omega arith) (omega arith) c.requires.1 c.all_ascii.ensures c.if-all_ascii.true

pub returns : goal.returns
returns c = law.nearer_passed _ _ _ _ _ (omega arith) (omega arith) c.pass_sequences-2.ensures
