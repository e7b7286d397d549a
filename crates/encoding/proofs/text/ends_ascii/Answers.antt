use native.Mathlib.Omega.{arith}
use Rattle.encoding.proofs.Blocks as law
use Rattle.encoding.proofs.text.ends_ascii.Goals as goal

pub returns-then-n-ge16 : goal.returns-then-n-ge16
returns-then-n-ge16 c = law.ends_block _ _ (omega arith) (omega arith) c.all_ascii.ensures

pub returns-then-n-ge8 : goal.returns-then-n-ge8
returns-then-n-ge8 c = law.ends_two _ _ 8 (omega arith) (omega arith) c.all_ascii-then-n-ge8.ensures c.all_ascii-then-n-ge8-2.ensures

pub returns-then-n-ge4 : goal.returns-then-n-ge4
returns-then-n-ge4 c = law.ends_two _ _ 4 (omega arith) (omega arith) c.all_ascii-then-n-ge4.ensures c.all_ascii-then-n-ge4-2.ensures
