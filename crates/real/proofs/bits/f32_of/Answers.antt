use Rattle.std.proofs.Common.{arith}
use lib.Ieee.{binary32, of_bits, div}
use Rattle.real.proofs.Patterns.{no_nan, is_nan_law}
use Rattle.real.proofs.bits.f32_of.Goals as goal

pub float_from_bits-result : goal.float_from_bits-result
float_from_bits-result c = no_nan binary32 c.args.n (omega arith)

pub returns-then-n-gt2139095040 : goal.returns-then-n-gt2139095040
unfolding of_bits div
returns-then-n-gt2139095040 c = is_nan_law binary32 c.args.n (omega arith)
