use Rattle.std.proofs.Common.{arith}
use lib.Ieee.{binary64, of_bits, div}
use Rattle.real.proofs.Patterns.{no_nan, is_nan_law}
use Rattle.real.proofs.bits.f64_of.Goals as goal

pub float_from_bits-result : goal.float_from_bits-result
float_from_bits-result c = no_nan binary64 c.args.n (omega arith)

pub returns-then-n-gt9218868437227405312 : goal.returns-then-n-gt9218868437227405312
unfolding of_bits div
returns-then-n-gt9218868437227405312 c = is_nan_law binary64 c.args.n (omega arith)
