use mathlib.Core.Path.{ap}
use lib.Bits.{bit_xor}
use Rattle.pattern.proofs.Linking as law
use Rattle.pattern.proofs.symbol_set.without.Goals as goal

pub returns : goal.returns
returns c = law.without_member c.args.set c.args.k c.requires.1 _ (ap (bit_xor c.args.set) (law.shl_one c.args.k c.requires.0))
