use Rattle.std.proofs.Common.{◌∙◌, arith, w32}
use Rattle.base.proofs.Signed.{to_z_small}
use Rattle.real.specs.Real.{magnitude}
use Rattle.real.proofs.literal.multiply.Goals as goal

pub returns : goal.returns
unfolding magnitude
returns c = c.keep.ensures ∙ rw (to_z_small w32 c.args.k (omega arith), c.power_of_ten.ensures)
