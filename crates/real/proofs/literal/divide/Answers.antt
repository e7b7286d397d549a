use Rattle.std.proofs.Common.{pos, neg_ℤ, ◌∙◌, arith, to_z-of_z, w32}
use lib.IntN.{+ℤ_idl}
use Rattle.base.proofs.Signed.{to_z_small, difference_fits}
use Rattle.real.proofs.Laws.{divided}
use Rattle.real.proofs.literal.divide.Goals as goal

pub returns : goal.returns
returns c = c.keep.ensures ∙ rw (to_z_small w32 c.args.k (omega arith), to_z-of_z (difference_fits w32 0 c.args.k (omega arith) (omega arith)), +ℤ_idl (neg_ℤ (pos c.args.k)), c.power_of_ten.ensures, ← divided c.args.digits c.args.k (omega arith))
