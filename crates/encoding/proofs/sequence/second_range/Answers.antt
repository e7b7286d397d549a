use mathlib.Core.Path.{refl}
use Rattle.base.specs.Range.{within}
use Rattle.encoding.specs.WellFormed.{in_range}
use Rattle.encoding.specs.Lead.{starts_with, row_in, row_of, second_low, second_high}
use Rattle.encoding.proofs.WellFormed as law
use Rattle.encoding.proofs.sequence.second_range.Goals as goal

pub returns-in-224 : goal.returns-in-224
unfolding second_low second_high row_of row_in starts_with in_range within
returns-in-224 c = rw c.in-224.is refl

pub returns-in-237 : goal.returns-in-237
unfolding second_low second_high row_of row_in starts_with in_range within
returns-in-237 c = rw c.in-237.is refl

pub returns-in-240 : goal.returns-in-240
unfolding second_low second_high row_of row_in starts_with in_range within
returns-in-240 c = rw c.in-240.is refl

pub returns-in-244 : goal.returns-in-244
unfolding second_low second_high row_of row_in starts_with in_range within
returns-in-244 c = rw c.in-244.is refl

pub returns-in_default : goal.returns-in_default
returns-in_default c = search law.second_other
