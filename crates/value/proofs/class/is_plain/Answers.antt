use mathlib.Core.Path.{refl}
use Rattle.base.specs.Range.{within}
use Rattle.value.specs.Plain.{is_plain}
use Rattle.value.proofs.class.is_plain.Goals as goal

pub returns : goal.returns
unfolding is_plain within
returns c = refl
