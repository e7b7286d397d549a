use mathlib.Core.Path.{◌≡◌, refl}
use native.Mathlib.Omega.{arith}
use Rattle.value.specs.Plain.{common_in}
use Rattle.value.proofs.PlainUnits as law
use Rattle.value.proofs.class.common_block.Goals as goal

pub loop-i-init : goal.loop-i-init
unfolding common_in
loop-i-init g c = refl

pub loop-i-preserved : goal.loop-i-preserved
loop-i-preserved g c = law.common_more _ _ _ _ _ _ c.loop-i.invariant c.same_in-all.ensures

pub returns : goal.returns
returns g c = let e : c.loop-i.i ≡ 16 = omega arith in rw e at c.loop-i.invariant
