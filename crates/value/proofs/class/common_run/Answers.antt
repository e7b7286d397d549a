use mathlib.Core.Path.{◌≡◌}
use native.Mathlib.Omega.{arith}
use Rattle.value.proofs.PlainUnits as law
use Rattle.value.proofs.class.common_run.Goals as goal

pub loop-n-init : goal.loop-n-init
loop-n-init g c = c.common_blocks-blocks.ensures.1.common

pub returns-then-not-same_in : goal.returns-then-not-same_in
returns-then-not-same_in g c = law.common_found _ _ _ _ _ _ c.both_left-limit.ensures.0 c.both_left-limit.ensures.1 _ (omega arith) c.loop-n.invariant

pub loop-n-preserved : goal.loop-n-preserved
loop-n-preserved g c =
    law.byte_more _ _ _ _ _ _ c.both_left-limit.ensures.0 c.both_left-limit.ensures.1 _ (omega arith) c.loop-n.invariant c.same_in.ensures c.if-not-same_in.false

pub returns : goal.returns
returns g c =
    let e : c.loop-n.n ≡ c.both_left-limit.result = omega arith in
    rw e at (law.common_found _ _ _ _ _ _ c.both_left-limit.ensures.0 c.both_left-limit.ensures.1 _ (omega arith) c.loop-n.invariant)
