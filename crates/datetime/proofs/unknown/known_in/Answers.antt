use mathlib.Core.Path.{refl}
use native.Mathlib.Omega.{arith}
use Rattle.datetime.specs.Unknown.{known}
use Rattle.datetime.proofs.Stars as law
use Rattle.datetime.proofs.unknown.known_in.Goals as goal

pub loop-i-init : goal.loop-i-init
unfolding known
loop-i-init c = refl

pub returns-then-byte_at-eq42 : goal.returns-then-byte_at-eq42
returns-then-byte_at-eq42 c = (law.star_found _ _ c.loop-i.invariant c.loop-i-test.true c.byte_at.ensures c.if-byte_at-eq42.true, omega arith)

pub loop-i-preserved : goal.loop-i-preserved
loop-i-preserved c = law.star_later _ _ c.loop-i.invariant c.loop-i-test.true c.byte_at.ensures c.if-byte_at-eq42.false

pub returns : goal.returns
returns c = (law.star_none _ _ c.loop-i.invariant c.loop-i.auto.i-end c.loop-i-test.false, omega arith)
