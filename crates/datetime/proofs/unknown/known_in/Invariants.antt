use Prim.Native.Nat.{◌-◌}
use mathlib.Core.Path.{◌≡◌}
use Rattle.datetime.specs.Unknown.{known, star_from}
use Rattle.datetime.proofs.unknown.known_in.Given as goal

abbrev pub invariant-loop-i : goal.invariant-loop-i
invariant-loop-i l = known l.s ≡ star_from l.s l.i (21 - l.i)
