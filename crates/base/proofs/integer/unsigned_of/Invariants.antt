use Rattle.base.specs.LittleEndian.{unsigned}
use lib.ListN.{length, drop}
use mathlib.Core.Path.{◌≡◌}
use Prim.Native.Nat.{◌-◌, ◌<◌, ◌^◌}
use Rattle.base.proofs.integer.unsigned_of.Given as goal

abbrev pub invariant-loop-i : goal.invariant-loop-i
invariant-loop-i l = (l.v ≡ unsigned (drop l.i l.s)) × (l.v < 256 ^ (length l.s - l.i))
