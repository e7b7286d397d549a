use Rattle.std.specs.Prelude.{Option, ℕ, Bool}
use Rattle.pattern.specs.Answers.{ReadsMembers}
use mathlib.Core.Bool.{false}
use lib.ListN.{length}
use Prim.Native.Nat.{◌-◌}
use Rattle.pattern.proofs.set.read_members.Given as goal

abbrev pub invariant-loop-end : goal.invariant-loop-end
invariant-loop-end l = (y : Option (ℕ × Bool)) → ReadsMembers l.s l.i l.c l.hit y → ReadsMembers l.s l.at l.c false y

abbrev pub decreases-loop-end : goal.decreases-loop-end
decreases-loop-end l = length l.s - l.i
