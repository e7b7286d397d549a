use Rattle.std.proofs.Common.{◌≡◌, length, take}
use Rattle.record.specs.Name.{same_name}
use Rattle.record.proofs.name.same_name.Given as goal

abbrev pub invariant-loop-i : goal.invariant-loop-i
invariant-loop-i l = (length l.a ≡ length l.b) × (same_name l.a l.b ≡ same_name (take l.i l.a) (take l.i l.b))
