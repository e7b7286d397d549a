use mathlib.Core.Path.{◌≡◌}
use Rattle.value.specs.Plain.{common_in}
use Rattle.value.proofs.class.common_block.Given as goal

abbrev pub invariant-loop-i : goal.invariant-loop-i
invariant-loop-i g l = l.all ≡ common_in (g.C.ByteClass.class l.class) l.a l.at l.b l.beside l.i
