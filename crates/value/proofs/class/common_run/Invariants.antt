use mathlib.Core.Bool.{true}
use mathlib.Core.Path.{◌≡◌}
use Rattle.value.specs.Plain.{common_in}
use Rattle.value.proofs.class.common_run.Given as goal

abbrev pub invariant-loop-n : goal.invariant-loop-n
invariant-loop-n g l = common_in (g.C.ByteClass.class l.class) l.a l.at l.b l.beside l.n ≡ true
