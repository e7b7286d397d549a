use native.Mathlib.Omega.{arith}
use Rattle.base.proofs.LittleEndian.{room}
use Rattle.base.proofs.integer.all_ones.Goals as goal

pub overflow_mul-v : goal.overflow_mul-v
overflow_mul-v c = omega (arith, room c.loop-i.i 7 (omega arith))

pub overflow_add-v : goal.overflow_add-v
overflow_add-v c = omega (arith, room c.loop-i.i 7 (omega arith))
