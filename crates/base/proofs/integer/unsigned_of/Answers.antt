use Rattle.base.proofs.LittleEndian.{unsigned_next, one_more_law, room}
use Rattle.base.specs.LittleEndian.{unsigned}
use native.Mathlib.Omega.{arith}
use native.Mathlib.Nat.{sub_self}
use lib.Seq.{drop-length}
use lib.ListN.{length}
use mathlib.Core.Path.{◌≡◌, sym, ap}
use Prim.Native.Nat.{suc, ◌+◌, ◌-◌}
use Rattle.base.proofs.integer.unsigned_of.Goals as goal

pub loop-i-init : goal.loop-i-init
unfolding unsigned
loop-i-init c = (sym (ap unsigned (drop-length c.args.s.now)), simp (sub_self (length c.args.s.now)) (omega arith))

pub overflow_mul-v : goal.overflow_mul-v
overflow_mul-v c = omega (arith, room (length c.args.s.now - c.loop-i.i) 7 (omega arith))

pub overflow_add-v : goal.overflow_add-v
overflow_add-v c = omega (arith, room (length c.args.s.now - c.loop-i.i) 7 (omega arith), c.from.ensures, (c.type_inv.s (c.loop-i.i - 1)).fits)

pub loop-i-preserved : goal.loop-i-preserved
loop-i-preserved c = let s = c.args.s.now in
    let i = c.loop-i.i in
    let e : i - 1 + 1 ≡ i = omega arith in
    let k : length s - (i - 1) ≡ suc (length s - i) = omega arith in
    let n = rw e at (unsigned_next s (i - 1) (omega arith)) in
    (omega (arith, n, c.from.ensures), rw k (one_more_law _ _ _ c.loop-i.invariant.1 (omega (arith, c.from.ensures, (c.type_inv.s (i - 1)).fits))))
