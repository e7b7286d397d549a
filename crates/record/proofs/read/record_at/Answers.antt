use Prim.Native.Nat.{ℕ}
use native.Mathlib.Omega.{arith}
use Rattle.record.proofs.Laws as law
use Rattle.record.proofs.Small.{number_below}
use Rattle.record.proofs.read.record_at.Goals as goal

pub returns-then-s-at : goal.returns-then-s-at
returns-then-s-at c = search law.record_past

pub returns-then-left-lt4 : goal.returns-then-left-lt4
returns-then-left-lt4 c = search law.record_short

pub overflow_add-next-2 : goal.overflow_add-next-2
overflow_add-next-2 c = omega (arith, c.number_at-length.ensures, number_below c.args.s.now c.args.at (λ (i : ℕ). (c.shared_slice_known-1.given i).fits), c.well_formed.0.1)

pub returns-then-s-next : goal.returns-then-s-next
returns-then-s-next c = search law.record_over

pub returns : goal.returns
returns c = search law.record_whole
