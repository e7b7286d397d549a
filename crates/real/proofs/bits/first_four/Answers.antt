use Rattle.std.proofs.Common.{◌≡◌, ℕ, take, arith}
use Rattle.base.specs.LittleEndian.{unsigned}
use Rattle.base.proofs.ByteLists.{part_below, shorter}
use Rattle.real.proofs.bits.first_four.Goals as goal

pub returns : goal.returns
returns c = let e : c.unsigned_in.result ≡ unsigned (take 4 c.args.s.now) = rw (c.piece.ensures, shorter 4 8 c.args.s.now (omega arith)) at c.unsigned_in.ensures in (e, rw e (part_below c.args.s.now 0 4 (λ (i : ℕ). (c.shared_slice_known-1.given i).fits)))
