-- Signed numbers made of unsigned ones, at any width.
use mathlib.Core.Path.{◌≡◌, ap}
use mathlib.Core.Bool.{Bool, true, false, cond}
use Prim.Native.Nat.{ℕ, zero, suc, ◌+◌, ◌-◌, ◌*◌, ◌^◌, ◌<◌}
use native.Mathlib.Nat.{zero-mul}
use native.Mathlib.Omega.{arith}
use lib.Dec.{ltb}
use lib.IntN.{ℤ, pos, negsuc, neg_ℤ, ◌+ℤ◌, ◌-ℤ◌, ◌*ℤ◌, neg_ℤ-neg_ℤ}
use mir.Syntax.{Width}
use mir.Val.{SFits, to_z, hbits}
use borrow.Author.Tests.{lt-ltb}
use borrow.Author.Rules.{sfits_of}

-- the bits of a small number stand for itself
pub to_z_small : (w : Width) (n : ℕ) → n < 2 ^ hbits w → to_z w n ≡ pos n
to_z_small w n h = rw (lt-ltb n (2 ^ hbits w) h)

picked_fits : (w : Width) (b : Bool) (m n : ℕ) → m < 2 ^ hbits w → n < 2 ^ hbits w → SFits w (cond b (negsuc m) (pos n))
picked_fits w true m n h k = sfits_of h
picked_fits w false m n h k = sfits_of k

pub difference_fits : (w : Width) (a b : ℕ) → a < 2 ^ hbits w → b < 2 ^ hbits w → SFits w (pos a -ℤ pos b)
difference_fits w a zero h k = sfits_of (omega arith)
difference_fits w a (suc b) h k = picked_fits w (ltb a (suc b)) (suc b - suc a) (a - suc b) (omega arith) (omega arith)

-- less a negative product is more
pub less_negative : (a m n : ℕ) → pos a -ℤ (neg_ℤ (pos m) *ℤ pos n) ≡ pos (a + m * n)
less_negative a zero n = rw (zero-mul n)
less_negative a (suc m) n = ap (λ (z : ℤ). pos a +ℤ z) (neg_ℤ-neg_ℤ (pos (suc m * n)))
