-- A match on a number whose arms are a run of numbers: where none of them fits, the last number is left.
use Prim.Native.Nat.{ℕ, zero, suc, ◌+◌, ◌≤◌}
use mathlib.Core.Path.{◌≡◌, refl}
use mathlib.Core.Bool.{Bool, true, false}
use native.Mathlib.Omega.{arith}
use lib.Dec.{leb}
use borrow.Author.Tests.{leb-true, leb-false}

-- k is none of the n numbers from i on, as a match tells it of its last arm
abbrev pub NoneFrom : (i n k : ℕ) → Type 0
NoneFrom i zero k = Unit
NoneFrom i (suc n) k = NoneFrom i n k × (k ≡ i + n → ⊥)

pub last_arm : (i n k : ℕ) → i ≤ k → k ≤ i + n → NoneFrom i n k → k ≡ i + n
last_arm i zero k from to other = omega arith
last_arm i (suc n) k from to other = go (leb k (i + n)) refl (λ below. last_arm i n k from below other.0)
  where
    go : (b : Bool) → leb k (i + n) ≡ b → (k ≤ i + n → k ≡ i + n) → k ≡ i + suc n
    go true e before = absurd (other.1 (before (leb-true k (i + n) e)))
    go false e before = let h = leb-false k (i + n) e in omega arith
