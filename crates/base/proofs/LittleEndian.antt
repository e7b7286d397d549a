-- Laws of integers in bytes, each over the width.
use Prim.Native.Nat.{ℕ, suc, ◌+◌, ◌-◌, ◌*◌, ◌/◌, ◌^◌, ◌≤◌, ◌<◌}
use mathlib.Core.List.{List}
use mathlib.Core.Path.{◌≡◌, sym, ap}
use native.Mathlib.Omega.{arith}
use native.Mathlib.Nat.{pow-succ', pow-le-pow_right}
use native.Mathlib.Numerals.{add-one}
use lib.ListN.{length, get_or, drop}
use lib.IntN.{pos, negsuc, ◌-ℤ◌}
use borrow.Author.Tests.{lt-ltb, le-ltb}
use Rattle.base.specs.LittleEndian.{unsigned, twos_complement}
use Rattle.base.proofs.Lists.{left_next, at_end_law}

-- what is left at `i`, by what is left after it
pub unsigned_next : (s : List ℕ) (i : ℕ) → i < length s → unsigned (drop i s) ≡ get_or s i 0 + 256 * unsigned (drop (i + 1) s)
unfolding unsigned
unsigned_next s i h = rw left_next

-- eight bytes, each in its place
pub eight_bytes : (s : List ℕ) → length s ≡ 8
    → unsigned s
    ≡ get_or s 0 0 + get_or s 1 0 * 0x100 + get_or s 2 0 * 0x10000 + get_or s 3 0 * 0x1000000 + get_or s 4 0 * 0x100000000 + get_or s 5 0 * 0x10000000000
    + get_or s 6 0 * 0x1000000000000 + get_or s 7 0 * 0x100000000000000
unfolding unsigned
eight_bytes s h =
    omega (arith, byte 0 (omega arith), byte 1 (omega arith), byte 2 (omega arith), byte 3 (omega arith), byte 4 (omega arith), byte 5 (omega arith), byte 6 (omega arith), byte 7 (omega arith), nothing)
  where
    byte : (i : ℕ) → i < 8 → unsigned (drop i s) ≡ get_or s i 0 + 256 * unsigned (drop (i + 1) s)
    byte i l = unsigned_next s i (omega arith)

    nothing : unsigned (drop 8 s) ≡ 0
    nothing = at_end_law unsigned s 8 (omega arith)

-- one byte more: the bound for `k` bytes gives the bound for `suc k`
pub one_more_law : (v b k : ℕ) → v < 256 ^ k → b < 256 → v * 256 + b < 256 ^ suc k
one_more_law v b k h g = omega (arith, pow-succ' 256 k)

-- the greatest number of one byte more
pub ones_more : (v k : ℕ) → v + 1 ≡ 256 ^ k → v * 256 + 255 + 1 ≡ 256 ^ (k + 1)
ones_more v k h = rw (add-one k) (omega (arith, pow-succ' 256 k))

-- up to 7 bytes leave room for one more; up to 8 fit
pub room : (k n : ℕ) → k ≤ n → 256 ^ k ≤ 256 ^ n
room k n h = pow-le-pow_right (omega arith) h

-- a number below a power, less the power
below : (u p : ℕ) → u ≤ p → pos u -ℤ pos (suc p) ≡ negsuc (p - u)
below u p h = rw (lt-ltb u (suc p) (omega arith)) (ap negsuc (omega arith))

-- the two ways out of two's complement; `ones` is the greatest number of as many bytes
module _ (s : List ℕ) {u : ℕ} (ones : ℕ) (value : u ≡ unsigned s) (most : ones + 1 ≡ 256 ^ length s) where
  pub signed_low : u ≤ ones / 2 → pos u ≡ twos_complement s
  unfolding twos_complement
  signed_low h = rw (← value, ← most, lt-ltb (2 * u) (ones + 1) (omega arith))

  pub signed_high : ones / 2 < u → u < 256 ^ length s → negsuc (ones - u) ≡ twos_complement s
  unfolding twos_complement
  signed_high h l = rw (← value, ← most, le-ltb (2 * u) (ones + 1) (omega arith), add-one) (sym (below u ones (omega arith)))
