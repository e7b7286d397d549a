-- 000 5.3.2, binary-digit, decimal-digit and hex-digit: what digits of any base up to 16 write, in any number.
use Rattle.std.specs.Prelude.{ℕ, zero, suc, ◌+◌, ◌-◌, ◌*◌, Bool, true, ◌&&◌, List, Option, Some, None, ltb, leb}
use Rattle.base.specs.Pick.{pick}
use Rattle.base.specs.Part.{byte_at}
use Rattle.base.specs.Range.{within}

-- the value of `0` to `9`, `A` to `F`, `a` to `f`; 16, a digit of no base, of any other byte
unfoldable pub digit_of : ℕ → ℕ
digit_of b = pick (within 48 57 b) (b - 48) (pick (within 65 70 b) (b - 55) (pick (within 97 102 b) (b - 87) 16))

-- the `n` bytes from `at` on are digits of the base
unfoldable pub all_digits : ℕ → List ℕ → ℕ → ℕ → Bool
all_digits base s at zero = true
all_digits base s at (suc n) = all_digits base s at n && ltb (digit_of (byte_at s (at + n))) base

-- the number `v` with the `n` digits from `at` on written after it
unfoldable pub value_of : ℕ → ℕ → List ℕ → ℕ → ℕ → ℕ
value_of base v s at zero = v
value_of base v s at (suc n) = value_of base v s at n * base + digit_of (byte_at s (at + n))

-- a number up to a limit
unfoldable pub size_under : ℕ → ℕ → Option ℕ
size_under limit v = pick (leb v limit) (Some v) None
