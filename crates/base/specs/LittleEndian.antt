-- 01 "Records": least byte first; signed integers in two's complement. One definition for every width.
use Rattle.std.specs.Prelude.{ℕ, ◌+◌, ◌*◌, ◌^◌, List, [], ◌∷◌, length, ltb, ℤ, pos, ◌-ℤ◌}
use Rattle.base.specs.Pick.{pick}

-- the number in the bytes, least byte first
unfoldable pub unsigned : List ℕ → ℕ
unsigned [] = 0
unsigned (b ∷ s) = b + 256 * unsigned s

-- the same bytes in two's complement: of n bytes, a number of at least half of 256 ^ n stands for itself less 256 ^ n
unfoldable pub twos_complement : List ℕ → ℤ
twos_complement s =
    pick (ltb (2 * unsigned s) (256 ^ length s)) (pos (unsigned s)) (pos (unsigned s) -ℤ pos (256 ^ length s))
