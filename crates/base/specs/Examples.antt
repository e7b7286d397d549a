-- Worked values: bytes and the numbers that they hold at each width, digits and the numbers that they write in each base.
use Rattle.std.specs.Prelude.{ℕ, List, [], ◌∷◌, ℤ, pos, negsuc}
use Rattle.base.specs.Ascii.{bytes}

-- −5 in 1, 2, 4 and 8 bytes, and the ends of one byte's range
abbrev pub signed : List (List ℕ × ℤ)
signed =
    (251 ∷ [], negsuc 4)
    ∷ (251 ∷ 255 ∷ [], negsuc 4)
    ∷ (251 ∷ 255 ∷ 255 ∷ 255 ∷ [], negsuc 4)
    ∷ (251 ∷ 255 ∷ 255 ∷ 255 ∷ 255 ∷ 255 ∷ 255 ∷ 255 ∷ [], negsuc 4)
    ∷ (127 ∷ [], pos 127)
    ∷ (128 ∷ [], negsuc 127)
    ∷ ([], pos 0)
    ∷ []

-- the same bytes without a sign
abbrev pub without_sign : List (List ℕ × ℕ)
without_sign =
    (251 ∷ [], 251)
    ∷ (251 ∷ 255 ∷ [], 65531)
    ∷ (251 ∷ 255 ∷ 255 ∷ 255 ∷ [], 4294967291)
    ∷ (251 ∷ 255 ∷ 255 ∷ 255 ∷ 255 ∷ 255 ∷ 255 ∷ 255 ∷ [], 18446744073709551611)
    ∷ (1 ∷ 2 ∷ [], 513)
    ∷ []

-- a base and a text of digits
abbrev pub numerals : List ((ℕ × List ℕ) × ℕ)
numerals = ((2, bytes "101"), 5) ∷ ((10, bytes "2005"), 2005) ∷ ((16, bytes "fF"), 255) ∷ []
