-- Unicode scalar values (the Unicode Standard, D76) and their bits in a sequence (Table 3-6, "UTF-8 Bit Distribution").
use Rattle.std.specs.Prelude.{ℕ, ◌+◌, ◌*◌, ◌/◌, ◌%◌, List, [], ◌∷◌, Bool, ◌||◌, ltb}
use Rattle.base.specs.Pick.{pick}
use Rattle.base.specs.Part.{part}
use Rattle.base.specs.Range.{within}
use Rattle.encoding.specs.WellFormed.{sequence_at}

-- a code point that is no surrogate
unfoldable pub is_scalar_value : ℕ → Bool
is_scalar_value v = within 0 0xD7FF v || within 0xE000 0x10FFFF v

-- the scalar value of a sequence: 7 bits; 5 and 6; 4, 6 and 6; 3, 6, 6 and 6. 0 where there is no sequence
unfoldable pub scalar_of : List ℕ → ℕ
scalar_of [] = 0
scalar_of (a ∷ []) = a
scalar_of (a ∷ b ∷ []) = a % 32 * 64 + b % 64
scalar_of (a ∷ b ∷ c ∷ []) = (a % 16 * 64 + b % 64) * 64 + c % 64
scalar_of (a ∷ b ∷ c ∷ d ∷ s) = ((a % 8 * 64 + b % 64) * 64 + c % 64) * 64 + d % 64

-- the scalar value of the well-formed sequence at a place
unfoldable pub scalar_at : List ℕ → ℕ → ℕ
scalar_at s at = scalar_of (part s at (sequence_at s at))

-- a value's bits in two, three and four bytes
abbrev pub two_bytes : ℕ → List ℕ
two_bytes v = (0xC0 + v / 64) ∷ (0x80 + v % 64) ∷ []

abbrev pub three_bytes : ℕ → List ℕ
three_bytes v = (0xE0 + v / 4096) ∷ (0x80 + v / 64 % 64) ∷ (0x80 + v % 64) ∷ []

abbrev pub four_bytes : ℕ → List ℕ
four_bytes v = (0xF0 + v / 262144) ∷ (0x80 + v / 4096 % 64) ∷ (0x80 + v / 64 % 64) ∷ (0x80 + v % 64) ∷ []

-- the sequence of a scalar value: the shortest that holds its bits
unfoldable pub encode : ℕ → List ℕ
encode v = pick (ltb v 0x80) (v ∷ []) (pick (ltb v 0x800) (two_bytes v) (pick (ltb v 0x10000) (three_bytes v) (four_bytes v)))
