-- 01 "Records": the bytes of a record, and of a number in so many bytes, least byte first.
use Rattle.std.specs.Prelude.{ℕ, zero, suc, ◌-◌, ◌/◌, ◌%◌, ◌^◌, List, [], ◌∷◌, ◌++◌, length, ℤ, pos, negsuc}

-- a number in `width` bytes
unfoldable pub little_endian : (width : ℕ) → ℕ → List ℕ
little_endian zero n = []
little_endian (suc width) n = n % 256 ∷ little_endian width (n / 256)

-- a whole number in `width` bytes, below zero in two's complement: −1 − n is 256 ^ width − 1 − n there
unfoldable pub stored : (width : ℕ) → ℤ → List ℕ
stored width (pos n) = little_endian width n
stored width (negsuc n) = little_endian width (256 ^ width - 1 - n)

-- a record of a kind and a body
unfoldable pub write : (kind : ℕ) (body : List ℕ) → List ℕ
write kind body = little_endian 2 (length body) ++ little_endian 2 kind ++ body
