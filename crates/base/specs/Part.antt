-- Parts of a list of bytes, and bytes by their offset. Both are total: a part is clipped at the end, and a byte past the end is 0,
-- which no rule of the formats takes for a byte of its own there.
use Rattle.std.specs.Prelude.{ℕ, Bool, true, false, List, [], ◌∷◌, get_or, take, drop, eqb}
use Rattle.base.specs.Pick.{pick}

-- the `len` bytes from `start` on, as far as there are any
abbrev pub part : List ℕ → ℕ → ℕ → List ℕ
part s start len = take len (drop start s)

-- the byte at an offset; 0 past the end
abbrev pub byte_at : List ℕ → ℕ → ℕ
byte_at s at = get_or s at 0

-- whether two lists of bytes are the same
unfoldable pub same_bytes : List ℕ → List ℕ → Bool
same_bytes [] [] = true
same_bytes [] (y ∷ ys) = false
same_bytes (x ∷ xs) [] = false
same_bytes (x ∷ xs) (y ∷ ys) = pick (eqb x y) (same_bytes xs ys) false
