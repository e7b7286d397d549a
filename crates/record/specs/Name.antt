-- 01 "Records": a name is a letter or `_`, then letters, digits, `_`; ASCII, 1 to 64 bytes, case ignored.
use Rattle.std.specs.Prelude.{ℕ, ◌+◌, List, [], ◌∷◌, Bool, true, false, ◌&&◌, ◌||◌, length, get_or, eqb}
use Rattle.std.specs.List.{list_all}
use Rattle.base.specs.Pick.{pick}
use Rattle.base.specs.Range.{within}

-- a letter or `_`
unfoldable pub letter : ℕ → Bool
letter b = within 65 90 b || within 97 122 b || eqb b 95

-- a letter, a digit or `_`
unfoldable pub name_byte : ℕ → Bool
name_byte b = letter b || within 48 57 b

unfoldable pub valid_name : List ℕ → Bool
valid_name s = within 1 64 (length s) && (letter (get_or s 0 0) && list_all name_byte s)

-- a capital letter's small one; any other byte itself
unfoldable pub lower : ℕ → ℕ
lower b = pick (within 65 90 b) (b + 32) b

-- the same, case ignored
unfoldable pub same_name : List ℕ → List ℕ → Bool
same_name [] [] = true
same_name [] (y ∷ ys) = false
same_name (x ∷ xs) [] = false
same_name (x ∷ xs) (y ∷ ys) = eqb (lower x) (lower y) && same_name xs ys
