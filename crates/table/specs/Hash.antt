-- A hash of a name, the same for names that are the same, case ignored.
use Rattle.std.specs.Prelude.{ℕ, ◌+◌, ◌*◌, ◌%◌, List, [], ◌∷◌, Bool, false, ◌||◌, eqb}
use Rattle.record.specs.Name.{lower}

unfoldable pub hash_from : ℕ → List ℕ → ℕ
hash_from h [] = h
hash_from h (b ∷ s) = hash_from ((h * 31 + lower b) % 65536) s

abbrev pub hash_of : List ℕ → ℕ
hash_of name = hash_from 0 name

-- a hash is one of the list
unfoldable pub has_hash : ℕ → List ℕ → Bool
has_hash h [] = false
has_hash h (k ∷ hashes) = eqb k h || has_hash h hashes

-- the hashes of names, in order
unfoldable pub hashes_of : List (List ℕ) → List ℕ
hashes_of [] = []
hashes_of (name ∷ names) = hash_of name ∷ hashes_of names
