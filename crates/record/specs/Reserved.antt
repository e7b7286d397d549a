-- DSP0212 5.3.1: the words that are reserved, in any case of their letters.
use Rattle.std.specs.Prelude.{ℕ, List, [], ◌∷◌, Bool, false, ◌||◌}
use Rattle.base.specs.Ascii.{bytes}
use Rattle.record.specs.Name.{same_name}

unfoldable pub reserved_words : List (List ℕ)
reserved_words =
    bytes "AND" ∷ bytes "ANY" ∷ bytes "EVERY" ∷ bytes "FALSE" ∷ bytes "LIKE" ∷ bytes "NOT" ∷ bytes "NULL" ∷ bytes "OR" ∷ bytes "TRUE" ∷ []

-- the word is one of the list
unfoldable pub among : List ℕ → List (List ℕ) → Bool
among s [] = false
among s (word ∷ words) = same_name s word || among s words

unfoldable pub is_reserved : List ℕ → Bool
is_reserved s = among s reserved_words
