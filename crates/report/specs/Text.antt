-- Lines as a text, each terminated by a line feed; and the lines that stand in a text, with their words, for what 02 Q-1 says of "the number of lines above of that word".
use Rattle.std.specs.Prelude.{ℕ, ◌+◌, List, [], ◌∷◌, ◌++◌, eqb}
use Rattle.base.specs.Pick.{pick}
use Rattle.base.specs.Part.{same_bytes}

abbrev pub line_feed : ℕ
line_feed = 10

abbrev pub blank : ℕ
blank = 32

unfoldable pub terminated : (line : List ℕ) → List ℕ
terminated l = l ++ (line_feed ∷ [])

unfoldable pub text : (lines : List (List ℕ)) → List ℕ
text [] = []
text (l ∷ rest) = terminated l ++ text rest

-- a byte before the first of some lines
abbrev pub on_first : (byte : ℕ) (lines : List (List ℕ)) → List (List ℕ)
on_first b [] = (b ∷ []) ∷ []
on_first b (l ∷ rest) = (b ∷ l) ∷ rest

-- a text's lines without their line feeds; the last one may lack its own
unfoldable pub lines_of : (text : List ℕ) → List (List ℕ)
lines_of [] = []
lines_of (b ∷ s) = pick (eqb b line_feed) ([] ∷ lines_of s) (on_first b (lines_of s))

unfoldable pub after_blank : List ℕ → List ℕ
after_blank [] = []
after_blank (b ∷ s) = pick (eqb b blank) s (after_blank s)

unfoldable pub until_blank : List ℕ → List ℕ
until_blank [] = []
until_blank (b ∷ s) = pick (eqb b blank) [] (b ∷ until_blank s)

-- a line's word stands between its first two blanks
abbrev pub word_in : (line : List ℕ) → List ℕ
word_in l = until_blank (after_blank l)

-- how many lines have a word
unfoldable pub lines_with : (word : List ℕ) (lines : List (List ℕ)) → ℕ
lines_with word [] = 0
lines_with word (l ∷ rest) = pick (same_bytes (word_in l) word) 1 0 + lines_with word rest
