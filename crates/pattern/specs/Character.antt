-- The characters that a pattern gives a meaning of their own (01, "Pattern").
use Rattle.std.specs.Prelude.{Bool, false, ◌||◌, List, [], ◌∷◌, ℕ, eqb}

abbrev pub dot : ℕ  -- .
dot = 0x2E

abbrev pub backslash : ℕ  -- \
backslash = 0x5C

abbrev pub open_group : ℕ  -- (
open_group = 0x28

abbrev pub close_group : ℕ  -- )
close_group = 0x29

abbrev pub open_set : ℕ  -- [
open_set = 0x5B

abbrev pub close_set : ℕ  -- ]
close_set = 0x5D

abbrev pub bar : ℕ  -- |
bar = 0x7C

abbrev pub asterisk : ℕ  -- *
asterisk = 0x2A

abbrev pub plus_sign : ℕ  -- +
plus_sign = 0x2B

abbrev pub question_mark : ℕ  -- ?
question_mark = 0x3F

abbrev pub circumflex : ℕ  -- ^
circumflex = 0x5E

abbrev pub hyphen : ℕ  -- -
hyphen = 0x2D

-- . \ ( ) [ ] | * + ?
unfoldable pub special : ℕ → Bool
special x =
    eqb x dot || eqb x backslash || eqb x open_group || eqb x close_group || eqb x open_set || eqb x close_set || eqb x bar || eqb x asterisk
    || eqb x plus_sign
    || eqb x question_mark

-- a text starts with the character
unfoldable pub starts_with : ℕ → List ℕ → Bool
starts_with x [] = false
starts_with x (c ∷ s) = eqb c x
