-- Text, octets and references as sequences of units: a text's characters, or bytes. A form says how the units stand in a slice.
use Rattle.std.specs.Prelude.{ℕ, ◌+◌, ◌*◌, List, [], ◌∷◌, ◌++◌, length, drop, eqb, ltb, ◌≡◌, Option, Some, None}
use Rattle.base.specs.Pick.{pick}
use Rattle.base.specs.Digit.{digit_of}
use Rattle.record.specs.Record.{number_at}
use Rattle.encoding.specs.Characters.{characters_from}
use Rattle.encoding.specs.Scalar.{encode}
use Rattle.string_literal.specs.Text.{text_at, characters_of, bytes_of}
use Rattle.value.specs.declared.unit.Form.{Form}
use Rattle.value.specs.declared.unit.Form.TheVariants.{Bytes, Utf8, Char16, Hex, Quoted, Encoded}
use Rattle.value.specs.declared.unit.Units.{Units}

-- a byte for each pair of hex digits
unfoldable pub hex_pairs : List ℕ → List ℕ
hex_pairs [] = []
hex_pairs (a ∷ []) = []
hex_pairs (a ∷ b ∷ s) = (digit_of a * 16 + digit_of b) ∷ hex_pairs s

-- the UTF-8 of characters without the first bytes of the first one; nothing is left of it where it has no more
unfoldable pub utf8_after : (skipped : ℕ) → List ℕ → List ℕ
utf8_after skipped [] = []
utf8_after skipped (v ∷ vs) = pick (ltb skipped (length (encode v))) (drop skipped (encode v) ++ bytes_of vs) []

-- the units from a place on
unfoldable pub units_from : Form → List ℕ → ℕ → List ℕ
units_from Bytes s at = drop at s
units_from Utf8 s at = characters_from s at
units_from Char16 s at = pick (eqb at 0) (number_at s 0 ∷ []) []
units_from Hex s at = hex_pairs (drop at s)
units_from Quoted s at = characters_of (text_at s at)
units_from (Encoded skipped) s at = utf8_after skipped (characters_of (text_at s at))

abbrev pub units : Units → List ℕ
units u = units_from u.form u.bytes.now u.at

-- the first of some units and those after it; or that there are none
abbrev pub Steps : List ℕ → Option (ℕ × Units) → Type 0
Steps us (Some (v, rest)) = us ≡ v ∷ units rest
Steps us None = us ≡ []

-- what is left of a slice stands in it
abbrev pub StaysIn : List ℕ → Option (ℕ × Units) → Type 0
StaysIn s (Some (v, rest)) = rest.bytes.now ≡ s
StaysIn s None = Unit
