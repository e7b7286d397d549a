-- The characters of a text (01, "characters, not bytes"): its scalar values, one after the other.
use Rattle.std.specs.Prelude.{ℕ, ◌+◌, List, [], ◌∷◌, length, eqb}
use Rattle.base.specs.Pick.{pick}
use Rattle.base.specs.Walk.{from}
use Rattle.encoding.specs.WellFormed.{sequence_at}
use Rattle.encoding.specs.Scalar.{scalar_at}

abbrev pub character_step : List ℕ → ℕ → (ℕ → List ℕ) → List ℕ
character_step s at rest = pick (eqb (sequence_at s at) 0) [] (scalar_at s at ∷ rest (at + sequence_at s at))

-- the characters from a place on, up to the first place at which no well-formed sequence starts
unfoldable pub characters_from : List ℕ → ℕ → List ℕ
characters_from s = from (character_step s) [] (length s)

abbrev pub characters : List ℕ → List ℕ
characters s = characters_from s 0
