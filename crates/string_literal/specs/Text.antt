-- A string literal's text, character by character (000 5.3.2, string-literal; 01: "a bad escape makes the string no token").
use Rattle.std.specs.Prelude.{ℕ, ◌+◌, ◌≤◌, ◌<◌, ◌≡◌, List, [], ◌∷◌, ◌++◌, Option, Some, None, length, take, eqb, leb}
use Rattle.base.specs.Pick.{pick}
use Rattle.base.specs.Part.{byte_at}
use Rattle.base.specs.Walk.{from}
use Rattle.encoding.specs.Scalar.{encode}
use Rattle.string_literal.specs.declared.InString.{InString}
use Rattle.string_literal.specs.declared.InString.TheVariants.{Character, Close, Bad}
use Rattle.string_literal.specs.Char.{char_at}

-- characters, then the closing quote and the place after it, or a place that holds no character
pub data Text : Type 0 where
  character : ℕ → Text → Text
  closed : ℕ → Text
  spoiled : Text

abbrev pub follow : ℕ → InString → (ℕ → Text) → Text
follow at (Character v next) rest = character v (rest next)
follow at Close rest = closed (at + 1)
follow at Bad rest = spoiled

-- the text from a place inside a string literal on
unfoldable pub text_at : List ℕ → ℕ → Text
text_at q = from (λ at rest. follow at (char_at q at) rest) spoiled (length q)

-- the characters, unescaped
unfoldable pub characters_of : Text → List ℕ
characters_of (character v t) = v ∷ characters_of t
characters_of (closed e) = []
characters_of spoiled = []

-- 01 "Meaning": "octets and references byte by byte after unescaping": the UTF-8 bytes of the characters
unfoldable pub bytes_of : List ℕ → List ℕ
bytes_of [] = []
bytes_of (v ∷ cs) = encode v ++ bytes_of cs

-- the end of the literal; `none` where it is no token
unfoldable pub end_or : ℕ → Text → ℕ
end_or none (character v t) = end_or none t
end_or none (closed e) = e
end_or none spoiled = none

-- string-literal: its end; the place itself if none stands there
unfoldable pub string_literal : List ℕ → ℕ → ℕ
string_literal q at = pick (eqb (byte_at q at) 39) (end_or at (text_at q (at + 1))) at

-- a character found at a place in n bytes ends behind it and within the text
abbrev pub WithinChar : ℕ → ℕ → InString → Type 0
WithinChar n at (Character v next) = (at < next) × (next ≤ n) × (v < 0x110000)
WithinChar n at Close = at < n
WithinChar n at Bad = Unit

-- how many characters there are, if a buffer of `size` places holds them
unfoldable pub filled : ℕ → List ℕ → Option ℕ
filled size cs = pick (leb (length cs) size) (Some (length cs)) None

-- the buffer starts with the characters, if there are not too many
abbrev pub Holds : List ℕ → List ℕ → Option ℕ → Type 0
Holds cs out (Some n) = take n out ≡ cs
Holds cs out None = Unit
