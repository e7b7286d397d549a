-- The value of a literal beside a value of a family. 01 "Query text": "A literal is one of: truth value, integer, real, text, octets or NULL";
-- "Kinds": "Text fits 6, 7, 9, 10"; "Meaning": "octets and references byte by byte after unescaping".
use Rattle.std.specs.Prelude.{ℕ, ◌+◌, ◌-◌, List, length, ltb}
use Rattle.std.proofs.Math.Option.{Option, none, some}
use Rattle.base.specs.Pick.{pick}
use Rattle.base.specs.Part.{part}
use Rattle.record.specs.declared.kind.Family.{Family}
use Rattle.record.specs.declared.kind.Family.TheVariants as family
use Rattle.datetime.specs.Datetime.{datetime_of}
use Rattle.string_literal.specs.Text.{text_at, characters_of, bytes_of}
use Rattle.literal.specs.declared.Literal.{Literal}
use Rattle.literal.specs.declared.Literal.TheVariants.{Truth, Integer, Real, Text, Octets, Null}
use Rattle.instance.specs.Value.{ScalarValue, truth, whole, real, text, octets, datetime, reference}
use Rattle.value.specs.Unit.{hex_pairs}

-- a text literal's characters as a value of the family; those of a datetime are ASCII wherever it is well-formed
unfoldable pub text_value : Family → List ℕ → ScalarValue
text_value family.Boolean cs = text cs
text_value family.Integer cs = text cs
text_value family.Real cs = text cs
text_value family.Text cs = text cs
text_value family.Char16 cs = text cs
text_value family.Octets cs = text cs
text_value family.Datetime cs = datetime (datetime_of cs)
text_value family.Reference cs = reference (bytes_of cs)

-- the characters of the string literal that starts at a place with its quote
abbrev pub text_of : List ℕ → ℕ → List ℕ
text_of q start = characters_of (text_at q (start + 1))

-- the same place, within the query: past its end there are no characters
abbrev pub after_quote : List ℕ → ℕ → ℕ
after_quote q start = pick (ltb start (length q)) (start + 1) (length q)

-- the bytes of a hex literal: its digits stand after "0X"
abbrev pub octets_of : List ℕ → (start end : ℕ) → List ℕ
octets_of q start end = hex_pairs (part q (start + 2) (end - (start + 2)))

unfoldable pub literal_value : Family → List ℕ → Literal → Option ScalarValue
literal_value f q (Truth b) = some (truth b)
literal_value f q (Integer n) = some (whole n)
literal_value f q (Real x) = some (real x.value)
literal_value f q (Text start end) = some (text_value f (text_of q start))
literal_value f q (Octets start end) = some (octets (octets_of q start end))
literal_value f q Null = none
