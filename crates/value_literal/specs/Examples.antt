-- The values of some literals.
use Rattle.std.specs.Prelude.{ℕ, List, [], ◌∷◌, true, negsuc}
use Rattle.std.proofs.Math.Option.{Option, none, some}
use Rattle.base.specs.Ascii.{bytes}
use Rattle.record.specs.declared.kind.Family.{Family}
use Rattle.record.specs.declared.kind.Family.TheVariants as family
use Rattle.datetime.specs.Datetime.{datetime_of}
use Rattle.literal.specs.declared.Literal.{Literal}
use Rattle.literal.specs.declared.Literal.TheVariants.{Truth, Integer, Text, Octets, Null}
use Rattle.instance.specs.Value.{ScalarValue, truth, whole, text, octets, datetime, reference}
use Rattle.value_literal.specs.LiteralValue.{literal_value}

pub record Beside : Type 0 where
  pub family : Family
  pub query : List ℕ
  pub literal : Literal

abbrev pub valued : Beside → Option ScalarValue
valued b = literal_value b.family b.query b.literal

abbrev it : Family → List ℕ → Literal → Beside
it f q l = record { family = f; query = q; literal = l }

abbrev pub values : List (Beside × Option ScalarValue)
values =
    (it family.Boolean [] (Truth true), some (truth true))
    ∷ (it family.Integer [] (Integer (negsuc 4)), some (whole (negsuc 4)))
    ∷ (it family.Text [] Null, none)
    ∷ (it family.Text (bytes "x 'a\\u00e9\\''") (Text 2 13), some (text (97 ∷ 233 ∷ 39 ∷ [])))
    ∷ (it family.Reference (bytes "'a\\u00e9'") (Text 0 9), some (reference (97 ∷ 195 ∷ 169 ∷ [])))
    ∷ (it family.Reference (bytes "'\\u20AC\\u01F600'") (Text 0 16), some (reference (226 ∷ 130 ∷ 172 ∷ 240 ∷ 159 ∷ 152 ∷ 128 ∷ [])))
    ∷ (it family.Octets (bytes "0x00fF") (Octets 0 6), some (octets (0 ∷ 255 ∷ [])))
    ∷ (it family.Datetime (bytes "'20051003112233.000000+000'") (Text 0 27), some (datetime (datetime_of (bytes "20051003112233.000000+000"))))
    ∷ []
