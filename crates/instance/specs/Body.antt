-- 01 "Table", types and value bodies: what the body of a value of each type is, in 01's words (`HasType`) and as a test (`value_fits`); proofs/Types says that they agree.
use Rattle.std.specs.Prelude.{ℕ, ◌≤◌, ◌<◌, List, Result, Ok, Err, Bool, true, false, ◌&&◌, ◌||◌, ◌≡◌, ◌⊎◌, length, ltb, leb, eqb}
use Rattle.base.specs.Part.{byte_at}
use Rattle.record.specs.Record.{number_at}
use Rattle.record.specs.declared.kind.Family.{Family}
use Rattle.record.specs.declared.kind.Family.TheVariants.{Boolean, Integer, Real, Text, Char16, Octets, Datetime, Reference}
use Rattle.record.specs.declared.kind.ValueType.{ValueType}
use Rattle.encoding.specs.WellFormed.{first_ill_formed}
use Rattle.datetime.specs.Datetime.{datetime_of}
use Rattle.datetime.specs.declared.Datetime as calendar
use Rattle.datetime.specs.declared.Datetime.TheVariants.{Timestamp, Interval, Malformed}

-- boolean, one byte 0 or 1; integers and reals, their width; string and reference, UTF-8; char16, 2 bytes, no surrogate; octets; datetime, 25 bytes by the calendar
abbrev pub HasFamily : Family → (width : ℕ) → List ℕ → Type 0
HasFamily Boolean width s = (length s ≡ 1) × (byte_at s 0 ≤ 1)
HasFamily Integer width s = length s ≡ width
HasFamily Real width s = length s ≡ width
HasFamily Text width s = first_ill_formed s ≡ Ok tt
HasFamily Char16 width s = (length s ≡ 2) × ((number_at s 0 < 0xd800) ⊎ (0xdfff < number_at s 0))
HasFamily Octets width s = Unit
HasFamily Datetime width s = datetime_of s ≡ Malformed → ⊥
HasFamily Reference width s = first_ill_formed s ≡ Ok tt

abbrev pub HasType : ValueType → List ℕ → Type 0
HasType t s = HasFamily t.family t.width s

-- the same as a test
unfoldable pub boolean_fits : List ℕ → Bool
boolean_fits s = eqb (length s) 1 && leb (byte_at s 0) 1

abbrev pub is_well_formed : Result (Unit {0}) ℕ → Bool
is_well_formed (Ok all) = true
is_well_formed (Err place) = false

unfoldable pub text_fits : List ℕ → Bool
text_fits s = is_well_formed (first_ill_formed s)

unfoldable pub char16_fits : List ℕ → Bool
char16_fits s = eqb (length s) 2 && (ltb (number_at s 0) 0xd800 || ltb 0xdfff (number_at s 0))

abbrev pub is_datetime : calendar.Datetime → Bool
is_datetime (Timestamp moment) = true
is_datetime (Interval size) = true
is_datetime Malformed = false

unfoldable pub datetime_fits : List ℕ → Bool
datetime_fits s = is_datetime (datetime_of s)

abbrev pub family_fits : Family → (width : ℕ) → List ℕ → Bool
family_fits Boolean width s = boolean_fits s
family_fits Integer width s = eqb (length s) width
family_fits Real width s = eqb (length s) width
family_fits Text width s = text_fits s
family_fits Char16 width s = char16_fits s
family_fits Octets width s = true
family_fits Datetime width s = datetime_fits s
family_fits Reference width s = text_fits s

abbrev pub value_fits : ValueType → List ℕ → Bool
value_fits t s = family_fits t.family t.width s

-- a body of an integer or a real is any bytes of its width
abbrev pub is_numeric : Family → Bool
is_numeric Boolean = false
is_numeric Integer = true
is_numeric Real = true
is_numeric Text = false
is_numeric Char16 = false
is_numeric Octets = false
is_numeric Datetime = false
is_numeric Reference = false
