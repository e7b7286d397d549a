-- Values, and the environment of an instance: property number → kind and value. The bytes of an instance are looked at to make it and nowhere else.
-- It is made of any bytes: what no record says is NULL. Of a number's body the first 8 bytes count, which in an instance that conforms is all of it.
use Rattle.std.specs.Prelude.{ℕ, List, [], ◌∷◌, Bool, true, false, take, eqb, ℤ, pos, Float}
use Rattle.std.proofs.Math.Option.{Option, none, some}
use Rattle.std.proofs.Math.ListN.{get_elem?}
use Rattle.base.specs.Pick.{pick}
use Rattle.base.specs.Part.{part, byte_at}
use Rattle.base.specs.LittleEndian.{unsigned, twos_complement}
use Rattle.record.specs.Record.{number_at, record_at, Records, item, broken, ended, records}
use Rattle.record.specs.Kind.{kind_of}
use Rattle.record.specs.declared.read.RecordAt.{RecordAt}
use Rattle.record.specs.declared.read.RecordAt.TheVariants.{Whole, Broken, End}
use Rattle.record.specs.declared.kind.Family as family
use Rattle.record.specs.declared.kind.Family.TheVariants.{Boolean, Integer, Real, Text, Char16, Octets, Datetime, Reference}
use Rattle.record.specs.declared.kind.ValueType.{ValueType}
use Rattle.record.specs.declared.kind.Kind.{Kind}
use Rattle.record.specs.declared.kind.Kind.TheVariants.{Unknown, Scalar, Array}
use Rattle.encoding.specs.Characters.{characters}
use Rattle.real.specs.Value.{real32_of, real64_of}
use Rattle.datetime.specs.Datetime.{datetime_of}
use Rattle.datetime.specs.declared.Datetime as calendar
use Rattle.table.specs.Properties.{kinds_of}
use Rattle.instance.specs.Start.{start_of}

-- a value that isn't NULL: text by its characters, a datetime by its moment or length
pub data ScalarValue : Type 0 where
  truth : Bool → ScalarValue
  whole : ℤ → ScalarValue
  real : Float → ScalarValue
  text : (characters : List ℕ) → ScalarValue
  octets : List ℕ → ScalarValue
  datetime : calendar.Datetime → ScalarValue
  reference : List ℕ → ScalarValue

-- what a property reads
pub data Value : Type 0 where
  null : Value
  single : ScalarValue → Value
  array : List (Option ScalarValue) → Value

-- an integer, by its sign
abbrev pub whole_in : (signed : Bool) → List ℕ → ℤ
whole_in true s = twos_complement (take 8 s)
whole_in false s = pos (unsigned (take 8 s))

-- a real of 4 or 8 bytes; a real32 is the number that it is
abbrev pub real_in : (width : ℕ) → List ℕ → Float
real_in width s = pick (eqb width 4) (real32_of s) (real64_of s)

-- the value of a family in a body
unfoldable pub family_value : family.Family → (width : ℕ) (signed : Bool) → List ℕ → ScalarValue
family_value Boolean width signed s = truth (eqb (byte_at s 0) 1)
family_value Integer width signed s = whole (whole_in signed s)
family_value Real width signed s = real (real_in width s)
family_value Text width signed s = text (characters s)
family_value Char16 width signed s = text (number_at s 0 ∷ [])
family_value Octets width signed s = octets s
family_value Datetime width signed s = datetime (datetime_of s)
family_value Reference width signed s = reference s

abbrev pub scalar_in : ValueType → List ℕ → ScalarValue
scalar_in t s = family_value t.family t.width t.signed s

-- an element: kind 0 is NULL
abbrev pub element_in : ValueType → (kind : ℕ) (body : List ℕ) → Option ScalarValue
element_in t kind body = pick (eqb kind 0) none (some (scalar_in t body))

unfoldable pub elements : ValueType → List ℕ → Records → List (Option ScalarValue)
elements t s (item place kind start len rest) = element_in t kind (part s start len) ∷ elements t s rest
elements t s (broken place) = []
elements t s ended = []

-- the value of a kind in a body
abbrev pub body_value : Kind → List ℕ → Value
body_value Unknown s = null
body_value (Scalar t) s = single (scalar_in t s)
body_value (Array element t) s = array (elements t s (records s 0))

-- the value of a property's kind in what stands at a place
abbrev pub value_in : (asked : ℕ) → List ℕ → RecordAt → Value
value_in asked i (Whole kind start len next) = pick (eqb kind 0) null (body_value (kind_of asked) (part i start len))
value_in asked i Broken = null
value_in asked i End = null

unfoldable pub value_at : (asked : ℕ) → List ℕ → (place : ℕ) → Value
value_at asked i place = value_in asked i (record_at i place)

-- what a number stands for: no property, or one with its kind and value
pub data Entry : Type 0 where
  absent : Entry
  property : (kind : ℕ) → Value → Entry

abbrev pub entry_at : Option ℕ → List ℕ → (place : ℕ) → Entry
entry_at none i place = absent
entry_at (some k) i place = property k (value_at k i place)

-- the environment under the kinds of a table's properties
unfoldable pub environment_under : (kinds instance : List ℕ) → (number : ℕ) → Entry
environment_under ks i n = entry_at (get_elem? ks n) i (start_of i n)

abbrev pub environment : (table instance : List ℕ) → (number : ℕ) → Entry
environment t i n = environment_under (kinds_of t) i n
