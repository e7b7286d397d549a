-- What the code's answers say.
use Rattle.std.specs.Prelude.{ℕ, List, Bool, ◌≡◌, Option as Optional, Err, None, Ok, Result, Some}
use Rattle.std.proofs.Math.Option.{Option, none, some}
use Rattle.base.specs.Pick.{pick}
use Rattle.record.specs.declared.kind.Family.{Family}
use Rattle.record.specs.declared.kind.ValueType.{ValueType}
use Rattle.record.specs.declared.kind.Kind.{Kind}
use Rattle.record.specs.declared.kind.Kind.TheVariants.{Unknown, Scalar, Array}
use Rattle.token.specs.declared.Token.{Token}
use Rattle.terminal.specs.declared.quantifier.Quantifier.{Quantifier}
use Rattle.instance.specs.Value.{ScalarValue, Value}
use Rattle.operand.specs.declared.cause.Cause.{Cause}
use Rattle.operand.specs.declared.cause.Cause.TheVariants as cause
use Rattle.operand.specs.declared.cause.ComparisonRefusal.{ComparisonRefusal}
use Rattle.operand.specs.Element.{element_tokens}
use Rattle.operand.specs.PatternLiteral.{pattern_of}
use Rattle.operand.specs.declared.literal_read.ReadFault.{ReadFault}
use Rattle.operand.specs.declared.literal_read.ReadFault.TheVariants.{Misfit, OutOfRange, Malformed}
use Rattle.value.specs.Read.{value_in_record}
use Rattle.place.specs.declared.Spot.{Spot}
use Rattle.place.specs.declared.Part.{Part}
use Rattle.place.specs.declared.Located.{Located}
use Rattle.short_circuit.specs.declared.Told.{Told}
use Rattle.place.specs.Place.{spot_value, located_value, body_value}
use Rattle.predicate.specs.Test.{performed}
use Rattle.judge.specs.declared.left.Left as code-left
use Rattle.judge.specs.declared.left.Left.TheVariants as code
use Rattle.judge.specs.declared.right.Right as code-right
use Rattle.judge.specs.declared.right.Right.TheVariants as side
use Rattle.judge.specs.declared.fault.ItemFault.{ItemFault}
use Rattle.judge.specs.declared.fault.ItemFault.TheVariants.{Unlike, Faulty}
use Rattle.judge.specs.Meaning as meaning
use Rattle.judge.specs.Meaning.{Read, unlike, faulty, value, Left, Right, Meant, fails, means, as_scalar, as_array, element_of, indexed, left_scalar, left_array, elements, not_null, of_row, right_scalar, right_array, pattern_by}

abbrev pub refusal : Cause → (place : ℕ) → ComparisonRefusal
refusal c p = record { cause = c; place = p }

-- a comparison's answer: its failure, or its truth and steps
unfoldable pub judged : Meant → Result Told ComparisonRefusal
judged (fails c p) = Err (refusal c p)
judged (means x) = Ok (performed x)

unfoldable pub spot_read : ValueType → (query instance : List ℕ) → Result Spot ℕ → Read (Option ScalarValue)
spot_read t q i (Err p) = faulty cause.Range p
spot_read t q i (Ok s) = value (spot_value t q i s)

unfoldable pub left_seen : ValueType → (query instance : List ℕ) → code-left.Left → Left
left_seen t q i code.Misshapen = meaning.misshapen
left_seen t q i (code.One s) = meaning.Left.one (spot_read t q i s)
left_seen t q i (code.Many b) = meaning.Left.many (body_value t i b)
left_seen t q i (code.Each any b) = meaning.each any (body_value t i b)

unfoldable pub item_read : (query instance : List ℕ) → Result Located ItemFault → Read (Option ScalarValue)
item_read q i (Err Unlike) = unlike
item_read q i (Err (Faulty r)) = faulty r.cause r.place
item_read q i (Ok y) = value (located_value q i y)

unfoldable pub right_seen : Family → (query instance : List ℕ) → code-right.Right → Right
right_seen f q i (side.Missing p) = meaning.missing p
right_seen f q i side.Unindexable = meaning.unindexable
right_seen f q i (side.One n y) = meaning.Right.one n (item_read q i y)
right_seen f q i (side.Elements start count) = meaning.Right.many (not_null (elements f q (element_tokens q start count)))
right_seen f q i (side.Many same t b) = meaning.Right.many (of_row same (value (body_value t i b)))
right_seen f q i (side.Pattern t) = meaning.pattern (pattern_by t.start (pattern_of q t))

-- the elements of an array literal, without their values
unfoldable pub list_read : {A : Type 0} → Read A → Result (Unit {0}) ItemFault
list_read unlike = Err Unlike
list_read (faulty c p) = Err (Faulty (refusal c p))
list_read (value xs) = Ok tt

-- what is wrong with a literal that can't be read
abbrev pub fault_read : (place : ℕ) → ReadFault → ItemFault
fault_read p Misfit = Unlike
fault_read p OutOfRange = Faulty (refusal cause.Range p)
fault_read p Malformed = Faulty (refusal cause.Datetime p)

-- what is wrong with an element before what is wrong with others
abbrev pub fault_before : ItemFault → ItemFault → ItemFault
fault_before Unlike g = Unlike
fault_before (Faulty w) Unlike = Unlike
fault_before (Faulty w) (Faulty v) = Faulty w

abbrev pub list_before : (first rest : Result (Unit {0}) ItemFault) → Result (Unit {0}) ItemFault
list_before (Ok u) r = r
list_before (Err f) (Ok u) = Err f
list_before (Err f) (Err g) = Err (fault_before f g)

-- the code's answers of a left side, for values of any type
abbrev pub ElementIn : (instance : List ℕ) → Optional Part → (index : ℕ) → Spot → Type 0
ElementIn i x n r = (t : ValueType) (q : List ℕ) → spot_value t q i r ≡ element_of (body_value t i x) n

abbrev pub IndexedIn : (query instance : List ℕ) → Token → Optional Part → Result Spot ℕ → Type 0
IndexedIn q i index x r = (t : ValueType) → spot_read t q i r ≡ indexed q index (body_value t i x)

abbrev pub ScalarLeft : Quantifier → Optional Token → (place : ℕ) → code-left.Left → Type 0
ScalarLeft k index place r = (t : ValueType) (q i : List ℕ) → left_seen t q i r ≡ left_scalar k index (value_in_record t i place)

abbrev pub ArrayLeft : (query instance : List ℕ) → Quantifier → Optional Token → Optional Part → code-left.Left → Type 0
ArrayLeft q i k index x r = (t : ValueType) → left_seen t q i r ≡ left_array q k index (body_value t i x)

-- a left property by its kind: its type, and what is read of it
abbrev pub type_of : Kind → Option ValueType
type_of Unknown = none
type_of (Scalar t) = some t
type_of (Array e t) = some t

abbrev pub left_kind : (query : List ℕ) → Quantifier → Optional Token → Kind → Value → Left
left_kind q k index Unknown v = meaning.misshapen
left_kind q k index (Scalar t) v = left_scalar k index (as_scalar v)
left_kind q k index (Array e t) v = left_array q k index (as_array v)

pub record LeftOf (q i : List ℕ) (k : Quantifier) (index : Optional Token) (kind : Kind) (v : Value) (t : ValueType) (l : code-left.Left) : Type 0 where
  pub type : type_of kind ≡ some t
  pub seen : left_seen t q i l ≡ left_kind q k index kind v

abbrev pub KindLeft : (query instance : List ℕ) → Quantifier → Optional Token → Kind → Value → Optional (ValueType × code-left.Left) → Type 0
KindLeft q i k index kind v None = kind ≡ Unknown
KindLeft q i k index kind v (Some (t, l)) = LeftOf q i k index kind v t l

-- the code's answers of a property on the right, beside one of any family
abbrev pub ScalarRight : (query instance : List ℕ) (same : Bool) → Optional Token → ValueType → (place : ℕ) → code-right.Right → Type 0
ScalarRight q i same index t place r = (f : Family) → right_seen f q i r ≡ right_scalar same index (value_in_record t i place)

abbrev pub ArrayRight : (query instance : List ℕ) (same : Bool) → Optional Token → ValueType → Optional Part → code-right.Right → Type 0
ArrayRight q i same index t b r = (f : Family) → right_seen f q i r ≡ right_array q same index (body_value t i b)

abbrev pub ListOf : Result Located ItemFault → Result (Unit {0}) ItemFault → Type 0
ListOf y r = (q i : List ℕ) → r ≡ list_read (item_read q i y)

-- what is wrong with a value, of a comparison that starts at a place: another row is the comparison's
abbrev pub refused_at : (start : ℕ) → ItemFault → ComparisonRefusal
refused_at s Unlike = refusal cause.Row s
refused_at s (Faulty r) = r

-- the value on the right is wrong: another row comes before the index on the left, and that before the rest
abbrev pub faulted : (start : ℕ) → Result Spot ℕ → ItemFault → ComparisonRefusal
faulted s x Unlike = refusal cause.Row s
faulted s (Err o) (Faulty r) = refusal cause.Range o
faulted s (Ok x) (Faulty r) = r

-- both sides' values, if nothing is wrong: as `both`
abbrev pub settled_one : Result Spot ℕ → Result Located ItemFault → (start : ℕ) → Result (Spot × Located) ComparisonRefusal
settled_one x (Err f) s = Err (faulted s x f)
settled_one (Err o) (Ok y) s = Err (refusal cause.Range o)
settled_one (Ok x) (Ok y) s = Ok (x, y)

unfoldable pub settled : (start : ℕ) (allowed : Bool) → Result Spot ℕ → Result Located ItemFault → Result (Spot × Located) ComparisonRefusal
settled s allowed x y = pick allowed (settled_one x y s) (Err (refusal cause.Row s))
