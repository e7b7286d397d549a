-- Where the code finds values: a record or an array's body in an instance, a literal in the query.
use Rattle.std.specs.Prelude.{ℕ, List, [], ◌∷◌, eqb, Option as Optional, None, Some}
use Rattle.std.proofs.Math.Option.{Option, none, some}
use Rattle.base.specs.Pick.{pick}
use Rattle.base.specs.Part.{part}
use Rattle.record.specs.Record.{record_at, records}
use Rattle.record.specs.declared.read.RecordAt.{RecordAt}
use Rattle.record.specs.declared.read.RecordAt.TheVariants.{Whole, Broken, End}
use Rattle.record.specs.declared.kind.Family.{Family}
use Rattle.record.specs.declared.kind.ValueType.{ValueType}
use Rattle.token.specs.declared.Token.{Token}
use Rattle.instance.specs.Value.{ScalarValue, elements}
use Rattle.value.specs.Item.{item_value}
use Rattle.value.specs.Read.{value_in_record}
use Rattle.operand.specs.LiteralReading.{LiteralReading, misfit, out_of_range, malformed, reads, read_literal}
use Rattle.place.specs.declared.Source.{Source}
use Rattle.place.specs.declared.Source.TheVariants as source
use Rattle.place.specs.declared.Spot.{Spot}
use Rattle.place.specs.declared.Located.{Located}
use Rattle.place.specs.declared.Part.{Part}

-- an array's elements, or NULL
abbrev pub Array : Type 0
Array = Option (List (Option ScalarValue))

abbrev pub source_bytes : (query instance : List ℕ) → Source → List ℕ
source_bytes q i source.Query = q
source_bytes q i source.Instance = i
source_bytes q i (source.Part p) = part i p.start p.length

-- the value of a type in the record at a spot; NULL where no whole record is
abbrev pub spot_value : ValueType → (query instance : List ℕ) → Spot → Option ScalarValue
spot_value t q i s = value_in_record t (source_bytes q i s.source) s.place

abbrev pub located_value : (query instance : List ℕ) → Located → Option ScalarValue
located_value q i l = item_value (source_bytes q i l.source) l.item

-- the part that an array's records stand in, in the record at a place; None for NULL
abbrev pub body_of : RecordAt → Optional Part
body_of (Whole kind start len next) = pick (eqb kind 0) None (Some (record { start = start; length = len }))
body_of Broken = None
body_of End = None

unfoldable pub body_at : (instance : List ℕ) (place : ℕ) → Optional Part
body_at i place = body_of (record_at i place)

-- the elements of a body
abbrev pub elements_of : ValueType → List ℕ → List (Option ScalarValue)
elements_of t s = elements t s (records s 0)

unfoldable pub body_value : ValueType → (instance : List ℕ) → Optional Part → Array
body_value t i None = none
body_value t i (Some p) = some (elements_of t (part i p.start p.length))

-- the value that was read; NULL where none could be
unfoldable pub value_read : LiteralReading → Option ScalarValue
value_read misfit = none
value_read out_of_range = none
value_read malformed = none
value_read (reads v) = v

-- the values of an array literal's elements
unfoldable pub literal_values : Family → (query : List ℕ) → List Token → List (Option ScalarValue)
literal_values f q [] = []
literal_values f q (t ∷ ts) = value_read (read_literal f q t) ∷ literal_values f q ts
