-- The value of a scalar record, and of a scalar property.
use Rattle.std.specs.Prelude.{ℕ, List}
use Rattle.std.proofs.Math.Option.{Option, none, some}
use Rattle.base.specs.Part.{part}
use Rattle.record.specs.Record.{record_at}
use Rattle.record.specs.declared.read.RecordAt.{RecordAt}
use Rattle.record.specs.declared.read.RecordAt.TheVariants.{Whole, Broken, End}
use Rattle.record.specs.declared.kind.ValueType.{ValueType}
use Rattle.instance.specs.Value.{ScalarValue, Value, null, single, element_in}

abbrev pub value_in : ValueType → List ℕ → RecordAt → Option ScalarValue
value_in t i (Whole kind start len next) = element_in t kind (part i start len)
value_in t i Broken = none
value_in t i End = none

-- the value of a type in the record at a place; NULL where no whole record is there
unfoldable pub value_in_record : ValueType → List ℕ → (place : ℕ) → Option ScalarValue
value_in_record t i place = value_in t i (record_at i place)

-- a scalar's value among the values of properties
abbrev pub as_value : Option ScalarValue → Value
as_value none = null
as_value (some x) = single x
