-- A value as the code holds it, over the slice that it came from. Of text, octets and references it holds where they stand.
use Rattle.std.specs.Prelude.{ℕ, List, Bool, true, false}
use Rattle.std.proofs.Math.Option.{Option, none, some}
use Rattle.base.specs.Part.{part}
use Rattle.instance.specs.Value as value
use Rattle.instance.specs.Value.{ScalarValue}
use Rattle.value.specs.Unit.{units_from}
use Rattle.value.specs.declared.unit.Form.{Form}
use Rattle.value.specs.declared.item.Sort.{Sort}
use Rattle.value.specs.declared.item.Sort.TheVariants.{Text, Octets, Reference}
use Rattle.value.specs.declared.item.Sequence as sequence
use Rattle.value.specs.declared.item.Item.{Item}
use Rattle.value.specs.declared.item.Item.TheVariants.{Null, Truth, Integer, Real, Datetime, Sequence}

-- the value of a sort that units make
unfoldable pub listed : Sort → List ℕ → ScalarValue
listed Text us = value.text us
listed Octets us = value.octets us
listed Reference us = value.reference us

abbrev pub sequence_value : List ℕ → sequence.Sequence → ScalarValue
sequence_value s q = listed q.sort (units_from q.form (part s q.start q.length) q.at)

-- the value that an item stands for
unfoldable pub item_value : List ℕ → Item → Option ScalarValue
item_value s Null = none
item_value s (Truth b) = some (value.truth b)
item_value s (Integer n) = some (value.whole n)
item_value s (Real x) = some (value.real x)
item_value s (Datetime d) = some (value.datetime d)
item_value s (Sequence q) = some (sequence_value s q)

-- a sequence whose units are all those of a part of the slice
abbrev pub sequence_of : Sort → Form → (start length : ℕ) → Item
sequence_of sort form start length = Sequence (record { sort = sort; form = form; start = start; length = length; at = 0 })

abbrev pub is_null_item : Item → Bool
is_null_item Null = true
is_null_item (Truth b) = false
is_null_item (Integer n) = false
is_null_item (Real x) = false
is_null_item (Datetime d) = false
is_null_item (Sequence q) = false
