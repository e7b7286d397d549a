-- What the code's answers say.
use Rattle.std.specs.Prelude.{◌+◌}
use Rattle.base.specs.Order.{holds}
use Rattle.base.specs.declared.order.Operator.{Operator}
use Rattle.short_circuit.specs.Walk.{told}
use Rattle.short_circuit.specs.declared.Told.{Told}
use Rattle.value.specs.Compare.{equality}
use Rattle.place.specs.Place.{Array}
use Rattle.arrays.specs.Arrays.{same_arrays, array_steps}

-- what an operator makes of two arrays: truth and steps
unfoldable pub compared : Operator → (xs ys : Array) → Told
compared op xs ys = told (holds op (equality (same_arrays xs ys))) (1 + array_steps xs ys)
