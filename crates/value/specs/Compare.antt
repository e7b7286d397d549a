-- 01 "Meaning": "Integers compare as whole numbers, reals by IEEE 754 with real32 widened exactly, text by characters (char16 is one character), octets and
-- references byte by byte"; "`=` on NULL: true only if both are NULL. `<>` is the reverse of `=`. Order .. with NULL: false."
use Rattle.std.specs.Prelude.{Bool, true, false, not}
use Rattle.std.proofs.Math.Option.{Option, none, some}
use Rattle.base.specs.Pick.{pick}
use Rattle.base.specs.Part.{same_bytes}
use Rattle.base.specs.Order.{order_of_whole, holds}
use Rattle.base.specs.declared.order.Order.{Order}
use Rattle.base.specs.declared.order.Order.TheVariants.{Same, Undecided}
use Rattle.base.specs.declared.order.Operator.{Operator}
use Rattle.base.specs.declared.order.Operator.TheVariants.{Equal, Unequal, Less, AtMost, Greater, AtLeast}
use Rattle.real.specs.Order.{order_of_reals}
use Rattle.datetime.specs.Order.{order_of_datetimes}
use Rattle.instance.specs.Value.{ScalarValue, truth, whole, real, text, octets, datetime, reference}

-- values that are equal or not, and never in order
abbrev pub equality : Bool → Order
equality same = pick same Same Undecided

-- two values that aren't NULL; values of different sorts are neither equal nor in order
unfoldable pub order_of_scalars : ScalarValue → ScalarValue → Order
order_of_scalars (truth a) (truth b) = equality (pick a b (not b))
order_of_scalars (truth a) (whole b) = Undecided
order_of_scalars (truth a) (real b) = Undecided
order_of_scalars (truth a) (text b) = Undecided
order_of_scalars (truth a) (octets b) = Undecided
order_of_scalars (truth a) (datetime b) = Undecided
order_of_scalars (truth a) (reference b) = Undecided
order_of_scalars (whole a) (truth b) = Undecided
order_of_scalars (whole a) (whole b) = order_of_whole a b
order_of_scalars (whole a) (real b) = Undecided
order_of_scalars (whole a) (text b) = Undecided
order_of_scalars (whole a) (octets b) = Undecided
order_of_scalars (whole a) (datetime b) = Undecided
order_of_scalars (whole a) (reference b) = Undecided
order_of_scalars (real a) (truth b) = Undecided
order_of_scalars (real a) (whole b) = Undecided
order_of_scalars (real a) (real b) = order_of_reals a b
order_of_scalars (real a) (text b) = Undecided
order_of_scalars (real a) (octets b) = Undecided
order_of_scalars (real a) (datetime b) = Undecided
order_of_scalars (real a) (reference b) = Undecided
order_of_scalars (text a) (truth b) = Undecided
order_of_scalars (text a) (whole b) = Undecided
order_of_scalars (text a) (real b) = Undecided
order_of_scalars (text a) (text b) = equality (same_bytes a b)
order_of_scalars (text a) (octets b) = Undecided
order_of_scalars (text a) (datetime b) = Undecided
order_of_scalars (text a) (reference b) = Undecided
order_of_scalars (octets a) (truth b) = Undecided
order_of_scalars (octets a) (whole b) = Undecided
order_of_scalars (octets a) (real b) = Undecided
order_of_scalars (octets a) (text b) = Undecided
order_of_scalars (octets a) (octets b) = equality (same_bytes a b)
order_of_scalars (octets a) (datetime b) = Undecided
order_of_scalars (octets a) (reference b) = Undecided
order_of_scalars (datetime a) (truth b) = Undecided
order_of_scalars (datetime a) (whole b) = Undecided
order_of_scalars (datetime a) (real b) = Undecided
order_of_scalars (datetime a) (text b) = Undecided
order_of_scalars (datetime a) (octets b) = Undecided
order_of_scalars (datetime a) (datetime b) = order_of_datetimes a b
order_of_scalars (datetime a) (reference b) = Undecided
order_of_scalars (reference a) (truth b) = Undecided
order_of_scalars (reference a) (whole b) = Undecided
order_of_scalars (reference a) (real b) = Undecided
order_of_scalars (reference a) (text b) = Undecided
order_of_scalars (reference a) (octets b) = Undecided
order_of_scalars (reference a) (datetime b) = Undecided
order_of_scalars (reference a) (reference b) = equality (same_bytes a b)

-- a NULL is in order with nothing
abbrev pub order_of : Option ScalarValue → Option ScalarValue → Order
order_of none y = Undecided
order_of (some x) none = Undecided
order_of (some x) (some y) = order_of_scalars x y

-- where at least one is NULL
abbrev pub null_holds : Operator → (both : Bool) → Bool
null_holds Equal both = both
null_holds Unequal both = not both
null_holds Less both = false
null_holds AtMost both = false
null_holds Greater both = false
null_holds AtLeast both = false

-- whether the comparison operator holds of two values
unfoldable pub compares : Operator → Option ScalarValue → Option ScalarValue → Bool
compares op none none = null_holds op true
compares op none (some y) = null_holds op false
compares op (some x) none = null_holds op false
compares op (some x) (some y) = holds op (order_of_scalars x y)
