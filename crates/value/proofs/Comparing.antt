-- What 01 "Meaning" says of every comparison: `<>` is the reverse of `=`; order with NULL is false; `=` with NULL holds of two NULLs only.
use mathlib.Core.Bool.{true, false, not}
use mathlib.Core.Path.{◌≡◌, refl, sym}
use mathlib.Core.Option.{Option, none, some}
use Rattle.base.specs.declared.order.Operator.{Operator}
use Rattle.base.specs.declared.order.Operator.TheVariants.{Equal, Unequal, Less, AtMost, Greater, AtLeast}
use Rattle.base.proofs.Orders.{unequal_is}
use Rattle.instance.specs.Value.{ScalarValue}
use Rattle.value.specs.Compare.{order_of_scalars, compares}

pub unequal_reverses : (x y : Option ScalarValue) → compares Unequal x y ≡ not (compares Equal x y)
unfolding compares
unequal_reverses none none = refl
unequal_reverses none (some y) = refl
unequal_reverses (some x) none = refl
unequal_reverses (some x) (some y) = sym (unequal_is (order_of_scalars x y))

-- the operators of order
pub data Ordering : Operator → Type 0 where
  less : Ordering Less
  at_most : Ordering AtMost
  greater : Ordering Greater
  at_least : Ordering AtLeast

pub null_before : {op : Operator} → Ordering op → (y : Option ScalarValue) → compares op none y ≡ false
unfolding compares
null_before less none = refl
null_before less (some y) = refl
null_before at_most none = refl
null_before at_most (some y) = refl
null_before greater none = refl
null_before greater (some y) = refl
null_before at_least none = refl
null_before at_least (some y) = refl

pub null_after : {op : Operator} → Ordering op → (x : Option ScalarValue) → compares op x none ≡ false
unfolding compares
null_after less none = refl
null_after less (some x) = refl
null_after at_most none = refl
null_after at_most (some x) = refl
null_after greater none = refl
null_after greater (some x) = refl
null_after at_least none = refl
null_after at_least (some x) = refl

pub both_null : compares Equal none none ≡ true
unfolding compares
both_null = refl

pub one_null : (x : ScalarValue) → (compares Equal (some x) none ≡ false) × (compares Equal none (some x) ≡ false)
unfolding compares
one_null x = (refl, refl)
