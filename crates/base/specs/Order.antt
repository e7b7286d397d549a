-- 01 "Meaning": what the comparison operators of 000 5.3.2 say of two values, from how the values stand to each other.
-- `Undecided` is neither equal nor in order (a NaN, a timestamp beside an interval), so `<=` is not the reverse of `>`.
use Rattle.std.specs.Prelude.{Bool, true, false, ℤ}
use Rattle.std.specs.Int.Signed.{lt_z}
use Rattle.base.specs.Pick.{pick}
use Rattle.base.specs.declared.order.Order.{Order}
use Rattle.base.specs.declared.order.Order.TheVariants.{Before, Same, After, Undecided}
use Rattle.base.specs.declared.order.Operator.{Operator}
use Rattle.base.specs.declared.order.Operator.TheVariants.{Equal, Unequal, Less, AtMost, Greater, AtLeast}

abbrev pub holds : Operator → Order → Bool
holds Equal Before = false
holds Equal Same = true
holds Equal After = false
holds Equal Undecided = false
holds Unequal Before = true
holds Unequal Same = false
holds Unequal After = true
holds Unequal Undecided = true
holds Less Before = true
holds Less Same = false
holds Less After = false
holds Less Undecided = false
holds AtMost Before = true
holds AtMost Same = true
holds AtMost After = false
holds AtMost Undecided = false
holds Greater Before = false
holds Greater Same = false
holds Greater After = true
holds Greater Undecided = false
holds AtLeast Before = false
holds AtLeast Same = true
holds AtLeast After = true
holds AtLeast Undecided = false

-- two whole numbers
unfoldable pub order_of_whole : ℤ → ℤ → Order
order_of_whole m n = pick (lt_z m n) Before (pick (lt_z n m) After Same)
