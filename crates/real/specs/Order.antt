-- The order of two reals, by IEEE 754: a NaN is neither equal to nor in order with anything, and −0 equals 0. 01 "Meaning": "reals by IEEE 754".
use Rattle.std.specs.Prelude.{Float}
use Rattle.std.specs.Float.Ieee.{lt, eq}
use Rattle.base.specs.Pick.{pick}
use Rattle.base.specs.declared.order.Order.{Order}
use Rattle.base.specs.declared.order.Order.TheVariants.{Before, Same, After, Undecided}

abbrev pub order_of_reals : Float → Float → Order
order_of_reals a b = pick (lt a b) Before (pick (eq a b) Same (pick (lt b a) After Undecided))
