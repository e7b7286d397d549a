-- The order of two datetimes. 02 Q-6: "Two timestamps or two intervals are equal when both ends agree. One is less when its highest moment is before the other's
-- lowest." 01 "Datetime (DSP0004)": "A timestamp never equals an interval; order between them is false."
use Rattle.std.specs.Prelude.{Bool, not, ◌&&◌, ℤ}
use Rattle.std.specs.Int.Signed.{lt_z}
use Rattle.base.specs.Pick.{pick}
use Rattle.base.specs.declared.order.Order.{Order}
use Rattle.base.specs.declared.order.Order.TheVariants.{Before, Same, After, Undecided}
use Rattle.datetime.specs.declared.Span.{Span}
use Rattle.datetime.specs.declared.Datetime.{Datetime}
use Rattle.datetime.specs.declared.Datetime.TheVariants.{Timestamp, Interval, Malformed}

abbrev pub same_whole : ℤ → ℤ → Bool
same_whole m n = not (lt_z m n) && not (lt_z n m)

unfoldable pub order_of_spans : Span → Span → Order
order_of_spans a b =
    pick (lt_z a.highest b.lowest) Before
    (pick (lt_z b.highest a.lowest) After
    (pick (same_whole a.lowest b.lowest && same_whole a.highest b.highest) Same Undecided))

abbrev pub order_of_datetimes : Datetime → Datetime → Order
order_of_datetimes (Timestamp a) (Timestamp b) = order_of_spans a b
order_of_datetimes (Interval a) (Interval b) = order_of_spans a b
order_of_datetimes (Timestamp a) (Interval b) = Undecided
order_of_datetimes (Timestamp a) Malformed = Undecided
order_of_datetimes (Interval a) (Timestamp b) = Undecided
order_of_datetimes (Interval a) Malformed = Undecided
order_of_datetimes Malformed b = Undecided
