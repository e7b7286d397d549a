-- How two spans stand to each other, in the words of 02 Q-6.
use Rattle.std.specs.Prelude.{◌≡◌, ◌⊎◌, ◌<ℤ◌, ◌≤ℤ◌}
use Rattle.base.specs.declared.order.Order.{Order}
use Rattle.base.specs.declared.order.Order.TheVariants.{Before, Same, After, Undecided}
use Rattle.base.specs.declared.order.Operator.{Operator}
use Rattle.base.specs.declared.order.Operator.TheVariants.{Equal, Unequal, Less, AtMost, Greater, AtLeast}
use Rattle.datetime.specs.declared.Span.{Span}
use Rattle.datetime.specs.declared.Datetime.{Datetime}
use Rattle.datetime.specs.declared.Datetime.TheVariants.{Timestamp, Interval, Malformed}

abbrev pub InOrder : Span → Type 0
InOrder x = x.lowest ≤ℤ x.highest

-- "both ends agree"
abbrev pub Agree : Span → Span → Type 0
Agree a b = (a.lowest ≡ b.lowest) × (a.highest ≡ b.highest)

-- "its highest moment is before the other's lowest"
abbrev pub Precedes : Span → Span → Type 0
Precedes a b = a.highest <ℤ b.lowest

-- none of the three
abbrev pub Overlap : Span → Span → Type 0
Overlap a b = (Precedes a b → ⊥) × (Agree a b → ⊥) × (Precedes b a → ⊥)

-- "`<=` is less or equal; `>` and `>=` mirror these. `<>` reverses `=`."
abbrev pub SpansRelate : Operator → Span → Span → Type 0
SpansRelate Equal a b = Agree a b
SpansRelate Unequal a b = Agree a b → ⊥
SpansRelate Less a b = Precedes a b
SpansRelate AtMost a b = Precedes a b ⊎ Agree a b
SpansRelate Greater a b = Precedes b a
SpansRelate AtLeast a b = Precedes b a ⊎ Agree a b

-- the other way round
abbrev pub reversed : Order → Order
reversed Before = After
reversed Same = Same
reversed After = Before
reversed Undecided = Undecided

-- what a text says goes from a lowest moment to one that is no earlier
abbrev pub Ordered : Datetime → Type 0
Ordered (Timestamp x) = InOrder x
Ordered (Interval x) = InOrder x
Ordered Malformed = Unit

-- to a later one
abbrev pub Apart : Datetime → Type 0
Apart (Timestamp x) = x.lowest <ℤ x.highest
Apart (Interval x) = x.lowest <ℤ x.highest
Apart Malformed = Unit
