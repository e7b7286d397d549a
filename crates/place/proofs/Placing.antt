-- One law for each exit of `src/lib.rt`.
use Rattle.std.specs.Prelude.{None, Some, Err, Ok, Result}
use Rattle.std.specs.Result.{result_unwrap_or}
use Prim.Native.Nat.{ℕ}
use mathlib.Core.List.{List}
use mathlib.Core.Bool.{Bool}
use mathlib.Core.Path.{◌≡◌, refl, ◌∙◌}
use borrow.Author.Tests.{eq-eqb, ne_eqb}
use Rattle.base.specs.Part.{part}
use Rattle.base.specs.declared.order.Operator.{Operator}
use Rattle.record.specs.Record.{record_at}
use Rattle.record.specs.declared.read.RecordAt.{RecordAt}
use Rattle.record.specs.declared.read.RecordAt.TheVariants.{Whole, Broken, End}
use Rattle.record.specs.declared.walk.Record.{Record}
use Rattle.record.specs.declared.kind.Family.{Family}
use Rattle.record.specs.declared.kind.ValueType.{ValueType}
use Rattle.token.specs.declared.Token.{Token}
use Rattle.instance.specs.Value.{element_in}
use Rattle.value.specs.Compare.{compares}
use Rattle.value.specs.Item.{item_value}
use Rattle.value.specs.Read.{value_in_record}
use Rattle.value.specs.declared.item.Item.{Item}
use Rattle.value.specs.declared.item.Item.TheVariants as item
use Rattle.operand.specs.LiteralReading.{read_literal}
use Rattle.operand.specs.Answers.{reading_of}
use Rattle.operand.specs.declared.literal_read.ReadFault.TheVariants.{Misfit, OutOfRange, Malformed}
use Rattle.place.specs.Place.{source_bytes, spot_value, located_value, body_of, body_at, value_read}
use Rattle.place.specs.declared.Spot.{Spot}
use Rattle.place.specs.declared.Located.{Located}
use Rattle.operand.specs.declared.literal_read.ReadFault.{ReadFault}

module _ (q i : List ℕ) (of : ValueType) (x : Spot) (y : Located) (a b : List ℕ) (left : a ≡ source_bytes q i x.source) (right : b ≡ source_bytes q i y.source) where
  pub spot_compared : (op : Operator) (z : Item) → item_value a z ≡ value_in_record of a x.place → (r : Bool) → r ≡ compares op (item_value a z) (item_value b y.item)
      → r ≡ compares op (spot_value of q i x) (located_value q i y)
  spot_compared op z e r f = f ∙ rw (e, left, right)

-- a value in a record
pub compared_in : (op : Operator) (a b : List ℕ) (of : ValueType) (r : Record) (x y : Item) → item_value a x ≡ element_in of r.kind (part a r.start r.length)
    → (h : Bool) → h ≡ compares op (item_value a x) (item_value b y) → h ≡ compares op (element_in of r.kind (part a r.start r.length)) (item_value b y)
compared_in op a b of r x y e h f = f ∙ rw e

-- an array's body
module _ (i : List ℕ) (place : ℕ) {r : RecordAt} (er : r ≡ record_at i place) where
  module _ (kind start len next : ℕ) (e : r ≡ Whole kind start len next) where
    pub body_null : kind ≡ 0 → None ≡ body_at i place
    unfolding body_at
    body_null h = rw (← er, e, eq-eqb kind 0 h)

    pub body_stands : (kind ≡ 0 → ⊥) → Some (record { start = start; length = len }) ≡ body_at i place
    unfolding body_at
    body_stands h = rw (← er, e, ne_eqb kind 0 h)

  pub body_absent : ((kind start len next : ℕ) → r ≡ Whole kind start len next → ⊥) → None ≡ body_at i place
  unfolding body_at
  body_absent not = go r refl
    where
      go : (s : RecordAt) → r ≡ s → None ≡ body_of (record_at i place)
      go (Whole kind start len next) e = absurd (not kind start len next e)
      go Broken e = rw (← er, e)
      go End e = rw (← er, e)

-- a literal's value
pub value_or_null : (f : Family) (q : List ℕ) (t : Token) (r : Result Item ReadFault) → reading_of q r ≡ read_literal f q t → (x : Item) → x ≡ result_unwrap_or r item.Null
    → item_value q x ≡ value_read (read_literal f q t)
unfolding item_value value_read reading_of
value_or_null f q t (Err Misfit) e x g = rw (g, ← e) refl
value_or_null f q t (Err OutOfRange) e x g = rw (g, ← e) refl
value_or_null f q t (Err Malformed) e x g = rw (g, ← e) refl
value_or_null f q t (Ok y) e x g = rw (g, ← e) refl
