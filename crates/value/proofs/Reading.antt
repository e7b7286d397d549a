-- One law for each exit of `src/read.rt`; a scalar property's value in the environment.
use Prim.Native.Nat.{ℕ}
use mathlib.Core.List.{List}
use mathlib.Core.Bool.{Bool, true, false}
use mathlib.Core.Path.{◌≡◌, refl, ◌∙◌}
use mathlib.Core.Option.{none, some}
use mathlib.Core.Logic.{◌⊎◌, inl, inr}
use lib.Dec.{eqb}
use borrow.Author.Tests.{ne_eqb}
use Rattle.base.specs.Pick.{pick}
use Rattle.base.specs.Part.{part}
use Rattle.record.specs.Record.{record_at}
use Rattle.record.specs.Kind.{kind_of}
use Rattle.record.specs.declared.read.RecordAt.{RecordAt}
use Rattle.record.specs.declared.read.RecordAt.TheVariants.{Whole, Broken, End}
use Rattle.record.specs.declared.kind.Kind.TheVariants.{Scalar}
use Rattle.record.specs.declared.kind.ValueType.{ValueType}
use Rattle.instance.specs.Value.{ScalarValue, scalar_in, element_in, value_at}
use Rattle.value.specs.declared.item.Item.{Item}
use Rattle.value.specs.declared.item.Item.TheVariants as it
use Rattle.value.specs.Item.{item_value}
use Rattle.value.specs.Read.{value_in, value_in_record, as_value}

-- a record's value
module _ (s : List ℕ) (of : ValueType) (kind start len : ℕ) where
  pub item_null : kind ≡ 0 → item_value s it.Null ≡ element_in of kind (part s start len)
  unfolding item_value
  item_null h = rw h

  pub item_some : (kind ≡ 0 → ⊥) → (x : Item) → item_value s x ≡ some (scalar_in of (part s start len)) → item_value s x ≡ element_in of kind (part s start len)
  item_some h x e = e ∙ rw (ne_eqb _ _ h)

module _ (i : List ℕ) (place : ℕ) (of : ValueType) (r : RecordAt) (er : r ≡ record_at i place) where
  pub record_value : (kind start len next : ℕ) → r ≡ Whole kind start len next → (x : Item) → item_value i x ≡ element_in of kind (part i start len)
      → item_value i x ≡ value_in_record of i place
  unfolding value_in_record
  record_value kind start len next e x f = rw (← er, e) f

  pub record_missing : (r ≡ Broken) ⊎ (r ≡ End) → item_value i it.Null ≡ value_in_record of i place
  unfolding value_in_record item_value
  record_missing (inl e) = rw (← er, e)
  record_missing (inr e) = rw (← er, e)

-- the value of a scalar property is that of its record
pub scalar_property : (asked : ℕ) (i : List ℕ) (place : ℕ) (t : ValueType) → kind_of asked ≡ Scalar t → value_at asked i place ≡ as_value (value_in_record t i place)
unfolding value_at value_in_record
scalar_property asked i place t e = go (record_at i place)
  where
    by : (b : Bool) (v : ScalarValue) → pick b Rattle.instance.specs.Value.null (Rattle.instance.specs.Value.single v) ≡ as_value (pick b none (some v))
    by true v = refl
    by false v = refl

    go : (r : RecordAt) → Rattle.instance.specs.Value.value_in asked i r ≡ as_value (value_in t i r)
    go (Whole kind start len next) = rw e (by (eqb kind 0) (scalar_in t (part i start len)))
    go Broken = refl
    go End = refl
