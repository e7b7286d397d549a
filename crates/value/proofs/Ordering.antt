-- One law for each exit of `src/compare.rt`.
use Prim.Native.Nat.{ℕ}
use mathlib.Core.List.{List}
use mathlib.Core.Bool.{Bool, true, false, not}
use mathlib.Core.Path.{◌≡◌, refl, sym, ap, ◌∙◌}
use mathlib.Core.Option.{none, some}
use borrow.Author.Tests.{not-true, not-false}
use denote.Enum.Bare.{sameb}
use lib.Ieee.{Float}
use lib.IntN.{ℤ}
use Rattle.datetime.specs.declared.Datetime as datetimes
use Rattle.base.proofs.Says.{apart}
use Rattle.base.specs.Pick.{pick}
use Rattle.base.specs.Part.{part, same_bytes}
use Rattle.base.specs.Order.{holds}
use Rattle.base.specs.declared.order.Order.{Order}
use Rattle.base.specs.declared.order.Order.TheVariants.{Undecided}
use Rattle.base.specs.declared.order.Operator.{Operator}
use Rattle.instance.specs.Value.{ScalarValue, truth, whole, real, datetime}
use Rattle.value.specs.contracts.item.Sort.{the_type}
use Rattle.value.specs.declared.item.Sort.{Sort}
use Rattle.value.specs.declared.item.Sort.TheVariants.{Text, Octets, Reference}
use Rattle.value.specs.declared.item.Sequence as sequence
use Rattle.value.specs.declared.item.Item.{Item}
use Rattle.value.specs.declared.item.Item.TheVariants as item
use Rattle.value.specs.Unit.{units_from}
use Rattle.value.specs.Compare.{equality, order_of_scalars, order_of, null_holds, compares}
use Rattle.value.specs.Item.{listed, sequence_value, item_value, is_null_item}

-- a value that is no sequence
pub data Plain : ScalarValue → Type 0 where
  plain_truth : {b : Bool} → Plain (truth b)
  plain_whole : {n : ℤ} → Plain (whole n)
  plain_real : {x : Float} → Plain (real x)
  plain_datetime : {d : datetimes.Datetime} → Plain (datetime d)

pub plain_listed : {x : ScalarValue} → Plain x → (sort : Sort) (us : List ℕ) → Undecided ≡ order_of_scalars x (listed sort us)
unfolding order_of_scalars listed
plain_listed plain_truth Text us = refl
plain_listed plain_truth Octets us = refl
plain_listed plain_truth Reference us = refl
plain_listed plain_whole Text us = refl
plain_listed plain_whole Octets us = refl
plain_listed plain_whole Reference us = refl
plain_listed plain_real Text us = refl
plain_listed plain_real Octets us = refl
plain_listed plain_real Reference us = refl
plain_listed plain_datetime Text us = refl
plain_listed plain_datetime Octets us = refl
plain_listed plain_datetime Reference us = refl

pub listed_plain : {x : ScalarValue} → Plain x → (sort : Sort) (us : List ℕ) → Undecided ≡ order_of_scalars (listed sort us) x
unfolding order_of_scalars listed
listed_plain plain_truth Text us = refl
listed_plain plain_truth Octets us = refl
listed_plain plain_truth Reference us = refl
listed_plain plain_whole Text us = refl
listed_plain plain_whole Octets us = refl
listed_plain plain_whole Reference us = refl
listed_plain plain_real Text us = refl
listed_plain plain_real Octets us = refl
listed_plain plain_real Reference us = refl
listed_plain plain_datetime Text us = refl
listed_plain plain_datetime Octets us = refl
listed_plain plain_datetime Reference us = refl

listed_order : (s t : Sort) (us ws : List ℕ) → order_of_scalars (listed s us) (listed t ws) ≡ pick (sameb the_type s t) (equality (same_bytes us ws)) Undecided
unfolding order_of_scalars listed
listed_order Text Text us ws = refl
listed_order Text Octets us ws = refl
listed_order Text Reference us ws = refl
listed_order Octets Text us ws = refl
listed_order Octets Octets us ws = refl
listed_order Octets Reference us ws = refl
listed_order Reference Text us ws = refl
listed_order Reference Octets us ws = refl
listed_order Reference Reference us ws = refl

-- an item beside one of another sort
module _ (a b : List ℕ) (x : Item) where
  pub beside_null : x ≡ item.Null → (y : Item) → Undecided ≡ order_of (item_value a x) (item_value b y)
  unfolding item_value
  beside_null e y = rw e

  pub beside_truth : (m : Bool) → x ≡ item.Truth m → (y : Item) → ((n : Bool) → y ≡ item.Truth n → ⊥) → Undecided ≡ order_of (item_value a x) (item_value b y)
  unfolding item_value order_of_scalars
  beside_truth m e item.Null h = rw e
  beside_truth m e (item.Truth n) h = absurd (h n refl)
  beside_truth m e (item.Integer n) h = rw e
  beside_truth m e (item.Real n) h = rw e
  beside_truth m e (item.Datetime n) h = rw e
  beside_truth m e (item.Sequence n) h = rw e (plain_listed plain_truth n.sort (units_from n.form (part b n.start n.length) n.at))

  pub beside_whole : (m : ℤ) → x ≡ item.Integer m → (y : Item) → ((n : ℤ) → y ≡ item.Integer n → ⊥) → Undecided ≡ order_of (item_value a x) (item_value b y)
  unfolding item_value order_of_scalars
  beside_whole m e item.Null h = rw e
  beside_whole m e (item.Truth n) h = rw e
  beside_whole m e (item.Integer n) h = absurd (h n refl)
  beside_whole m e (item.Real n) h = rw e
  beside_whole m e (item.Datetime n) h = rw e
  beside_whole m e (item.Sequence n) h = rw e (plain_listed plain_whole n.sort (units_from n.form (part b n.start n.length) n.at))

  pub beside_real : (m : Float) → x ≡ item.Real m → (y : Item) → ((n : Float) → y ≡ item.Real n → ⊥) → Undecided ≡ order_of (item_value a x) (item_value b y)
  unfolding item_value order_of_scalars
  beside_real m e item.Null h = rw e
  beside_real m e (item.Truth n) h = rw e
  beside_real m e (item.Integer n) h = rw e
  beside_real m e (item.Real n) h = absurd (h n refl)
  beside_real m e (item.Datetime n) h = rw e
  beside_real m e (item.Sequence n) h = rw e (plain_listed plain_real n.sort (units_from n.form (part b n.start n.length) n.at))

  pub beside_datetime : (m : datetimes.Datetime) → x ≡ item.Datetime m → (y : Item) → ((n : datetimes.Datetime) → y ≡ item.Datetime n → ⊥) → Undecided ≡ order_of (item_value a x) (item_value b y)
  unfolding item_value order_of_scalars
  beside_datetime m e item.Null h = rw e
  beside_datetime m e (item.Truth n) h = rw e
  beside_datetime m e (item.Integer n) h = rw e
  beside_datetime m e (item.Real n) h = rw e
  beside_datetime m e (item.Datetime n) h = absurd (h n refl)
  beside_datetime m e (item.Sequence n) h = rw e (plain_listed plain_datetime n.sort (units_from n.form (part b n.start n.length) n.at))

  pub beside_sequence : (m : sequence.Sequence) → x ≡ item.Sequence m → (y : Item) → ((n : sequence.Sequence) → y ≡ item.Sequence n → ⊥) → Undecided ≡ order_of (item_value a x) (item_value b y)
  unfolding item_value order_of_scalars
  beside_sequence m e item.Null h = rw e
  beside_sequence m e (item.Truth n) h = rw e (listed_plain plain_truth m.sort (units_from m.form (part a m.start m.length) m.at))
  beside_sequence m e (item.Integer n) h = rw e (listed_plain plain_whole m.sort (units_from m.form (part a m.start m.length) m.at))
  beside_sequence m e (item.Real n) h = rw e (listed_plain plain_real m.sort (units_from m.form (part a m.start m.length) m.at))
  beside_sequence m e (item.Datetime n) h = rw e (listed_plain plain_datetime m.sort (units_from m.form (part a m.start m.length) m.at))
  beside_sequence m e (item.Sequence n) h = absurd (h n refl)

-- two sequences
module _ (a : List ℕ) (x : sequence.Sequence) (b : List ℕ) (y : sequence.Sequence) (t : Bool) (is : t ≡ not (sameb the_type x.sort y.sort)) where
  pub sorts_differ : t ≡ true → Undecided ≡ order_of_scalars (sequence_value a x) (sequence_value b y)
  sorts_differ h = rw (listed_order, not-true (sameb the_type x.sort y.sort) (sym is ∙ h))

  pub sorts_agree : t ≡ false → (us ws : List ℕ) → us ≡ units_from x.form (part a x.start x.length) x.at → ws ≡ units_from y.form (part b y.start y.length) y.at → (u : Bool)
      → u ≡ same_bytes us ws → (o : Order) → o ≡ equality u → o ≡ order_of_scalars (sequence_value a x) (sequence_value b y)
  sorts_agree h us ws e f u g o k = rw (listed_order, not-false (sameb the_type x.sort y.sort) (sym is ∙ h), ← e, ← f, ← g) k

-- NULL
null_none : (x : Item) (s : List ℕ) → is_null_item x ≡ true → item_value s x ≡ none
unfolding item_value
null_none item.Null s e = refl
null_none (item.Truth b) s e = absurd (apart e)
null_none (item.Integer b) s e = absurd (apart e)
null_none (item.Real b) s e = absurd (apart e)
null_none (item.Datetime b) s e = absurd (apart e)
null_none (item.Sequence b) s e = absurd (apart e)

some_value : (x : Item) (s : List ℕ) → is_null_item x ≡ false → (v : ScalarValue) × (item_value s x ≡ some v)
unfolding item_value
some_value item.Null s e = absurd (apart (sym e))
some_value (item.Truth b) s e = (_, refl)
some_value (item.Integer b) s e = (_, refl)
some_value (item.Real b) s e = (_, refl)
some_value (item.Datetime b) s e = (_, refl)
some_value (item.Sequence b) s e = (_, refl)

module _ (op : Operator) (a : List ℕ) (x : Item) (b : List ℕ) (y : Item) (m n : Bool) (em : m ≡ is_null_item x) (en : n ≡ is_null_item y) where
  pub left_null : m ≡ true → (r : Bool) → r ≡ null_holds op n → r ≡ compares op (item_value a x) (item_value b y)
  unfolding compares
  left_null h r e = rw (null_none x a (sym em ∙ h)) (go n refl)
    where
      go : (t : Bool) → n ≡ t → r ≡ compares op none (item_value b y)
      go true k = rw (null_none y b (sym en ∙ k)) (rw k at e)
      go false k = let w = some_value y b (sym en ∙ k) in rw w.1 (rw k at e)

  pub right_null : m ≡ false → n ≡ true → (r : Bool) → r ≡ null_holds op false → r ≡ compares op (item_value a x) (item_value b y)
  unfolding compares
  right_null h k r e = let v = some_value x a (sym em ∙ h) in rw (v.1, null_none y b (sym en ∙ k)) e

  pub no_null : m ≡ false → n ≡ false → (o : Order) → o ≡ order_of (item_value a x) (item_value b y) → (r : Bool) → r ≡ holds op o
      → r ≡ compares op (item_value a x) (item_value b y)
  unfolding compares
  no_null h k o f r e =
      let v = some_value x a (sym em ∙ h) in
      let w = some_value y b (sym en ∙ k) in
      let g : o ≡ order_of (some v.0) (some w.0) = rw (v.1, w.1) at f in
      rw (v.1, w.1) (e ∙ ap (holds op) g)
