-- Laws of the right side of a comparison: one for each exit of `src/property.rt`.
use Rattle.table.specs.Properties.{found}
use Rattle.std.specs.Prelude.{Ok, Some, None, Result, Option as Optional}
use Rattle.judge.specs.declared.fault.ItemFault.{ItemFault}
use Rattle.place.specs.declared.Located.{Located}
use Prim.Native.Nat.{ℕ}
use mathlib.Core.Path.{◌≡◌, refl, sym, ap, ◌∙◌}
use mathlib.Core.List.{List}
use mathlib.Core.Bool.{Bool, true, false}
use mathlib.Core.Option.{Option, none, some}
use lib.Dec.{eqb}
use Rattle.base.specs.Pick.{pick}
use Rattle.base.specs.Part.{part}
use Rattle.record.specs.Record.{record_at, records}
use Rattle.record.specs.Kind.{kind_of, same_row}
use Rattle.record.specs.declared.read.RecordAt.{RecordAt}
use Rattle.record.specs.declared.read.RecordAt.TheVariants as record-at
use Rattle.record.specs.declared.kind.Family.{Family}
use Rattle.record.specs.declared.kind.ValueType.{ValueType}
use Rattle.record.specs.declared.kind.Kind.{Kind}
use Rattle.record.specs.declared.kind.Kind.TheVariants.{Unknown, Scalar, Array}
use Rattle.table.specs.declared.lookup.Property as lookup
use Rattle.token.specs.declared.Token.{Token}
use Rattle.syntax.specs.declared.path.Path as path
use Rattle.syntax.specs.declared.right_side.RightSide.{RightSide}
use Rattle.syntax.specs.declared.right_side.RightSide.TheVariants.{Literal, Elements, Property, Pattern}
use Rattle.instance.specs.Value as value
use Rattle.instance.specs.Value.{ScalarValue, Entry, value_at}
use Rattle.instance.specs.Noted.{place_noted}
use Rattle.value.specs.Read.{value_in_record, as_value}
use Rattle.value.proofs.Reading.{scalar_property}
use Rattle.operand.specs.Named.{named}
use Rattle.operand.specs.LiteralReading.{is_null_literal}
use Rattle.place.specs.declared.Source.TheVariants as source
use Rattle.place.specs.declared.Part.{Part}
use Rattle.place.specs.Place.{body_of, body_at, body_value}
use Rattle.judge.specs.declared.right.Right as code-right
use Rattle.judge.specs.declared.right.Right.TheVariants as side
use Rattle.judge.specs.Meaning as meaning
use Rattle.judge.specs.Meaning.{as_scalar, as_array, literal, of_row, right_scalar, right_array, right_kind, right_property, right_of}
use Rattle.judge.specs.Environment.{entry_noted}
use Rattle.judge.specs.Answers.{spot_read, item_read, right_seen, IndexedIn, ScalarRight, ArrayRight}
use Rattle.judge.proofs.Named.{entry_there}
use Rattle.place.specs.declared.Spot.{Spot}

-- the value of a scalar property is that of its record, the value of an array that of its body
as_scalar_law : (x : Option ScalarValue) → as_scalar (as_value x) ≡ x
unfolding as_scalar
as_scalar_law none = refl
as_scalar_law (some x) = refl

pub scalar_of_law : (kind : ℕ) (i : List ℕ) (place : ℕ) (t : ValueType) → kind_of kind ≡ Scalar t → as_scalar (value_at kind i place) ≡ value_in_record t i place
scalar_of_law kind i place t e = ap as_scalar (scalar_property kind i place t e) ∙ as_scalar_law (value_in_record t i place)

pub array_of : (kind : ℕ) (i : List ℕ) (place : ℕ) (element : ℕ) (t : ValueType) → kind_of kind ≡ Array element t → as_array (value_at kind i place) ≡ body_value t i (body_at i place)
unfolding value_at body_at as_array body_value
array_of kind i place element t e = go (record_at i place)
  where
    by : (b : Bool) (start len : ℕ)
        → as_array (pick b value.null (value.array (value.elements t (part i start len) (records (part i start len) 0)))) ≡ body_value t i (pick b None (Some (record { start = start; length = len })))
    by true start len = refl
    by false start len = refl

    go : (r : RecordAt) → as_array (value.value_in kind i r) ≡ body_value t i (body_of r)
    go (record-at.Whole k start len next) = rw e (by (eqb k 0) start len)
    go record-at.Broken = refl
    go record-at.End = refl

-- a scalar in a record, with or without an index
module _ (q i : List ℕ) (same : Bool) (index : Optional Token) (with : ValueType) (place : ℕ) where
  pub right_one : index ≡ None → (y : Result Located ItemFault) → item_read q i y ≡ of_row same (spot_read with q i (Ok (record { source = source.Instance; place = place })))
      → ScalarRight q i same index with place (side.One false y)
  unfolding right_seen right_scalar spot_read
  right_one e y ey f = ap (meaning.Right.one false) ey ∙ rw e refl

  pub right_indexed : (t : Token) → index ≡ Some t → ScalarRight q i same index with place side.Unindexable
  unfolding right_seen right_scalar
  right_indexed t e f = rw e refl

module _ (q i : List ℕ) (same : Bool) (index : Optional Token) (with : ValueType) (b : Optional Part) where
  pub right_whole : index ≡ None → ArrayRight q i same index with b (side.Many same with b)
  unfolding right_seen right_array
  right_whole e f = rw e refl

  pub right_element : (t : Token) → index ≡ Some t → (x : Result Spot ℕ) → IndexedIn q i t b x → (y : Result Located ItemFault) → item_read q i y ≡ of_row same (spot_read with q i x)
      → ArrayRight q i same index with b (side.One false y)
  unfolding right_seen right_array
  right_element t e x ex y ey f = ap (meaning.Right.one false) (ey ∙ ap (of_row same) (ex with)) ∙ rw e refl

module _ (f : Family) (q i : List ℕ) (name : ℕ) (index : Optional Token) (kind place : ℕ) {k : Kind} (ek : k ≡ kind_of kind) where
  abbrev RightKind : code-right.Right → Type 0
  RightKind r = right_seen f q i r ≡ right_kind f q name index (kind_of kind) (value_at kind i place)

  pub kind_unknown : k ≡ Unknown → RightKind (side.Missing name)
  unfolding right_seen right_kind
  kind_unknown e = rw (← ek, e) refl

  pub kind_scalar : (t : ValueType) → k ≡ Scalar t → {s : Bool} → s ≡ same_row f t.family → (r : code-right.Right) → ScalarRight q i s index t place r → RightKind r
  unfolding right_kind
  kind_scalar t e es r er =
      er f ∙ rw es (ap (right_scalar (same_row f t.family) index) (sym (scalar_of_law kind i place t (sym ek ∙ e))))
      ∙ ap (λ (x : Kind). right_kind f q name index x (value_at kind i place)) (sym e ∙ ek)

  pub kind_array : (element : ℕ) (t : ValueType) → k ≡ Array element t → {s : Bool} → s ≡ same_row f t.family → {b : Optional Part} → b ≡ body_at i place
      → (r : code-right.Right) → ArrayRight q i s index t b r → RightKind r
  unfolding right_kind
  kind_array element t e es eb r er =
      er f ∙ rw (es, eb) (ap (right_array q (same_row f t.family) index) (sym (array_of kind i place element t (sym ek ∙ e))))
      ∙ ap (λ (x : Kind). right_kind f q name index x (value_at kind i place)) (sym e ∙ ek)

module _ (f : Family) (q t i notes : List ℕ) (p : path.Path) (index : Optional Token) {r : Optional lookup.Property} (er : r ≡ named q t p) where
  abbrev RightProperty : code-right.Right → Type 0
  RightProperty x = right_seen f q i x ≡ right_property f q p.first.start index (entry_noted q t i notes p)

  pub property_absent : r ≡ None → RightProperty (side.Missing p.first.start)
  unfolding right_seen right_property entry_noted
  property_absent e = rw (← er, e) refl

  pub property_found : (number kind : ℕ) → r ≡ found number kind → {place : ℕ} → place ≡ place_noted notes number
      → (x : code-right.Right) → right_seen f q i x ≡ right_kind f q p.first.start index (kind_of kind) (value_at kind i place) → RightProperty x
  unfolding right_property
  property_found number kind e ep x h = h ∙ rw (entry_there q t i notes p number kind (sym er ∙ e), ep) refl

-- the right side by its form
module _ (f : Family) (q i : List ℕ) (env : path.Path → Entry) (right : RightSide) where
  abbrev RightOf : code-right.Right → Type 0
  RightOf r = right_seen f q i r ≡ right_of f q env right

  pub by_literal : (x : Token) → right ≡ Literal x → {n : Bool} → n ≡ is_null_literal x → (y : Result Located ItemFault) → item_read q i y ≡ literal f q x → RightOf (side.One n y)
  unfolding right_seen right_of
  by_literal x e en y ey = rw (en, ey, e) refl

  pub by_elements : (start count end : ℕ) → right ≡ Elements start count end → RightOf (side.Elements start count)
  unfolding right_seen right_of
  by_elements start count end e = rw e refl

  pub by_property : (p : path.Path) (x : Optional Token) → right ≡ Property p x → (r : code-right.Right) → right_seen f q i r ≡ right_property f q p.first.start x (env p) → RightOf r
  unfolding right_of
  by_property p x e r h = h ∙ rw e refl

  pub by_pattern : (x : Token) → right ≡ Pattern x → RightOf (side.Pattern x)
  unfolding right_seen right_of
  by_pattern x e = rw e refl
