-- Laws of a whole comparison: one for each exit of `src/lib.rt`.
use Rattle.table.specs.Properties.{found}
use Rattle.std.specs.Prelude.{Err, Some, None, Result, Option as Optional, Option}
use Rattle.operand.specs.declared.cause.ComparisonRefusal.{ComparisonRefusal}
use Rattle.judge.specs.declared.fault.ItemFault.{ItemFault}
use Rattle.short_circuit.specs.declared.Told.{Told}
use Rattle.place.specs.declared.Located.{Located}
use Prim.Native.Nat.{ℕ}
use mathlib.Core.Path.{◌≡◌, refl, sym, ap, ◌∙◌}
use mathlib.Core.List.{List}
use mathlib.Core.Bool.{Bool}
use mathlib.Core.Option.{some}
use native.Mathlib.Omega.{arith}
use Rattle.record.specs.Kind.{kind_of}
use Rattle.record.specs.declared.kind.ValueType.{ValueType}
use Rattle.record.specs.declared.kind.Kind.{Kind}
use Rattle.record.specs.declared.kind.Kind.TheVariants.{Unknown, Scalar, Array}
use Rattle.table.specs.declared.lookup.Property.{Property}
use Rattle.token.specs.declared.Token.{Token}
use Rattle.terminal.specs.declared.quantifier.Quantifier.{Quantifier}
use Rattle.syntax.specs.declared.path.Path as path
use Rattle.syntax.specs.declared.comparison.Comparison.{Comparison}
use Rattle.instance.specs.Value.{Value, Entry, value_at}
use Rattle.instance.specs.Noted.{place_noted}
use Rattle.operand.specs.declared.cause.Cause.TheVariants as cause
use Rattle.operand.specs.Named.{named}
use Rattle.operand.specs.Element.{element_tokens}
use Rattle.operand.specs.PatternLiteral.{pattern_of}
use Rattle.place.specs.declared.Part.{Part}
use Rattle.place.specs.Place.{body_at, body_value}
use Rattle.judge.specs.declared.left.Left as code-left
use Rattle.judge.specs.declared.right.Right as code-right
use Rattle.judge.specs.declared.right.Right.TheVariants as side
use Rattle.judge.specs.Meaning as meaning
use Rattle.judge.specs.Meaning.{Left, left_scalar, left_array, elements, not_null, of_row, pattern_by, right_of, meet, meant_by, meant_as}
use Rattle.judge.specs.Environment.{entry_noted}
use Rattle.judge.specs.Answers.{judged, left_seen, right_seen, item_read, ScalarLeft, ArrayLeft, type_of, left_kind, LeftOf, KindLeft, refusal}
use Rattle.judge.proofs.Named.{entry_there}
use Rattle.judge.proofs.RightSides.{scalar_of_law, array_of}

-- both sides
module _ (c : Comparison) (q i : List ℕ) (of : ValueType) (l : Left) (r : code-right.Right) where
  abbrev Sides : code-right.Right → Result Told ComparisonRefusal → Type 0
  Sides x j = j ≡ judged (meet c.left c.operation of.family l (right_seen of.family q i x))

  pub sides_missing : (p : ℕ) → r ≡ side.Missing p → Sides r (Err (refusal cause.Name p))
  unfolding judged meet right_seen
  sides_missing p e = rw e refl

  pub sides_unindexable : r ≡ side.Unindexable → Sides r (Err (refusal cause.Shape c.left.start))
  unfolding judged meet right_seen
  sides_unindexable e = rw e refl

  pub sides_one : (n : Bool) (y : Result Located ItemFault) → r ≡ side.One n y → {j : Result Told ComparisonRefusal}
      → j ≡ judged (meet c.left c.operation of.family l (meaning.Right.one n (item_read q i y))) → Sides r j
  unfolding right_seen
  sides_one n y e h = rw e h

  pub sides_elements : (start count : ℕ) → r ≡ side.Elements start count → {j : Result Told ComparisonRefusal}
      → j ≡ judged (meet c.left c.operation of.family l (meaning.Right.many (not_null (elements of.family q (element_tokens q start count))))) → Sides r j
  unfolding right_seen
  sides_elements start count e h = rw e h

  pub sides_many : (same : Bool) (t : ValueType) (b : Optional Part) → r ≡ side.Many same t b → {j : Result Told ComparisonRefusal}
      → j ≡ judged (meet c.left c.operation of.family l (meaning.Right.many (of_row same (meaning.value (body_value t i b))))) → Sides r j
  unfolding right_seen
  sides_many same t b e h = rw e h

  pub sides_pattern : (t : Token) → r ≡ side.Pattern t → {j : Result Told ComparisonRefusal}
      → j ≡ judged (meet c.left c.operation of.family l (meaning.pattern (pattern_by t.start (pattern_of q t)))) → Sides r j
  unfolding right_seen
  sides_pattern t e h = rw e h

-- the left property by its kind: `left_of`
module _ (q i : List ℕ) (k : Quantifier) (index : Option Token) (kind place : ℕ) {r : Kind} (er : r ≡ kind_of kind) where
  pub left_unknown : r ≡ Unknown → kind_of kind ≡ Unknown
  left_unknown e = sym er ∙ e

  abbrev IsLeft : ValueType → code-left.Left → Type 0
  IsLeft = LeftOf q i k index (kind_of kind) (value_at kind i place)

  as_kind : (x : Kind) → r ≡ x → left_kind q k index x (value_at kind i place) ≡ left_kind q k index (kind_of kind) (value_at kind i place)
  as_kind x e = ap (λ (y : Kind). left_kind q k index y (value_at kind i place)) (sym e ∙ er)

  pub left_scalar_law : (of : ValueType) → r ≡ Scalar of → (l : code-left.Left) → ScalarLeft k index place l → IsLeft of l
  left_scalar_law of e l el =
      record {
        type = ap type_of (sym er ∙ e);
        seen = el of q i ∙ ap (left_scalar k index) (sym (scalar_of_law kind i place of (sym er ∙ e))) ∙ as_kind (Scalar of) e;
      }

  pub left_array_law : (element : ℕ) (of : ValueType) → r ≡ Array element of → {b : Optional Part} → b ≡ body_at i place → (l : code-left.Left) → ArrayLeft q i k index b l → IsLeft of l
  left_array_law element of e eb l el =
      record {
        type = ap type_of (sym er ∙ e);
        seen =
            el of ∙ ap (left_array q k index) (ap (body_value of i) eb ∙ sym (array_of kind i place element of (sym er ∙ e)))
            ∙ as_kind (Array element of) e;
      }

-- a comparison by its left property's type
module _ (q i : List ℕ) (env : path.Path → Entry) (c : Comparison) where
  of_type : (k : Kind) (v : Value) (of : ValueType) → type_of k ≡ some of
      → meant_by q env c k v ≡ meet c.left c.operation of.family (left_kind q c.left.quantifier c.left.index k v) (right_of of.family q env c.right)
  unfolding meant_by
  of_type Unknown v of e = absurd (let z : ◌≡◌ {A = ℕ} 0 1 = cc in omega arith)
  of_type (Scalar t) v of e = let z : t ≡ of = cc in rw z refl
  of_type (Array element t) v of e = let z : t ≡ of = cc in rw z refl

  module _ (k : Kind) (v : Value) {r : Optional (ValueType × code-left.Left)} (er : KindLeft q i c.left.quantifier c.left.index k v r) where
    pub untyped : r ≡ None → Err (refusal cause.Name c.left.path.first.start) ≡ judged (meant_by q env c k v)
    unfolding meant_by judged
    untyped e = let z : k ≡ Unknown = rw e at er in rw z refl

    pub typed : (of : ValueType) (l : code-left.Left) → r ≡ Some (of, l) → (x : code-right.Right) → right_seen of.family q i x ≡ right_of of.family q env c.right
        → {j : Result Told ComparisonRefusal} → j ≡ judged (meet c.left c.operation of.family (left_seen of q i l) (right_seen of.family q i x)) → j ≡ judged (meant_by q env c k v)
    typed of l e x ex h =
        let z : LeftOf q i c.left.quantifier c.left.index k v of l = rw e at er in
        h ∙ rw (z.seen, ex) (sym (ap judged (of_type k v of z.type)))

-- its name
module _ (q t i notes : List ℕ) (c : Comparison) {r : Option Property} (er : r ≡ named q t c.left.path) where
  pub left_absent : r ≡ None → Err (refusal cause.Name c.left.path.first.start) ≡ judged (meaning.meaning q (entry_noted q t i notes) c)
  unfolding meaning.meaning meant_as judged entry_noted
  left_absent e = rw (← er, e) refl

  pub left_found : (number kind : ℕ) → r ≡ found number kind → {place : ℕ} → place ≡ place_noted notes number
      → {j : Result Told ComparisonRefusal} → j ≡ judged (meant_by q (entry_noted q t i notes) c (kind_of kind) (value_at kind i place)) → j ≡ judged (meaning.meaning q (entry_noted q t i notes) c)
  unfolding meaning.meaning meant_as
  left_found number kind e ep h =
      h ∙ ap (λ (x : ℕ). judged (meant_by q (entry_noted q t i notes) c (kind_of kind) (value_at kind i x))) ep
      ∙ sym (ap (λ (x : Entry). judged (meant_as q (entry_noted q t i notes) c x)) (entry_there q t i notes c.left.path number kind (sym er ∙ e)))
