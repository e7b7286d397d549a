-- The check of a comparison and its meaning in any instance agree: both pass, or both name the same cause at the same place. The two are written apart; here
-- each form of either side is shown to come to the same.
use Rattle.std.specs.Prelude.{Option as Optional, None, Some}
use Prim.Native.Nat.{ℕ}
use mathlib.Core.Path.{◌≡◌, refl}
use mathlib.Core.List.{List, [], ◌∷◌}
use mathlib.Core.Logic.{◌⊎◌, inl, inr}
use mathlib.Core.Bool.{Bool, true, false, not, ◌&&◌, ◌||◌, or-false}
use mathlib.Core.Option.{Option, none, some}
use Rattle.record.specs.Kind.{kind_of, same_row}
use Rattle.record.specs.declared.kind.Family.{Family}
use Rattle.record.specs.declared.kind.Family.TheVariants as family
use Rattle.record.specs.declared.kind.Kind.{Kind}
use Rattle.record.specs.declared.kind.Kind.TheVariants.{Unknown, Scalar, Array}
use Rattle.table.specs.declared.lookup.Property as lookup
use Rattle.table.specs.Table.{is_known}
use Rattle.pattern.specs.Reading.{is_some}
use Rattle.pattern.specs.Regex.{Regex}
use Rattle.base.specs.declared.order.Operator.TheVariants.{Equal, Unequal, Less, AtMost, Greater, AtLeast}
use Rattle.token.specs.declared.Token.{Token}
use Rattle.terminal.specs.Terminal.{equality}
use Rattle.terminal.specs.declared.quantifier.Quantifier.{Quantifier}
use Rattle.terminal.specs.declared.quantifier.Quantifier.TheVariants.{Single, Any, Every}
use Rattle.syntax.specs.declared.path.Path.{Path}
use Rattle.syntax.specs.declared.operation.Operation.{Operation}
use Rattle.syntax.specs.declared.operation.Operation.TheVariants.{Compare, Like, NotLike}
use Rattle.syntax.specs.declared.left_side.LeftSide.{LeftSide}
use Rattle.syntax.specs.declared.right_side.RightSide.{RightSide}
use Rattle.syntax.specs.declared.right_side.RightSide.TheVariants.{Literal, Elements, Property, Pattern}
use Rattle.syntax.specs.declared.comparison.Comparison.{Comparison}
use Rattle.instance.specs.Value.{ScalarValue, Value, Entry, absent, property}
use Rattle.operand.specs.declared.cause.Cause.{Cause}
use Rattle.operand.specs.declared.cause.Cause.TheVariants as cause
use Rattle.operand.specs.Named.{named}
use Rattle.operand.specs.Index.{index_of}
use Rattle.operand.specs.LiteralReading.{LiteralReading, misfit, out_of_range, malformed, reads, read_literal}
use Rattle.operand.specs.Element.{element_tokens}
use Rattle.operand.specs.PatternLiteral.{pattern_of}
use Rattle.operand.proofs.Exclusive.{exclusive}
use Rattle.predicate.specs.Test as test
use Rattle.predicate.specs.Test.{Test, values, arrays, search}
use Rattle.judge.specs.Meaning as meaning
use Rattle.judge.specs.Meaning.{Read, unlike, faulty, value, indexed_by, Left, misshapen, left_scalar, left_array, Right, unindexable, literal_at, before, elements, not_null, of_row, right_scalar, right_array, right_kind, right_property, pattern_by, right_of, Meant, fails, means, both, ordered, suits, operator_of, is_negated, like_text, meet, meant_by, meant_as, as_scalar, as_array}
use Rattle.judge.specs.Environment.{entry_named, entry_noted}
use Rattle.judge.proofs.Named.{Placed, named_placed, noted_placed}
use Rattle.filter.specs.Check as check
use Rattle.filter.specs.Check.{Verdict, passes, breaks, first, demand, each_token, kind_found, kind_named, check_right_name, is_array, Shape, shape_of, left_shape, right_shape, beside, is_fitting, all_fit, row_is, row_fits, has_order, is_one, order_fits, orders, check_read, check_index, check_left_index, range_of, check_range, check_ranges, check_pattern, datetime_of, check_datetime, check_datetimes, check_kind, check_comparison}

abbrev pub Agrees : Verdict → Meant → Type 0
Agrees passes (means x) = Unit
Agrees passes (fails c p) = ⊥
Agrees (breaks c p) (means x) = ⊥
Agrees (breaks c p) (fails d o) = (c ≡ d) × (p ≡ o)

-- ---- what is read: whether it is of the row, and its own fault
data ReadFits {A : Type 0} : Bool → Verdict → Read A → Type 0 where
  other : {v : Verdict} → ReadFits false v unlike
  fault : {c : Cause} {p : ℕ} → ReadFits true (breaks c p) (faulty c p)
  good : {x : A} → ReadFits true passes (value x)

-- of the left side only an index can be at fault
data IndexFits {A : Type 0} : Verdict → Read A → Type 0 where
  fault : {c : Cause} {p : ℕ} → IndexFits (breaks c p) (faulty c p)
  good : {x : A} → IndexFits passes (value x)

-- the order of causes: row, operator, the left side's index, the right side's own fault
module _ {A B : Type 0} (s : ℕ) (k : A → B → Test) where
  both_agrees : (ok row : Bool) (vi fl : Verdict) (x : Read A) (y : Read B) → IndexFits vi x → ReadFits row fl y
      → Agrees (first (demand row cause.Row s) (first (demand ok cause.Row s) (first vi fl))) (both s ok x y k)
  unfolding first demand both
  both_agrees true false vi fl (faulty c p) unlike fault other = (refl, refl)
  both_agrees true false vi fl (value x) unlike good other = (refl, refl)
  both_agrees false false vi fl x unlike i other = (refl, refl)
  both_agrees false true vi fl x (faulty c p) i fault = (refl, refl)
  both_agrees false true vi fl x (value y) i good = (refl, refl)
  both_agrees true true vi fl (faulty c p) (faulty d o) fault fault = (refl, refl)
  both_agrees true true vi fl (faulty c p) (value y) fault good = (refl, refl)
  both_agrees true true vi fl (value x) (faulty d o) good fault = (refl, refl)
  both_agrees true true vi fl (value x) (value y) good good = tt
  both_agrees false false vi fl x (faulty c p) i x9 = elim x9 [ ]
  both_agrees false false vi fl x (value y) i x10 = elim x10 [ ]
  both_agrees false true vi fl x unlike i x9 = elim x9 [ ]
  both_agrees true false vi fl unlike y i _ = elim i [ ]
  both_agrees true false vi fl (faulty c p) (faulty d o) i x10 = elim x10 [ ]
  both_agrees true false vi fl (faulty c p) (value y) i x11 = elim x11 [ ]
  both_agrees true false vi fl (value x) (faulty c p) i x12 = elim x12 [ ]
  both_agrees true false vi fl (value x) (value y) i x13 = elim x13 [ ]
  both_agrees true true vi fl unlike y i _ = elim i [ ]
  both_agrees true true vi fl (faulty c p) unlike i x11 = elim x11 [ ]
  both_agrees true true vi fl (value x) unlike i x13 = elim x13 [ ]

  -- LIKE's row is that of the left side alone
  like_agrees : (row : Bool) (vi fl : Verdict) (x : Read A) (y : Read B) → IndexFits vi x → ReadFits true fl y
      → Agrees (first (demand row cause.Row s) (first vi fl)) (both s row x y k)
  unfolding first demand both
  like_agrees false vi fl x y i r = (refl, refl)
  like_agrees true vi fl (faulty c p) (faulty d o) fault fault = (refl, refl)
  like_agrees true vi fl (faulty c p) (value y) fault good = (refl, refl)
  like_agrees true vi fl (value x) (faulty d o) good fault = (refl, refl)
  like_agrees true vi fl (value x) (value y) good good = tt
  like_agrees true vi fl unlike y i r = elim i [ ]
  like_agrees true vi fl (faulty c p) unlike i r = elim r [ ]
  like_agrees true vi fl (value x) unlike i r = elim r [ ]

-- ---- the left side
data LeftFits : Shape → Verdict → Left → Type 0 where
  unfit : {v : Verdict} → LeftFits check.unfit v misshapen
  one : {v : Verdict} {x : Read (Option ScalarValue)} → IndexFits v x → LeftFits check.one v (meaning.Left.one x)
  whole : {xs : test.Array} → LeftFits check.whole passes (meaning.Left.many xs)
  each : {any : Bool} {xs : test.Array} → LeftFits check.each passes (meaning.each any xs)

index_fits : (p : ℕ) (r : Optional ℕ) (xs : test.Array) → IndexFits (check_read r p) (indexed_by p r xs)
index_fits p (Some n) xs = good
index_fits p None xs = fault

scalar_left : (q : List ℕ) (k : Quantifier) (i : Optional Token) (x : Option ScalarValue) → LeftFits (left_shape k false i) (check_left_index q k i) (left_scalar k i x)
unfolding left_shape shape_of check_left_index check_index left_scalar
scalar_left q Single None x = one good
scalar_left q Single (Some i) x = unfit
scalar_left q Any i x = unfit
scalar_left q Every i x = unfit

array_left : (q : List ℕ) (k : Quantifier) (i : Optional Token) (xs : test.Array) → LeftFits (left_shape k true i) (check_left_index q k i) (left_array q k i xs)
unfolding left_shape shape_of check_left_index check_index left_array
array_left q Single None xs = whole
array_left q Single (Some i) xs = one (index_fits i.start (index_of q i) xs)
array_left q Any i xs = each
array_left q Every i xs = each

-- ---- the right side: names, shape, row, whether an order operator may stand before it, its own fault
data RightFits (f : Family) : Verdict → Shape → Bool → Bool → Verdict → Right → Type 0 where
  missing : {p : ℕ} {s : Shape} {row ord : Bool} {fl : Verdict} → RightFits f (breaks cause.Name p) s row ord fl (meaning.missing p)
  unfit : {row ord : Bool} {fl : Verdict} → RightFits f passes check.unfit row ord fl unindexable
  one : {n row : Bool} {fl : Verdict} {y : Read (Option ScalarValue)} → ReadFits row fl y → RightFits f passes check.one row (not n && ordered f) fl (meaning.Right.one n y)
  whole : {row : Bool} {fl : Verdict} {ys : Read test.Array} → ReadFits row fl ys → RightFits f passes check.whole row false fl (meaning.Right.many ys)
  pattern : {fl : Verdict} {r : Read (Regex ℕ)} → ReadFits true fl r → RightFits f passes check.pattern (same_row f family.Text) true fl (meaning.pattern r)

-- an operator that needs no order
equality_of : (o : Operation) → not (orders o) ≡ equality (operator_of o)
equality_of (Compare Equal) = refl
equality_of (Compare Unequal) = refl
equality_of (Compare Less) = refl
equality_of (Compare AtMost) = refl
equality_of (Compare Greater) = refl
equality_of (Compare AtLeast) = refl
equality_of Like = refl
equality_of NotLike = refl

or_true : (b : Bool) → (b || true) ≡ true
or_true true = refl
or_true false = refl

-- 20, 22, 21 by row and by operator, the left side's index, the right side's own fault
abbrev causes : (start : ℕ) → Operation → Verdict → (right left : Shape) → (row ord : Bool) → (vi fl : Verdict) → Verdict
causes s o nm rs ls row ord vi fl =
    first nm (first (demand (beside rs ls) cause.Shape s) (first (demand row cause.Row s) (first (demand (not (orders o) || ord) cause.Row s) (first vi fl))))

module _ (a : LeftSide) (o : Operation) (f : Family) where
  meet_agrees : (nm : Verdict) (rs ls : Shape) (row ord : Bool) (vi fl : Verdict) (l : Left) (r : Right) → LeftFits ls vi l → RightFits f nm rs row ord fl r
      → Agrees (causes a.start o nm rs ls row ord vi fl) (meet a o f l r)
  unfolding meet first beside demand
  meet_agrees nm rs ls row ord vi fl l (meaning.missing p) h missing = (refl, refl)
  meet_agrees nm rs ls row ord vi fl l unindexable h unfit = (refl, refl)
  meet_agrees nm rs ls row ord vi fl misshapen (meaning.Right.one n y) unfit (one g) = (refl, refl)
  meet_agrees nm rs ls row ord vi fl (meaning.Left.one x) (meaning.Right.one n y) (one h) (one g) =
      rw (equality_of o) (both_agrees a.start (values (operator_of o)) (suits (operator_of o) f n) row vi fl x y h g)
  meet_agrees nm rs ls row ord vi fl (meaning.Left.many xs) (meaning.Right.one n y) whole (one g) = (refl, refl)
  meet_agrees nm rs ls row ord vi fl (meaning.each any xs) (meaning.Right.one n y) each (one g) =
      rw (equality_of o) (both_agrees a.start (search a.negated any (operator_of o)) (suits (operator_of o) f n) row passes fl (value xs) y good g)
  meet_agrees nm rs ls row ord vi fl misshapen (meaning.Right.many ys) unfit (whole g) = (refl, refl)
  meet_agrees nm rs ls row ord vi fl (meaning.Left.one x) (meaning.Right.many ys) (one h) (whole g) = (refl, refl)
  meet_agrees nm rs ls row ord vi fl (meaning.Left.many xs) (meaning.Right.many ys) whole (whole g) =
      rw (equality_of o, or-false (equality (operator_of o))) (both_agrees a.start (arrays (operator_of o)) (equality (operator_of o)) row passes fl (value xs) ys good g)
  meet_agrees nm rs ls row ord vi fl (meaning.each any xs) (meaning.Right.many ys) each (whole g) = (refl, refl)
  meet_agrees nm rs ls row ord vi fl misshapen (meaning.pattern r) unfit (pattern g) = (refl, refl)
  meet_agrees nm rs ls row ord vi fl (meaning.Left.one x) (meaning.pattern r) (one h) (pattern g) =
      rw (or_true (not (orders o))) (like_agrees a.start (like_text (is_negated o)) (same_row f family.Text) vi fl x r h g)
  meet_agrees nm rs ls row ord vi fl (meaning.Left.many xs) (meaning.pattern r) whole (pattern g) = (refl, refl)
  meet_agrees nm rs ls row ord vi fl (meaning.each any xs) (meaning.pattern r) each (pattern g) = (refl, refl)

-- ---- what stands on the right
literal_fits : (p : ℕ) (r : LiteralReading) → ReadFits (is_fitting r) (first (range_of p r) (first passes (datetime_of p r))) (literal_at p r)
unfolding is_fitting first
literal_fits p misfit = other
literal_fits p out_of_range = fault
literal_fits p malformed = fault
literal_fits p (reads v) = good

-- where no literal of a family is out of range, none is found
no_range : (p : ℕ) (r : LiteralReading) → (r ≡ out_of_range → ⊥) → range_of p r ≡ passes
no_range p misfit h = refl
no_range p out_of_range h = absurd (h refl)
no_range p malformed h = refl
no_range p (reads v) h = refl

no_ranges : (f : Family) (q : List ℕ) → ((t : Token) → read_literal f q t ≡ out_of_range → ⊥) → (ts : List Token) → each_token (check_range f q) ts ≡ passes
unfolding each_token first
no_ranges f q h [] = refl
no_ranges f q h (t ∷ ts) = rw (no_range t.start (read_literal f q t) (h t), no_ranges f q h ts) refl

-- one element before others; a family has literals out of range or malformed ones, never both
element_fits : (p : ℕ) (r : LiteralReading) (row : Bool) (fl rg dt : Verdict) (rest : Read (List (Option ScalarValue))) → ReadFits row fl rest → fl ≡ first rg (first passes dt)
    → (r ≡ malformed → rg ≡ passes)
    → ReadFits (is_fitting r && row) (first (first (range_of p r) rg) (first passes (first (datetime_of p r) dt))) (before (literal_at p r) rest)
unfolding is_fitting first
element_fits p misfit row fl rg dt rest g e h = other
element_fits p out_of_range row fl rg dt unlike other e h = other
element_fits p out_of_range row fl rg dt (faulty c o) fault e h = fault
element_fits p out_of_range row fl rg dt (value xs) good e h = fault
element_fits p malformed row fl rg dt unlike other e h = other
element_fits p malformed row fl rg dt (faulty c o) fault e h = rw (h refl) fault
element_fits p malformed row fl rg dt (value xs) good e h = rw (h refl) fault
element_fits p (reads v) row fl rg dt unlike other e h = other
element_fits p (reads v) row fl rg dt (faulty c o) fault e h = rw (← e) fault
element_fits p (reads v) row fl rg dt (value xs) good e h = rw (← e) good

module _ (f : Family) (q : List ℕ) where
  if_malformed : (t : Token) (ts : List Token) → ((t : Token) → read_literal f q t ≡ out_of_range → ⊥) ⊎ ((t : Token) → read_literal f q t ≡ malformed → ⊥)
      → read_literal f q t ≡ malformed → each_token (check_range f q) ts ≡ passes
  if_malformed t ts (inl h) e = no_ranges f q h ts
  if_malformed t ts (inr h) e = absurd (h t e)

  elements_fit_law : (ts : List Token)
      → ReadFits (all_fit f q ts) (first (each_token (check_range f q) ts) (first passes (each_token (check_datetime f q) ts))) (elements f q ts)
  unfolding all_fit each_token elements first
  elements_fit_law [] = good
  elements_fit_law (t ∷ ts) =
      element_fits t.start (read_literal f q t) (all_fit f q ts) _ (each_token (check_range f q) ts) (each_token (check_datetime f q) ts) (elements f q ts) (elements_fit_law ts) refl
      (if_malformed t ts (exclusive f q))

not_null_law : (row : Bool) (fl : Verdict) (r : Read (List (Option ScalarValue))) → ReadFits row fl r → ReadFits row fl (not_null r)
not_null_law row fl unlike other = other
not_null_law row fl (faulty c p) fault = fault
not_null_law row fl (value xs) good = good

of_row_law : {A : Type 0} (b : Bool) (fl : Verdict) (r : Read A) → ReadFits true fl r → ReadFits b fl (of_row b r)
of_row_law true fl r g = g
of_row_law false fl r g = other

indexed_fits : (p : ℕ) (r : Optional ℕ) (xs : test.Array) → ReadFits true (first (check_read r p) (first passes passes)) (indexed_by p r xs)
unfolding first
indexed_fits p (Some n) xs = good
indexed_fits p None xs = fault

-- what the check and the meaning see of a path's property
pub data Seen : Kind → Entry → Type 0 where
  unseen : Seen Unknown absent
  there : {k : ℕ} {v : Value} → Seen (kind_of k) (property k v)

-- an environment of the table's kinds, whatever its values
abbrev pub Sees : (query table : List ℕ) → (Path → Entry) → Type 0
Sees q t env = (p : Path) → Seen (kind_named q t p) (env p)

placed_seen : (q t i : List ℕ) (env : Path → Entry) → Placed q t i env → Sees q t env
placed_seen q t i env w p = go (named q t p) refl
  where
    go : (x : Optional lookup.Property) → named q t p ≡ x → Seen (kind_found x) (env p)
    go None e = rw (w.unnamed p e) unseen
    go (Some x) e = rw (w.entry p x.number x.kind e) there

module _ (f : Family) (q : List ℕ) (place : ℕ) where
  abbrev PropertyFits : Optional Token → Kind → Right → Type 0
  PropertyFits i k r =
      RightFits f (demand (is_known k) cause.Name place) (shape_of (is_array k) i) (row_is f k) (is_one (shape_of (is_array k) i) && has_order f)
      (first (check_index q i) (first passes passes)) r

  kind_fits : (i : Optional Token) (k : Kind) (v : Value) → PropertyFits i k (right_kind f q place i k v)
  unfolding demand shape_of check_index first right_kind right_scalar right_array ordered
  kind_fits i Unknown v = missing
  kind_fits None (Scalar t) v = one (of_row_law (same_row f t.family) passes (value (as_scalar v)) good)
  kind_fits (Some i) (Scalar t) v = unfit
  kind_fits None (Array e t) v = whole (of_row_law (same_row f t.family) passes (value (as_array v)) good)
  kind_fits (Some i) (Array e t) v = one (of_row_law (same_row f t.family) _ _ (indexed_fits i.start (index_of q i) (as_array v)))

  property_fits : (i : Optional Token) (k : Kind) (e : Entry) → Seen k e → PropertyFits i k (right_property f q place i e)
  unfolding right_property demand
  property_fits i k absent unseen = missing
  property_fits i k (property n v) there = kind_fits i (kind_of n) v

pattern_fits : (p : ℕ) (r : Option (Regex ℕ)) → ReadFits true (first passes (first (demand (is_some r) cause.Pattern p) passes)) (pattern_by p r)
unfolding first demand
pattern_fits p none = fault
pattern_fits p (some r) = good

module _ (q t : List ℕ) (env : Path → Entry) (sees : Sees q t env) where
  right_fits : (f : Family) (r : RightSide)
      → RightFits f (check_right_name q t r) (right_shape q t r) (row_fits q t f r) (order_fits q t f r) (first (check_ranges f q r) (first (check_pattern q r) (check_datetimes f q r)))
      (right_of f q env r)
  unfolding check_right_name right_shape row_fits order_fits check_ranges check_pattern check_datetimes right_of ordered
  right_fits f (Literal x) = one (literal_fits x.start (read_literal f q x))
  right_fits f (Elements start count end) = whole (not_null_law _ _ _ (elements_fit_law f q (element_tokens q start count)))
  right_fits f (Property p x) = property_fits f q p.first.start x (kind_named q t p) (env p) (sees p)
  right_fits f (Pattern x) = pattern (pattern_fits x.start (pattern_of q x))

  -- ---- a comparison, in any environment of the table's kinds
  module _ (c : Comparison) where
    by_kind : (k : Kind) (v : Value) → Agrees (check_kind q t c k) (meant_by q env c k v)
    unfolding check_kind meant_by first demand
    by_kind Unknown v = (refl, refl)
    by_kind (Scalar y) v =
        meet_agrees c.left c.operation y.family _ _ _ _ _ _ _ _ _ (scalar_left q c.left.quantifier c.left.index (as_scalar v)) (right_fits y.family c.right)
    by_kind (Array e y) v =
        meet_agrees c.left c.operation y.family _ _ _ _ _ _ _ _ _ (array_left q c.left.quantifier c.left.index (as_array v)) (right_fits y.family c.right)

    by_entry : (k : Kind) (e : Entry) → Seen k e → Agrees (check_kind q t c k) (meant_as q env c e)
    unfolding meant_as check_kind first demand
    by_entry k absent unseen = (refl, refl)
    by_entry k (property n v) there = by_kind (kind_of n) v

    pub agrees_in : Agrees (check_comparison q t c) (meaning.meaning q env c)
    unfolding check_comparison meaning.meaning
    agrees_in = by_entry (kind_named q t c.left.path) (env c.left.path) (sees c.left.path)

-- so in an instance, by 01's layout or by notes
module _ (q t i : List ℕ) where
  pub comparison_agrees : (c : Comparison) → Agrees (check_comparison q t c) (meaning.meaning q (entry_named q t i) c)
  comparison_agrees c = agrees_in q t (entry_named q t i) (placed_seen q t i _ (named_placed q t i)) c

  pub noted_agrees : (notes : List ℕ) (c : Comparison) → Agrees (check_comparison q t c) (meaning.meaning q (entry_noted q t i notes) c)
  noted_agrees notes c = agrees_in q t (entry_noted q t i notes) (placed_seen q t i _ (noted_placed q t i notes)) c
