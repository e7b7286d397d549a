-- A comparison reads at most as much as the instance has bytes, so that the steps of 64 of them are far from 2^64.
use Rattle.std.specs.Prelude.{Option as Optional, None, Some}
use Prim.Native.Nat.{ℕ, ◌+◌, ◌≤◌}
use mathlib.Core.Path.{◌≡◌, refl, subst}
use mathlib.Core.List.{List}
use mathlib.Core.Bool.{Bool, true, false}
use mathlib.Core.Option.{Option}
use native.Mathlib.Omega.{arith}
use lib.ListN.{length}
use Rattle.base.specs.Part.{part}
use Rattle.record.specs.Kind.{kind_of}
use Rattle.record.specs.declared.kind.Family.{Family}
use Rattle.record.specs.declared.kind.ValueType.{ValueType}
use Rattle.record.specs.declared.kind.Kind.{Kind}
use Rattle.record.specs.declared.kind.Kind.TheVariants.{Unknown, Scalar, Array}
use Rattle.table.specs.declared.lookup.Property.{Property}
use Rattle.terminal.specs.declared.quantifier.Quantifier.{Quantifier}
use Rattle.terminal.specs.declared.quantifier.Quantifier.TheVariants.{Single, Any, Every}
use Rattle.syntax.specs.declared.path.Path.{Path}
use Rattle.syntax.specs.declared.operation.Operation.{Operation}
use Rattle.syntax.specs.declared.left_side.LeftSide.{LeftSide}
use Rattle.syntax.specs.declared.comparison.Comparison.{Comparison}
use Rattle.instance.specs.Start.{start_of}
use Rattle.instance.specs.Value.{ScalarValue, Entry, value_at}
use Rattle.operand.specs.Named.{named}
use Rattle.operand.specs.Index.{index_of}
use Rattle.place.specs.declared.Source.TheVariants as source
use Rattle.place.specs.declared.Part.{Part}
use Rattle.place.specs.Place.{body_at, body_value}
use Rattle.like.specs.Like.{as_text, size}
use Rattle.predicate.specs.Test.{Test, values, arrays, search, reads}
use Rattle.predicate.proofs.Bounds.{steps_bounded, body_few, text_few, spot_few}
use Rattle.judge.specs.Meaning as meaning
use Rattle.judge.specs.Meaning.{Read, unlike, faulty, element_of, indexed_by, Left, misshapen, left_scalar, left_array, Right, missing, unindexable, Meant, fails, means, both, operator_of, is_negated, like_text, meet, meant_by, meant_as}
use Rattle.judge.proofs.Sides.{element_start}
use Rattle.judge.proofs.RightSides.{scalar_of_law, array_of}
use Rattle.judge.proofs.Named.{Placed}
use Rattle.filter.specs.Meaning.{steps_of, reads_of}
use Rattle.token.specs.declared.Token.{Token}

-- what a left side reads at most
abbrev Few : ℕ → Left → Type 0
Few n misshapen = Unit
Few n (meaning.Left.one unlike) = Unit
Few n (meaning.Left.one (faulty c p)) = Unit
Few n (meaning.Left.one (meaning.value x)) = size (as_text x) ≤ n
Few n (meaning.Left.many xs) = size xs ≤ n
Few n (meaning.each any xs) = size xs ≤ n

both_few : {A B : Type 0} (n s : ℕ) (ok : Bool) (x : A) (y : Read B) (k : A → B → Test) → ((y : B) → reads (k x y) ≤ n) → reads_of (both s ok (meaning.value x) y k) ≤ n
unfolding both reads_of
both_few n s false x y k h = omega arith
both_few n s true x unlike k h = omega arith
both_few n s true x (faulty c p) k h = omega arith
both_few n s true x (meaning.value y) k h = h y

-- a side at fault reads nothing
fault_few : {A B : Type 0} (n s : ℕ) (ok : Bool) (c : Rattle.operand.specs.declared.cause.Cause.Cause) (p : ℕ) (y : Read B) (k : A → B → Test)
    → reads_of (both {A = A} s ok (faulty c p) y k) ≤ n
unfolding both reads_of
fault_few n s false c p y k = omega arith
fault_few n s true c p unlike k = omega arith
fault_few n s true c p (faulty d o) k = omega arith
fault_few n s true c p (meaning.value y) k = omega arith

unlike_few : {A B : Type 0} (n s : ℕ) (ok : Bool) (y : Read B) (k : A → B → Test) → reads_of (both {A = A} s ok unlike y k) ≤ n
unfolding both reads_of
unlike_few n s false y k = omega arith
unlike_few n s true y k = omega arith

module _ (n : ℕ) (a : LeftSide) (o : Operation) (f : Family) where
  meet_few : (l : Left) (r : Right) → Few n l → reads_of (meet a o f l r) ≤ n
  unfolding meet reads_of reads
  meet_few l (missing p) h = omega arith
  meet_few l unindexable h = omega arith
  meet_few misshapen (meaning.Right.one z y) h = omega arith
  meet_few (meaning.Left.one unlike) (meaning.Right.one z y) h = unlike_few n a.start _ y (values (operator_of o))
  meet_few (meaning.Left.one (faulty c p)) (meaning.Right.one z y) h = fault_few n a.start _ c p y (values (operator_of o))
  meet_few (meaning.Left.one (meaning.value x)) (meaning.Right.one z y) h = both_few n a.start _ x y (values (operator_of o)) (λ v. omega arith)
  meet_few (meaning.Left.many xs) (meaning.Right.one z y) h = omega arith
  meet_few (meaning.each any xs) (meaning.Right.one z y) h = both_few n a.start _ xs y (search a.negated any (operator_of o)) (λ v. h)
  meet_few misshapen (meaning.Right.many ys) h = omega arith
  meet_few (meaning.Left.one x) (meaning.Right.many ys) h = omega arith
  meet_few (meaning.Left.many xs) (meaning.Right.many ys) h = both_few n a.start _ xs ys (arrays (operator_of o)) (λ v. h)
  meet_few (meaning.each any xs) (meaning.Right.many ys) h = omega arith
  meet_few misshapen (meaning.pattern r) h = omega arith
  meet_few (meaning.Left.one unlike) (meaning.pattern r) h = unlike_few n a.start _ r (like_text (is_negated o))
  meet_few (meaning.Left.one (faulty c p)) (meaning.pattern r) h = fault_few n a.start _ c p r (like_text (is_negated o))
  meet_few (meaning.Left.one (meaning.value x)) (meaning.pattern r) h = both_few n a.start _ x r (like_text (is_negated o)) (λ v. h)
  meet_few (meaning.Left.many xs) (meaning.pattern r) h = omega arith
  meet_few (meaning.each any xs) (meaning.pattern r) h = omega arith

-- the left side's values are the instance's
scalar_few : (n : ℕ) (k : Quantifier) (x : Optional Token) (v : Option ScalarValue) → size (as_text v) ≤ n → Few n (left_scalar k x v)
unfolding left_scalar
scalar_few n Single None v h = h
scalar_few n Single (Some i) v h = tt
scalar_few n Any x v h = tt
scalar_few n Every x v h = tt

element_few : (t : ValueType) (i : List ℕ) (b : Optional Part) (n : ℕ) → size (as_text (element_of (body_value t i b) n)) ≤ length i
unfolding body_value element_of as_text size
element_few t i None n = omega arith
element_few t i (Some x) n =
    subst (λ (v : Option ScalarValue). size (as_text v) ≤ length i) (element_start t (part i x.start x.length) n)
    (spot_few t i i (record { source = source.Part x; place = start_of (part i x.start x.length) n }) tt)

indexed_few : (t : ValueType) (i : List ℕ) (b : Optional Part) (p : ℕ) (r : Optional ℕ) → Few (length i) (meaning.Left.one (indexed_by p r (body_value t i b)))
indexed_few t i b p (Some n) = element_few t i b n
indexed_few t i b p None = tt

array_few : (t : ValueType) (q i : List ℕ) (k : Quantifier) (x : Optional Token) (b : Optional Part) → Few (length i) (left_array q k x (body_value t i b))
unfolding left_array
array_few t q i Single None b = body_few t i b
array_few t q i Single (Some y) b = indexed_few t i b y.start (index_of q y)
array_few t q i Any x b = body_few t i b
array_few t q i Every x b = body_few t i b

-- a comparison counts one step and at most as many more as it reads
pub steps_reads : (m : Meant) → steps_of m ≤ 1 + reads_of m
unfolding steps_of reads_of
steps_reads (fails c p) = omega arith
steps_reads (means x) = steps_bounded x

-- in any environment that reads from the instance
module _ (q t i : List ℕ) (env : Path → Entry) (w : Placed q t i env) (c : Comparison) where
  kind_few : (kind place : ℕ) (k : Kind) → kind_of kind ≡ k → reads_of (meant_by q env c k (value_at kind i place)) ≤ length i
  unfolding meant_by reads_of
  kind_few kind place Unknown e = omega arith
  kind_few kind place (Scalar y) e =
      meet_few (length i) c.left c.operation y.family _ _
      (scalar_few (length i) c.left.quantifier c.left.index _ (rw (scalar_of_law kind i place y e) (text_few y i place)))
  kind_few kind place (Array element y) e =
      meet_few (length i) c.left c.operation y.family _ _
      (rw (array_of kind i place element y e) (array_few y q i c.left.quantifier c.left.index (body_at i place)))

  entry_few : (x : Optional Property) → named q t c.left.path ≡ x → reads_of (meant_as q env c (env c.left.path)) ≤ length i
  unfolding meant_as reads_of
  entry_few None e = rw (w.unnamed c.left.path e) (omega arith)
  entry_few (Some x) e = rw (w.entry c.left.path x.number x.kind e) (kind_few x.kind (w.place x.number) (kind_of x.kind) refl)

  reads_few : reads_of (meaning.meaning q env c) ≤ length i
  unfolding meaning.meaning
  reads_few = entry_few (named q t c.left.path) refl

  pub steps_few : steps_of (meaning.meaning q env c) ≤ 1 + length i
  steps_few = omega (arith, steps_reads (meaning.meaning q env c), reads_few)
