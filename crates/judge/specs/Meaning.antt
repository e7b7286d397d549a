-- 01 "Meaning", of one comparison: over its syntax and an environment, which says of each path the kind and the value of its property. "A comparison fails by
-- itself where a name, shape, kind, operator, index or literal is wrong"; else it is a test of values (predicate/specs/Test), with a truth value and steps.
use Rattle.std.specs.Prelude.{Option as Optional, ℕ, List, [], ◌∷◌, Bool, true, false, not, ◌&&◌, ◌||◌, get_or, None, Some}
use Rattle.std.proofs.Math.Option.{Option, none, some}
use Rattle.base.specs.declared.order.Operator.{Operator}
use Rattle.base.specs.declared.order.Operator.TheVariants.{Equal, Unequal}
use Rattle.record.specs.Kind.{kind_of, same_row}
use Rattle.record.specs.declared.kind.Family.{Family}
use Rattle.record.specs.declared.kind.Family.TheVariants as family
use Rattle.record.specs.declared.kind.Kind.{Kind}
use Rattle.record.specs.declared.kind.Kind.TheVariants.{Unknown, Scalar, Array}
use Rattle.pattern.specs.Regex.{Regex}
use Rattle.token.specs.declared.Token.{Token}
use Rattle.terminal.specs.Terminal.{equality}
use Rattle.terminal.specs.declared.quantifier.Quantifier.{Quantifier}
use Rattle.terminal.specs.declared.quantifier.Quantifier.TheVariants.{Single, Any, Every}
use Rattle.syntax.specs.declared.path.Path.{Path}
use Rattle.syntax.specs.declared.operation.Operation.{Operation}
use Rattle.syntax.specs.declared.operation.Operation.TheVariants.{Compare, Like, NotLike}
use Rattle.syntax.specs.declared.left_side.LeftSide.{LeftSide}
use Rattle.syntax.specs.declared.right_side.RightSide.{RightSide}
use Rattle.syntax.specs.declared.right_side.RightSide.TheVariants.{Literal, Elements, Property, Pattern}
use Rattle.syntax.specs.declared.comparison.Comparison.{Comparison}
use Rattle.instance.specs.Value.{ScalarValue, Value, null, single, array, Entry, absent, property}
use Rattle.operand.specs.declared.cause.Cause.{Cause}
use Rattle.operand.specs.declared.cause.Cause.TheVariants as cause
use Rattle.operand.specs.Index.{index_of}
use Rattle.operand.specs.LiteralReading.{LiteralReading, misfit, out_of_range, malformed, reads, read_literal, is_null_literal}
use Rattle.operand.specs.Element.{element_tokens}
use Rattle.operand.specs.PatternLiteral.{pattern_of}
use Rattle.like.specs.Like.{as_text}
use Rattle.predicate.specs.Test as test
use Rattle.predicate.specs.Test.{Test, values, arrays, search, like}

-- what a part of a comparison reads: something of another row, something wrong in itself, or a value
pub data Read (A : Type 0) : Type 0 where
  unlike : Read A
  faulty : Cause → (place : ℕ) → Read A
  value : A → Read A

-- a property's value as a scalar, and as an array
unfoldable pub as_scalar : Value → Option ScalarValue
as_scalar null = none
as_scalar (single x) = some x
as_scalar (array xs) = none

unfoldable pub as_array : Value → test.Array
as_array null = none
as_array (single x) = none
as_array (array xs) = some xs

-- "An index past the end, or into NULL, reads NULL"
unfoldable pub element_of : test.Array → (index : ℕ) → Option ScalarValue
element_of none n = none
element_of (some xs) n = get_or xs n none

abbrev pub indexed_by : (place : ℕ) → Optional ℕ → test.Array → Read (Option ScalarValue)
indexed_by p (Some n) xs = value (element_of xs n)
indexed_by p None xs = faulty cause.Range p

abbrev pub indexed : (query : List ℕ) → Token → test.Array → Read (Option ScalarValue)
indexed q i xs = indexed_by i.start (index_of q i) xs

-- ---- the left side, by its form: "`A[i]` .. and ANY or EVERY take an array on the left"
pub data Left : Type 0 where
  misshapen : Left
  one : Read (Option ScalarValue) → Left
  many : test.Array → Left
  each : (any : Bool) → test.Array → Left

unfoldable pub left_scalar : Quantifier → Optional Token → Option ScalarValue → Left
left_scalar Single None x = one (value x)
left_scalar Single (Some i) x = misshapen
left_scalar Any i x = misshapen
left_scalar Every i x = misshapen

unfoldable pub left_array : (query : List ℕ) → Quantifier → Optional Token → test.Array → Left
left_array q Single None xs = many xs
left_array q Single (Some i) xs = one (indexed q i xs)
left_array q Any i xs = each true xs
left_array q Every i xs = each false xs

-- ---- the right side, beside a property of a family: no property of its name, with the name's place; an indexed scalar; one value, and whether it is the
-- literal NULL; an array; a pattern
pub data Right : Type 0 where
  missing : (place : ℕ) → Right
  unindexable : Right
  one : (is_null : Bool) → Read (Option ScalarValue) → Right
  many : Read test.Array → Right
  pattern : Read (Regex ℕ) → Right

abbrev pub literal_at : (place : ℕ) → LiteralReading → Read (Option ScalarValue)
literal_at p misfit = unlike
literal_at p out_of_range = faulty cause.Range p
literal_at p malformed = faulty cause.Datetime p
literal_at p (reads x) = value x

abbrev pub literal : Family → (query : List ℕ) → Token → Read (Option ScalarValue)
literal f q t = literal_at t.start (read_literal f q t)

-- an element before others: one of another row counts before any that is wrong in itself, and of these the first
abbrev pub before : Read (Option ScalarValue) → Read (List (Option ScalarValue)) → Read (List (Option ScalarValue))
before unlike r = unlike
before (faulty c p) unlike = unlike
before (faulty c p) (faulty d o) = faulty c p
before (faulty c p) (value xs) = faulty c p
before (value x) unlike = unlike
before (value x) (faulty d o) = faulty d o
before (value x) (value xs) = value (x ∷ xs)

unfoldable pub elements : Family → (query : List ℕ) → List Token → Read (List (Option ScalarValue))
elements f q [] = value []
elements f q (t ∷ ts) = before (literal f q t) (elements f q ts)

-- an array literal is never NULL
abbrev pub not_null : Read (List (Option ScalarValue)) → Read test.Array
not_null unlike = unlike
not_null (faulty c p) = faulty c p
not_null (value xs) = value (some xs)

-- a property's values stand beside those of its own row
abbrev pub of_row : {A : Type 0} → Bool → Read A → Read A
of_row true r = r
of_row false r = unlike

unfoldable pub right_scalar : (same : Bool) → Optional Token → Option ScalarValue → Right
right_scalar same None x = one false (of_row same (value x))
right_scalar same (Some i) x = unindexable

unfoldable pub right_array : (query : List ℕ) (same : Bool) → Optional Token → test.Array → Right
right_array q same None xs = many (of_row same (value xs))
right_array q same (Some i) xs = one false (of_row same (indexed q i xs))

unfoldable pub right_kind : Family → (query : List ℕ) → (place : ℕ) → Optional Token → Kind → Value → Right
right_kind f q p i Unknown v = missing p
right_kind f q p i (Scalar t) v = right_scalar (same_row f t.family) i (as_scalar v)
right_kind f q p i (Array e t) v = right_array q (same_row f t.family) i (as_array v)

unfoldable pub right_property : Family → (query : List ℕ) → (place : ℕ) → Optional Token → Entry → Right
right_property f q p i absent = missing p
right_property f q p i (property k v) = right_kind f q p i (kind_of k) v

abbrev pub pattern_by : (place : ℕ) → Option (Regex ℕ) → Read (Regex ℕ)
pattern_by p none = faulty cause.Pattern p
pattern_by p (some r) = value r

unfoldable pub right_of : Family → (query : List ℕ) → (Path → Entry) → RightSide → Right
right_of f q env (Literal t) = one (is_null_literal t) (literal f q t)
right_of f q env (Elements start count end) = many (not_null (elements f q (element_tokens q start count)))
right_of f q env (Property p i) = right_property f q p.first.start i (env p)
right_of f q env (Pattern t) = pattern (pattern_by t.start (pattern_of q t))

-- ---- both sides
pub data Meant : Type 0 where
  fails : Cause → (place : ℕ) → Meant
  means : Test → Meant

-- two parts and the rule of the operator: a wrong row or operator, placed at the comparison, counts before what is wrong with a part itself
unfoldable pub both : {A B : Type 0} → (start : ℕ) (allowed : Bool) → Read A → Read B → (A → B → Test) → Meant
both s false x y k = fails cause.Row s
both s true unlike y k = fails cause.Row s
both s true (faulty c p) unlike k = fails cause.Row s
both s true (faulty c p) (faulty d o) k = fails c p
both s true (faulty c p) (value y) k = fails c p
both s true (value x) unlike k = fails cause.Row s
both s true (value x) (faulty d o) k = fails d o
both s true (value x) (value y) k = means (k x y)

-- "Order operators only for integers, reals and datetimes, never with NULL"
unfoldable pub ordered : Family → Bool
ordered f = same_row f family.Integer || (same_row f family.Real || same_row f family.Datetime)

abbrev pub suits : Operator → Family → (is_null : Bool) → Bool
suits op f is_null = equality op || not is_null && ordered f

-- LIKE and NOT LIKE stand before a pattern and nothing else, by the grammar
abbrev pub operator_of : Operation → Operator
operator_of (Compare op) = op
operator_of Like = Equal
operator_of NotLike = Unequal

abbrev pub is_negated : Operation → Bool
is_negated (Compare op) = false
is_negated Like = false
is_negated NotLike = true

abbrev pub like_text : (negated : Bool) → Option ScalarValue → Regex ℕ → Test
like_text negated x r = like negated (as_text x) r

-- a comparison over what its sides are: an array beside an array; an element or a scalar beside one value; LIKE, of one text. Order operators not between arrays
unfoldable pub meet : LeftSide → Operation → Family → Left → Right → Meant
meet a o f l (missing p) = fails cause.Name p
meet a o f l unindexable = fails cause.Shape a.start
meet a o f misshapen (one n y) = fails cause.Shape a.start
meet a o f (one x) (one n y) = both a.start (suits (operator_of o) f n) x y (values (operator_of o))
meet a o f (many xs) (one n y) = fails cause.Shape a.start
meet a o f (each any xs) (one n y) = both a.start (suits (operator_of o) f n) (value xs) y (search a.negated any (operator_of o))
meet a o f misshapen (many ys) = fails cause.Shape a.start
meet a o f (one x) (many ys) = fails cause.Shape a.start
meet a o f (many xs) (many ys) = both a.start (equality (operator_of o)) (value xs) ys (arrays (operator_of o))
meet a o f (each any xs) (many ys) = fails cause.Shape a.start
meet a o f misshapen (pattern r) = fails cause.Shape a.start
meet a o f (one x) (pattern r) = both a.start (same_row f family.Text) x r (like_text (is_negated o))
meet a o f (many xs) (pattern r) = fails cause.Shape a.start
meet a o f (each any xs) (pattern r) = fails cause.Shape a.start

unfoldable pub meant_by : (query : List ℕ) → (Path → Entry) → Comparison → Kind → Value → Meant
meant_by q env c Unknown v = fails cause.Name c.left.path.first.start
meant_by q env c (Scalar t) v =
    meet c.left c.operation t.family (left_scalar c.left.quantifier c.left.index (as_scalar v)) (right_of t.family q env c.right)
meant_by q env c (Array e t) v =
    meet c.left c.operation t.family (left_array q c.left.quantifier c.left.index (as_array v)) (right_of t.family q env c.right)

unfoldable pub meant_as : (query : List ℕ) → (Path → Entry) → Comparison → Entry → Meant
meant_as q env c absent = fails cause.Name c.left.path.first.start
meant_as q env c (property k v) = meant_by q env c (kind_of k) v

-- what a comparison means
unfoldable pub meaning : (query : List ℕ) → (Path → Entry) → Comparison → Meant
meaning q env c = meant_as q env c (env c.left.path)
