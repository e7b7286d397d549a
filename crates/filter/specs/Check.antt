-- The check: 01 "Kinds", and of "What can go wrong with a call" the causes in a comparison, tried in the order 20, 22, 21, 23, 24, 25, "leftmost first".
-- It goes over the query's syntax and the table, and knows nothing of instances.
use Rattle.std.specs.Prelude.{ℕ, List, [], ◌∷◌, ◌≡◌, Bool, true, false, not, ◌&&◌, ◌||◌, Err, None, Ok, Option, Result, Some}
use Rattle.record.specs.Kind.{kind_of, same_row}
use Rattle.record.specs.declared.kind.Family.{Family}
use Rattle.record.specs.declared.kind.Family.TheVariants as family
use Rattle.record.specs.declared.kind.Kind.{Kind}
use Rattle.record.specs.declared.kind.Kind.TheVariants.{Unknown, Scalar, Array}
use Rattle.table.specs.declared.lookup.Property as lookup
use Rattle.table.specs.Table.{is_known}
use Rattle.pattern.specs.Reading.{is_some}
use Rattle.token.specs.declared.Token.{Token}
use Rattle.terminal.specs.Terminal.{equality}
use Rattle.terminal.specs.declared.quantifier.Quantifier.{Quantifier}
use Rattle.terminal.specs.declared.quantifier.Quantifier.TheVariants.{Single, Any, Every}
use Rattle.syntax.specs.declared.path.Path.{Path}
use Rattle.syntax.specs.declared.operation.Operation.{Operation}
use Rattle.syntax.specs.declared.operation.Operation.TheVariants.{Compare, Like, NotLike}
use Rattle.syntax.specs.declared.right_side.RightSide.{RightSide}
use Rattle.syntax.specs.declared.right_side.RightSide.TheVariants.{Literal, Elements, Property, Pattern}
use Rattle.syntax.specs.declared.comparison.Comparison.{Comparison}
use Rattle.query_text.specs.Query.{Comparisons, only, more}
use Rattle.operand.specs.declared.cause.Cause.{Cause}
use Rattle.operand.specs.declared.cause.Cause.TheVariants as cause
use Rattle.operand.specs.Named.{named}
use Rattle.operand.specs.Index.{index_of}
use Rattle.operand.specs.LiteralReading.{LiteralReading, misfit, out_of_range, malformed, reads, read_literal, is_null_literal}
use Rattle.operand.specs.Element.{element_tokens}
use Rattle.operand.specs.PatternLiteral.{pattern_of}
use Rattle.filter.specs.Refusal.{Call, refused, compares, call_of}
use Rattle.filter.specs.declared.refusal.Cause.TheVariants as all
use Rattle.filter.specs.declared.refusal.Refusal.{Refusal}

-- of a comparison: nothing is wrong, or the first cause, with its place
pub data Verdict : Type 0 where
  passes : Verdict
  breaks : Cause → (place : ℕ) → Verdict

-- the first of two
unfoldable pub first : Verdict → Verdict → Verdict
first passes v = v
first (breaks c p) v = breaks c p

unfoldable pub demand : Bool → Cause → (place : ℕ) → Verdict
demand true c p = passes
demand false c p = breaks c p

-- for each token in turn
unfoldable pub each_token : (Token → Verdict) → List Token → Verdict
each_token f [] = passes
each_token f (t ∷ ts) = first (f t) (each_token f ts)

-- ---- 20, name not in table
abbrev pub kind_found : Option lookup.Property → Kind
kind_found (Some p) = kind_of p.kind
kind_found None = Unknown

-- the kind of the property that a path names
abbrev pub kind_named : (query table : List ℕ) → Path → Kind
kind_named q t p = kind_found (named q t p)

abbrev pub check_name : Kind → Path → Verdict
check_name k p = demand (is_known k) cause.Name p.first.start

unfoldable pub check_right_name : (query table : List ℕ) → RightSide → Verdict
check_right_name q t (Literal x) = passes
check_right_name q t (Elements start count end) = passes
check_right_name q t (Property p i) = check_name (kind_named q t p) p
check_right_name q t (Pattern x) = passes

-- ---- 22, scalar or array in the wrong form
abbrev pub is_array : Kind → Bool
is_array Unknown = false
is_array (Scalar t) = false
is_array (Array e t) = true

-- what a side is: one value, a whole array, each element of one, a pattern; or an index or ANY or EVERY on a scalar
pub data Shape : Type 0 where
  one : Shape
  whole : Shape
  each : Shape
  pattern : Shape
  unfit : Shape

unfoldable pub shape_of : (array : Bool) → Option Token → Shape
shape_of false None = one
shape_of false (Some i) = unfit
shape_of true None = whole
shape_of true (Some i) = one

unfoldable pub left_shape : Quantifier → (array : Bool) → Option Token → Shape
left_shape Single a i = shape_of a i
left_shape Any true i = each
left_shape Any false i = unfit
left_shape Every true i = each
left_shape Every false i = unfit

unfoldable pub right_shape : (query table : List ℕ) → RightSide → Shape
right_shape q t (Literal x) = one
right_shape q t (Elements start count end) = whole
right_shape q t (Property p i) = shape_of (is_array (kind_named q t p)) i
right_shape q t (Pattern x) = pattern

-- the left shapes that may stand beside a right one
unfoldable pub beside : (right left : Shape) → Bool
beside one one = true
beside one whole = false
beside one each = true
beside one pattern = false
beside one unfit = false
beside whole one = false
beside whole whole = true
beside whole each = false
beside whole pattern = false
beside whole unfit = false
beside each l = false
beside pattern one = true
beside pattern whole = false
beside pattern each = false
beside pattern pattern = false
beside pattern unfit = false
beside unfit l = false

-- ---- 21, row or operator not allowed
unfoldable pub is_fitting : LiteralReading → Bool
is_fitting misfit = false
is_fitting out_of_range = true
is_fitting malformed = true
is_fitting (reads v) = true

unfoldable pub all_fit : Family → (query : List ℕ) → List Token → Bool
all_fit f q [] = true
all_fit f q (t ∷ ts) = is_fitting (read_literal f q t) && all_fit f q ts

abbrev pub row_is : Family → Kind → Bool
row_is f Unknown = false
row_is f (Scalar t) = same_row f t.family
row_is f (Array e t) = same_row f t.family

-- the right side's row; "LIKE only for 6 and 7"
unfoldable pub row_fits : (query table : List ℕ) → Family → RightSide → Bool
row_fits q t f (Literal x) = is_fitting (read_literal f q x)
row_fits q t f (Elements start count end) = all_fit f q (element_tokens q start count)
row_fits q t f (Property p i) = row_is f (kind_named q t p)
row_fits q t f (Pattern x) = same_row f family.Text

-- "Order operators only for integers, reals and datetimes, never with NULL or between arrays"
abbrev pub has_order : Family → Bool
has_order f = same_row f family.Integer || (same_row f family.Real || same_row f family.Datetime)

abbrev pub is_one : Shape → Bool
is_one one = true
is_one whole = false
is_one each = false
is_one pattern = false
is_one unfit = false

unfoldable pub order_fits : (query table : List ℕ) → Family → RightSide → Bool
order_fits q t f (Literal x) = not (is_null_literal x) && has_order f
order_fits q t f (Elements start count end) = false
order_fits q t f (Property p i) = is_one (shape_of (is_array (kind_named q t p)) i) && has_order f
order_fits q t f (Pattern x) = true

-- LIKE needs no order
abbrev pub orders : Operation → Bool
orders (Compare op) = not (equality op)
orders Like = false
orders NotLike = false

-- ---- 23, literal or index out of range
abbrev pub check_read : Option ℕ → (place : ℕ) → Verdict
check_read (Some n) p = passes
check_read None p = breaks cause.Range p

unfoldable pub check_index : (query : List ℕ) → Option Token → Verdict
check_index q None = passes
check_index q (Some i) = check_read (index_of q i) i.start

-- ANY and EVERY have no index, by the grammar
unfoldable pub check_left_index : (query : List ℕ) → Quantifier → Option Token → Verdict
check_left_index q Single i = check_index q i
check_left_index q Any i = passes
check_left_index q Every i = passes

abbrev pub range_of : (place : ℕ) → LiteralReading → Verdict
range_of p misfit = passes
range_of p out_of_range = breaks cause.Range p
range_of p malformed = passes
range_of p (reads v) = passes

abbrev pub check_range : Family → (query : List ℕ) → Token → Verdict
check_range f q x = range_of x.start (read_literal f q x)

unfoldable pub check_ranges : Family → (query : List ℕ) → RightSide → Verdict
check_ranges f q (Literal x) = check_range f q x
check_ranges f q (Elements start count end) = each_token (check_range f q) (element_tokens q start count)
check_ranges f q (Property p i) = check_index q i
check_ranges f q (Pattern x) = passes

-- ---- 24, pattern malformed or too large
unfoldable pub check_pattern : (query : List ℕ) → RightSide → Verdict
check_pattern q (Literal x) = passes
check_pattern q (Elements start count end) = passes
check_pattern q (Property p i) = passes
check_pattern q (Pattern x) = demand (is_some (pattern_of q x)) cause.Pattern x.start

-- ---- 25, datetime literal malformed
abbrev pub datetime_of : (place : ℕ) → LiteralReading → Verdict
datetime_of p misfit = passes
datetime_of p out_of_range = passes
datetime_of p malformed = breaks cause.Datetime p
datetime_of p (reads v) = passes

abbrev pub check_datetime : Family → (query : List ℕ) → Token → Verdict
check_datetime f q x = datetime_of x.start (read_literal f q x)

unfoldable pub check_datetimes : Family → (query : List ℕ) → RightSide → Verdict
check_datetimes f q (Literal x) = check_datetime f q x
check_datetimes f q (Elements start count end) = each_token (check_datetime f q) (element_tokens q start count)
check_datetimes f q (Property p i) = passes
check_datetimes f q (Pattern x) = passes

-- ---- a comparison whose left property has a kind
abbrev pub family_of : Kind → Family
family_of Unknown = family.Boolean
family_of (Scalar t) = t.family
family_of (Array e t) = t.family

unfoldable pub check_kind : (query table : List ℕ) → Comparison → Kind → Verdict
check_kind q t c k =
    first (check_name k c.left.path)
    (first (check_right_name q t c.right)
    (first (demand (beside (right_shape q t c.right) (left_shape c.left.quantifier (is_array k) c.left.index)) cause.Shape c.left.start)
    (first (demand (row_fits q t (family_of k) c.right) cause.Row c.left.start)
    (first (demand (not (orders c.operation) || order_fits q t (family_of k) c.right) cause.Row c.left.start)
    (first (check_left_index q c.left.quantifier c.left.index)
    (first (check_ranges (family_of k) q c.right)
    (first (check_pattern q c.right)
    (check_datetimes (family_of k) q c.right))))))))

unfoldable pub check_comparison : (query table : List ℕ) → Comparison → Verdict
check_comparison q t c = check_kind q t c (kind_named q t c.left.path)

-- comparison by comparison
unfoldable pub check_all : (query table : List ℕ) → Comparisons → Verdict
check_all q t (only c) = check_comparison q t c
check_all q t (more c j r) = first (check_comparison q t c) (check_all q t r)

abbrev pub as_checked : Verdict → Result (Unit {0}) Refusal
as_checked passes = Ok tt
as_checked (breaks c p) = Err (record { cause = all.Comparison c; place = p })

abbrev pub check_call : (query table : List ℕ) → Call → Result (Unit {0}) Refusal
check_call q t (refused c p) = Err (record { cause = c; place = p })
check_call q t (compares l) = as_checked (check_all q t l)

-- check (query, table)
unfoldable pub check : (query table : List ℕ) → Result (Unit {0}) Refusal
check q t = check_call q t (call_of q t)

-- what the evaluation of a query and a table asks for
abbrev pub IsAccepted : (query table : List ℕ) → Type 0
IsAccepted q t = check q t ≡ Ok tt
