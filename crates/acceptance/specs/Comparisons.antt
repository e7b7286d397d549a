-- The comparisons of a derivation from DSP0212's rule `fql` (DSP0212 5.3.2), each from the tokens of its property-comp, with what joins it to the next.
use Rattle.std.specs.Prelude.{ℕ, suc, ◌≡◌, List, [], ◌∷◌, Bool, true, false, None, Option, Some}
use Rattle.std.proofs.lemmas.Bool.{false≢true}
use Rattle.base.specs.declared.order.Operator.{Operator}
use Rattle.token.specs.declared.Punctuation.TheVariants.{Comma}
use Rattle.token.specs.declared.TokenKind.TheVariants.{Symbol}
use Rattle.token.specs.declared.Token.{Token}
use Rattle.terminal.specs.declared.quantifier.Quantifier.{Quantifier}
use Rattle.terminal.specs.declared.quantifier.Quantifier.TheVariants.{Single, Any, Every}
use Rattle.terminal.specs.declared.operator.BoolOp.{BoolOp}
use Rattle.terminal.specs.declared.operator.BoolOp.TheVariants.{And, Or}
use Rattle.terminal.specs.Terminal.{comparing}
use Rattle.syntax.specs.declared.path.Path.{Path}
use Rattle.syntax.specs.declared.operation.Operation.{Operation}
use Rattle.syntax.specs.declared.operation.Operation.TheVariants.{Compare, Like, NotLike}
use Rattle.syntax.specs.declared.left_side.LeftSide.{LeftSide}
use Rattle.syntax.specs.declared.right_side.RightSide.{RightSide}
use Rattle.syntax.specs.declared.right_side.RightSide.TheVariants.{Literal, Elements, Property, Pattern}
use Rattle.syntax.specs.declared.comparison.Comparison.{Comparison}
use Rattle.syntax.specs.Scan.{Scan}
use Rattle.syntax.specs.Property.{first_name, one_more}
use Rattle.query_text.specs.declared.join.Join.TheVariants.{Inner, Outer}
use Rattle.query_text.specs.Query as Query
use Rattle.query_text.specs.Query.{Comparisons, only}
use Rattle.grammar.specs.Abnf.{Fits, one, join, left, right, none, just, stop, more, many, then, is, operates, equates, scalar_comp_op, array_comp_op, like_op, bool_op, array_op, dot_name, property, in_brackets, element, like_pattern, scalar_literal, array_literal_rule, property_comp_rule, fql_expr, bracketed, fql}
use Rattle.grammar.specs.Limits.{element_count}

-- ---- property, and "[" index "]"
module _ {s : Scan} where
  unfoldable pub names_after : {t e : Token} → Path → Fits s (many dot_name) t e → Path
  names_after p stop = p
  names_after p (more (join {m = t} d w) k) = names_after (one_more p t) k

unfoldable pub path_of : {s : Scan} {t e : Token} → Fits s property t e → Path
path_of (left (join (one {t = t} n) k)) = names_after (first_name t) k
path_of (right (join (join (one {t = t} n) d) (join (one {t = u} w) k))) = names_after (one_more (first_name t) u) k

unfoldable pub index_in : {s : Scan} {t e : Token} → Fits s (in_brackets s) t e → Token
index_in (join o (join (one {t = t} u) c)) = t

-- ---- the left side
abbrev pub left_from : Token → Bool → Quantifier → Path → Option Token → LeftSide
left_from t n k p i = record { start = t.start; negated = n; quantifier = k; path = p; index = i }

unfoldable pub plain_left : {s : Scan} {t e : Token} → Fits s property t e → LeftSide
plain_left {s} {t} f = left_from t false Single (path_of f) None

unfoldable pub element_left : {s : Scan} {t e : Token} → Fits s (element s) t e → LeftSide
element_left {s} {t} (join f g) = left_from t false Single (path_of f) (Some (index_in g))

unfoldable pub is_negated : {s : Scan} {t e : Token} → Fits s array_op t e → Bool
is_negated (join none o) = false
is_negated (join (just n) o) = true

unfoldable pub quantifier_of : {s : Scan} {t e : Token} → Fits s array_op t e → Quantifier
quantifier_of (join n (left a)) = Any
quantifier_of (join n (right e)) = Every

unfoldable pub each_left : {s : Scan} {t e : Token} → Fits s (then array_op property) t e → LeftSide
each_left {s} {t} (join o f) = left_from t (is_negated o) (quantifier_of o) (path_of f) None

-- ---- the operator
abbrev pub operator_by : (k : Option Operator) → operates k ≡ true → Operator
operator_by (Some o) e = o
operator_by None e = absurd (false≢true e)

abbrev pub equator_by : (k : Option Operator) → equates k ≡ true → Operator
equator_by (Some o) e = o
equator_by None e = absurd (false≢true e)

unfoldable pub scalar_operation : {s : Scan} {t e : Token} → Fits s scalar_comp_op t e → Operation
scalar_operation (one {t = t} e) = Compare (operator_by (comparing t) e)

unfoldable pub array_operation : {s : Scan} {t e : Token} → Fits s array_comp_op t e → Operation
array_operation (one {t = t} e) = Compare (equator_by (comparing t) e)

unfoldable pub like_operation : {s : Scan} {t e : Token} → Fits s like_op t e → Operation
like_operation (join none l) = Like
like_operation (join (just n) l) = NotLike

-- ---- the right side
unfoldable pub literal_right : {s : Scan} {t e : Token} → Fits s scalar_literal t e → RightSide
literal_right {s} {t} f = Literal t

unfoldable pub pattern_right : {s : Scan} {t e : Token} → Fits s like_pattern t e → RightSide
pattern_right {s} {t} f = Pattern t

unfoldable pub plain_right : {s : Scan} {t e : Token} → Fits s property t e → RightSide
plain_right f = Property (path_of f) None

unfoldable pub element_right : {s : Scan} {t e : Token} → Fits s (element s) t e → RightSide
element_right (join f g) = Property (path_of f) (Some (index_in g))

unfoldable pub close_of : {s : Scan} {t e : Token} → Fits s array_literal_rule t e → Token
close_of (join o (join {m = t} l c)) = t

unfoldable pub array_right : {s : Scan} {t e : Token} → Fits s array_literal_rule t e → RightSide
array_right {s} {t} f = Elements t.start (element_count f) (close_of f).end

-- the tokens of its scalar-literals
module _ {s : Scan} where
  unfoldable pub literals_after : {t e : Token} → Fits s (many (then (is (Symbol Comma)) scalar_literal)) t e → List Token
  literals_after stop = []
  literals_after (more (join {m = t} c l) k) = t ∷ literals_after k

unfoldable pub literals_of : {s : Scan} {t e : Token} → Fits s array_literal_rule t e → List Token
literals_of (join o (join none c)) = []
literals_of (join o (join (just (join (one {t = t} l) k)) c)) = t ∷ literals_after k

-- ---- property-comp, its twelve lines in the order of the print
abbrev pub comparison : LeftSide → Operation → RightSide → Comparison
comparison a o r = record { left = a; operation = o; right = r }

unfoldable pub comparison_of : {s : Scan} {t e : Token} → Fits s (property_comp_rule s) t e → Comparison
comparison_of (left (join a (join o b))) = comparison (plain_left a) (array_operation o) (array_right b)
comparison_of (right (left (join a (join o b)))) = comparison (plain_left a) (array_operation o) (plain_right b)
comparison_of (right (right (left (join a (join o b))))) = comparison (plain_left a) (scalar_operation o) (literal_right b)
comparison_of (right (right (right (left (join a (join o b)))))) = comparison (plain_left a) (scalar_operation o) (plain_right b)
comparison_of (right (right (right (right (left (join a (join o b))))))) = comparison (element_left a) (scalar_operation o) (literal_right b)
comparison_of (right (right (right (right (right (left (join a (join o b)))))))) = comparison (element_left a) (scalar_operation o) (plain_right b)
comparison_of (right (right (right (right (right (right (left (join a (join o b))))))))) = comparison (element_left a) (scalar_operation o) (element_right b)
comparison_of (right (right (right (right (right (right (right (left (join a (join o b)))))))))) = comparison (each_left a) (scalar_operation o) (literal_right b)
comparison_of (right (right (right (right (right (right (right (right (left (join a (join o b))))))))))) = comparison (each_left a) (scalar_operation o) (plain_right b)
comparison_of (right (right (right (right (right (right (right (right (right (left (join a (join o b)))))))))))) = comparison (each_left a) (scalar_operation o) (element_right b)
comparison_of (right (right (right (right (right (right (right (right (right (right (left (join a (join o b))))))))))))) = comparison (plain_left a) (like_operation o) (pattern_right b)
comparison_of (right (right (right (right (right (right (right (right (right (right (right (join a (join o b))))))))))))) = comparison (element_left a) (like_operation o) (pattern_right b)

-- ---- fql: its comparisons in order
unfoldable pub bool_op_of : {s : Scan} {t e : Token} → Fits s bool_op t e → BoolOp
bool_op_of (left f) = And
bool_op_of (right f) = Or

-- those of an fql-expr, of which `end` says what becomes of the last
module _ {s : Scan} where
  unfoldable pub followed : {t m e : Token} → (end : Comparison → Comparisons) → Fits s (property_comp_rule s) t m → Fits s (many (then bool_op (property_comp_rule s))) m e → Comparisons
  followed end c stop = end (comparison_of c)
  followed end c (more (join o d) k) = Query.more (comparison_of c) (Inner (bool_op_of o)) (followed end d k)

unfoldable pub in_expr : {s : Scan} {t e : Token} → (end : Comparison → Comparisons) → Fits s (fql_expr s) t e → Comparisons
in_expr end (join c k) = followed end c k

-- the last one of a bracketed fql-expr, with those of the bracketed ones that follow
module _ {s : Scan} where
  unfoldable pub in_groups : {t e : Token} → Fits s (many (then bool_op (bracketed s))) t e → (Comparison → Comparisons)
  in_groups stop = only
  in_groups (more (join o (join a (join f b))) k) = λ c. Query.more c (Outer (bool_op_of o)) (in_expr (in_groups k) f)

unfoldable pub comparisons_in : {s : Scan} {t e : Token} → Fits s (fql s) t e → Comparisons
comparisons_in (left f) = in_expr only f
comparisons_in (right (join (join a (join f b)) k)) = in_expr (in_groups k) f

-- how many comparisons a query has
unfoldable pub number : Comparisons → ℕ
number (only c) = 1
number (Query.more c j l) = suc (number l)
