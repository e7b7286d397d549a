-- DSP0212's first group (000 5.3.2) as ABNF (RFC 5234) over tokens: the rules under their names as 5.3.2 prints them, as data, and what fits one.
use Rattle.std.specs.Prelude.{◌≡◌, Bool, true, false, None, Option, Some}
use Rattle.token.specs.declared.Reserved.TheVariants.{And, Any, Every, Like, Not, Or}
use Rattle.token.specs.declared.Punctuation.TheVariants.{Open, Close, OpenIndex, CloseIndex, OpenList, CloseList, Comma, Dot}
use Rattle.token.specs.declared.TokenKind.{TokenKind}
use Rattle.token.specs.declared.TokenKind.TheVariants.{End, Name, Word, Text, Symbol}
use Rattle.token.specs.declared.Token.{Token}
use Rattle.token.specs.Token.{token}
use Rattle.terminal.specs.Terminal.{same, word, literal, comparing, equality}
use Rattle.syntax.specs.Scan.{Scan}
use Rattle.base.specs.declared.order.Operator.{Operator}

pub data Rule : Type 0 where
  set : (Token → Bool) → Rule
  then : Rule → Rule → Rule
  or : Rule → Rule → Rule
  maybe : Rule → Rule
  many : Rule → Rule

-- the tokens from one up to another fit a rule
pub data Fits (s : Scan) : Rule → Token → Token → Type 0 where
  one : {p : Token → Bool} {t : Token} → p t ≡ true → Fits s (set p) t (s.next t)
  join : {r x : Rule} {t m e : Token} → Fits s r t m → Fits s x m e → Fits s (then r x) t e
  left : {r x : Rule} {t e : Token} → Fits s r t e → Fits s (or r x) t e
  right : {r x : Rule} {t e : Token} → Fits s x t e → Fits s (or r x) t e
  none : {r : Rule} {t : Token} → Fits s (maybe r) t t
  just : {r : Rule} {t e : Token} → Fits s r t e → Fits s (maybe r) t e
  stop : {r : Rule} {t : Token} → Fits s (many r) t t
  more : {r : Rule} {t m e : Token} → Fits s r t m → Fits s (many r) m e → Fits s (many r) t e

abbrev pub is : TokenKind → Rule
is k = set (λ (t : Token). same t k)

abbrev pub operates : Option Operator → Bool
operates (Some o) = true
operates None = false

abbrev pub equates : Option Operator → Bool
equates (Some o) = equality o
equates None = false

-- scalar-comp-op = "=" / "<>" / "<" / ">" / "<=" / ">="; array-comp-op = "=" / "<>"
abbrev pub scalar_comp_op : Rule
scalar_comp_op = set (λ (t : Token). operates (comparing t))

abbrev pub array_comp_op : Rule
array_comp_op = set (λ (t : Token). equates (comparing t))

-- like-op = [NOT] LIKE; bool-op = AND / OR; array-op = [NOT] (ANY / EVERY)
abbrev pub like_op : Rule
like_op = then (maybe (is (Word Not))) (is (Word Like))

abbrev pub bool_op : Rule
bool_op = or (is (Word And)) (is (Word Or))

abbrev pub array_op : Rule
array_op = then (maybe (is (Word Not))) (or (is (Word Any)) (is (Word Every)))

-- class-name and property-name are words; a reserved one stands after a dot alone (5.3.1: it is then no reserved word but a name)
abbrev pub class_name_rule : Rule
class_name_rule = is Name

abbrev pub property_name : Rule
property_name = is Name

abbrev pub scoped_name : Rule
scoped_name = set word

abbrev pub dot_name : Rule
dot_name = then (is (Symbol Dot)) scoped_name

-- property = [ class-name "." ] property-name *( "." property-name ), without a class and with one
abbrev pub property : Rule
property = or (then property_name (many dot_name)) (then (then class_name_rule (is (Symbol Dot))) (then scoped_name (many dot_name)))

-- scalar-property = property, array-property = property: which is which is known from the table only
abbrev pub scalar_property : Rule
scalar_property = property

abbrev pub array_property : Rule
array_property = property

-- index = unsigned-integer
abbrev pub index : Scan → Rule
index s = set s.unsigned

-- "[" index "]"
abbrev pub in_brackets : Scan → Rule
in_brackets s = then (is (Symbol OpenIndex)) (then (index s) (is (Symbol CloseIndex)))

-- array-property "[" index "]"
abbrev pub element : Scan → Rule
element s = then array_property (in_brackets s)

-- like-pattern = like-literal, like-literal = string-literal
abbrev pub like_pattern : Rule
like_pattern = is Text

-- scalar-literal = boolean-literal / string-literal / integer-literal / real-literal / datetime-literal / reference-literal / NULL, as `literal` lists them
abbrev pub scalar_literal : Rule
scalar_literal = set literal

-- array-literal = "{" [scalar-literal *( ", " scalar-literal ) ] "}"; 01: its ", " is a comma
abbrev pub array_literal_rule : Rule
array_literal_rule = then (is (Symbol OpenList)) (then (maybe (then scalar_literal (many (then (is (Symbol Comma)) scalar_literal)))) (is (Symbol CloseList)))

abbrev pub line : Rule → Rule → Rule → Rule
line a o b = then a (then o b)

-- property-comp, its twelve lines in the order of the print
abbrev pub property_comp_rule : Scan → Rule
property_comp_rule s =
    or (line array_property array_comp_op array_literal_rule)
    (or (line array_property array_comp_op array_property)
    (or (line scalar_property scalar_comp_op scalar_literal)
    (or (line scalar_property scalar_comp_op scalar_property)
    (or (line (element s) scalar_comp_op scalar_literal)
    (or (line (element s) scalar_comp_op scalar_property)
    (or (line (element s) scalar_comp_op (element s))
    (or (line (then array_op array_property) scalar_comp_op scalar_literal)
    (or (line (then array_op array_property) scalar_comp_op scalar_property)
    (or (line (then array_op array_property) scalar_comp_op (element s))
    (or (line scalar_property like_op like_pattern)
    (line (element s) like_op like_pattern)))))))))))

-- fql-expr = property-comp *( bool-op property-comp )
abbrev pub fql_expr : Scan → Rule
fql_expr s = then (property_comp_rule s) (many (then bool_op (property_comp_rule s)))

-- "(" fql-expr ")"
abbrev pub bracketed : Scan → Rule
bracketed s = then (is (Symbol Open)) (then (fql_expr s) (is (Symbol Close)))

-- fql = fql-expr / "(" fql-expr ")" *( bool-op "(" fql-expr ")" )
abbrev pub fql : Scan → Rule
fql s = or (fql_expr s) (then (bracketed s) (many (then bool_op (bracketed s))))

-- all of a text's tokens fit `fql`
abbrev pub Derives : Scan → Type 0
Derives s = (e : Token) × Fits s (fql s) (s.next (token End 0 0)) e × (same e End ≡ true)
