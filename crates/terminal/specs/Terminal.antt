-- The terminals of DSP0212's first grammar group (000 5.3.1, 5.3.2; 01 "Query text"): what a token can be to the grammar.
use Rattle.std.specs.Prelude.{ℕ, List, Bool, true, false, ◌&&◌, ◌||◌, eqb, None, Option, Some}
use Rattle.base.specs.Pick.{pick}
use Rattle.base.specs.Part.{byte_at}
use Rattle.scan.specs.Class.{in_class}
use Rattle.scan.specs.declared.Class.TheVariants.{Digit}
use Rattle.token.specs.declared.Reserved.{Reserved}
use Rattle.token.specs.declared.Reserved.TheVariants.{And, Any, Every, False, Like, Not, Null, Or, True}
use Rattle.token.specs.declared.Form.{Form}
use Rattle.token.specs.declared.Form.TheVariants.{Decimal, Binary, Hex, Real}
use Rattle.base.specs.declared.order.Operator.{Operator}
use Rattle.base.specs.declared.order.Operator.TheVariants.{Equal, Unequal, Less, AtMost, Greater, AtLeast}
use Rattle.token.specs.declared.Punctuation.{Punctuation}
use Rattle.token.specs.declared.Punctuation.TheVariants.{Open, Close, OpenIndex, CloseIndex, OpenList, CloseList, Comma, Dot}
use Rattle.token.specs.declared.TokenKind.{TokenKind}
use Rattle.token.specs.declared.TokenKind.TheVariants.{End, NoToken, Name, Word, Number, Text, Compare, Symbol}
use Rattle.token.specs.declared.Token.{Token}
use Rattle.terminal.specs.declared.quantifier.Quantifier.{Quantifier}
use Rattle.terminal.specs.declared.operator.BoolOp.{BoolOp}

-- A number for each kind. Kinds hold other enums, so a test of two kinds case by case would take every pair of cases; numbers are tested at once.
-- The law `code_tells` of proofs/KindCodes says that two kinds have one number only if they are equal.
abbrev pub word_code : Reserved → ℕ
word_code And = 4
word_code Any = 5
word_code Every = 6
word_code False = 7
word_code Like = 8
word_code Not = 9
word_code Null = 10
word_code Or = 11
word_code True = 12

abbrev pub form_code : Form → ℕ
form_code Decimal = 13
form_code Binary = 14
form_code Hex = 15
form_code Real = 16

abbrev pub operator_code : Operator → ℕ
operator_code Equal = 17
operator_code Unequal = 18
operator_code Less = 19
operator_code AtMost = 20
operator_code Greater = 21
operator_code AtLeast = 22

abbrev pub mark_code : Punctuation → ℕ
mark_code Open = 23
mark_code Close = 24
mark_code OpenIndex = 25
mark_code CloseIndex = 26
mark_code OpenList = 27
mark_code CloseList = 28
mark_code Comma = 29
mark_code Dot = 30

abbrev pub code : TokenKind → ℕ
code End = 0
code NoToken = 1
code Name = 2
code (Word w) = word_code w
code (Number f) = form_code f
code Text = 3
code (Compare o) = operator_code o
code (Symbol m) = mark_code m

-- a token is of a kind
unfoldable pub same : Token → TokenKind → Bool
same t k = eqb (code t.kind) (code k)

-- class-name, property-name after a dot: any word, a reserved one too (5.3.1)
abbrev pub word_kind : TokenKind → Bool
word_kind End = false
word_kind NoToken = false
word_kind Name = true
word_kind (Word w) = true
word_kind (Number f) = false
word_kind Text = false
word_kind (Compare o) = false
word_kind (Symbol m) = false

unfoldable pub word : Token → Bool
word t = word_kind t.kind

-- boolean-literal / NULL
abbrev pub literal_word : Reserved → Bool
literal_word And = false
literal_word Any = false
literal_word Every = false
literal_word False = true
literal_word Like = false
literal_word Not = false
literal_word Null = true
literal_word Or = false
literal_word True = true

-- scalar-literal = boolean-literal / string-literal / integer-literal / real-literal / datetime-literal / reference-literal / NULL
abbrev pub literal_kind : TokenKind → Bool
literal_kind End = false
literal_kind NoToken = false
literal_kind Name = false
literal_kind (Word w) = literal_word w
literal_kind (Number f) = true
literal_kind Text = true
literal_kind (Compare o) = false
literal_kind (Symbol m) = false

unfoldable pub literal : Token → Bool
literal t = literal_kind t.kind

-- scalar-comp-op = "=" / "<>" / "<" / ">" / "<=" / ">="
abbrev pub comparing_kind : TokenKind → Option Operator
comparing_kind End = None
comparing_kind NoToken = None
comparing_kind Name = None
comparing_kind (Word w) = None
comparing_kind (Number f) = None
comparing_kind Text = None
comparing_kind (Compare o) = Some o
comparing_kind (Symbol m) = None

unfoldable pub comparing : Token → Option Operator
comparing t = comparing_kind t.kind

-- array-comp-op = "=" / "<>"
abbrev pub equality : Operator → Bool
equality Equal = true
equality Unequal = true
equality Less = false
equality AtMost = false
equality Greater = false
equality AtLeast = false

-- bool-op = AND / OR
unfoldable pub joining : Token → Option BoolOp
joining t = pick (same t (Word And)) (Some BoolOp.And) (pick (same t (Word Or)) (Some BoolOp.Or) None)

-- ANY / EVERY, or neither
unfoldable pub quantifying : Token → Quantifier
quantifying t = pick (same t (Word Any)) Quantifier.Any (pick (same t (Word Every)) Quantifier.Every Quantifier.Single)

-- what a property-comp starts with: a name, NOT, ANY, EVERY
unfoldable pub opening : Token → Bool
opening t = same t Name || (same t (Word Not) || (same t (Word Any) || same t (Word Every)))

-- index = unsigned-integer: a decimal number with no sign
unfoldable pub unsigned : List ℕ → Token → Bool
unsigned q t = same t (Number Decimal) && in_class (Digit 10) (byte_at q t.start)

-- a token that may stand in an fql-expr, as far as its kind tells: all but ")", the end and what is no token
abbrev pub inside : TokenKind → Bool
inside End = false
inside NoToken = false
inside Name = true
inside (Word w) = true
inside (Number f) = true
inside Text = true
inside (Compare o) = true
inside (Symbol Open) = true
inside (Symbol Close) = false
inside (Symbol OpenIndex) = true
inside (Symbol CloseIndex) = true
inside (Symbol OpenList) = true
inside (Symbol CloseList) = true
inside (Symbol Comma) = true
inside (Symbol Dot) = true
