-- What a token is in the grammar of DSP0212 5.3: the literals of the second group, and the terminals of the first, line by line under their rule names.
use Rattle.std.specs.Prelude.{ℕ, ◌+◌, ◌-◌, ◌≤◌, ◌<◌, ◌≡◌, List, [], ◌∷◌, ◌++◌, true, length}
use Rattle.base.specs.Ascii.{bytes}
use Rattle.base.specs.Part.{part, byte_at}
use Rattle.base.specs.declared.order.Operator.TheVariants.{Equal, Unequal, Less, AtMost, Greater, AtLeast}
use Rattle.record.specs.Name.{letter, name_byte}
use Rattle.numeral.specs.Abnf as Numeral
use Rattle.string_literal.specs.Abnf as Text
use Rattle.token.specs.declared.Form.TheVariants.{Decimal, Binary, Hex, Real}
use Rattle.token.specs.declared.Punctuation.TheVariants.{Open, Close, OpenIndex, CloseIndex, OpenList, CloseList, Comma, Dot}
use Rattle.token.specs.declared.TokenKind.{TokenKind}
use Rattle.token.specs.declared.TokenKind.TheVariants as Kind
use Rattle.token.specs.declared.Token.{Token}
use Rattle.token.specs.Token.{is_token, word_kind}

abbrev pub Terminal : Type 0
Terminal = List ℕ × TokenKind

-- scalar-comp-op = "=" / "<>" / "<" / ">" / "<=" / ">="; array-comp-op is its first two
abbrev pub scalar_comp_op : List Terminal
scalar_comp_op =
    (bytes "=", Kind.Compare Equal)
    ∷ (bytes "<>", Kind.Compare Unequal)
    ∷ (bytes "<", Kind.Compare Less)
    ∷ (bytes ">", Kind.Compare Greater)
    ∷ (bytes "<=", Kind.Compare AtMost)
    ∷ (bytes ">=", Kind.Compare AtLeast)
    ∷ []

-- "(" ")" of fql; "[" "]" of property-comp; "{" "," "}" of array-literal, whose ", " is a comma by 01; "." of property
abbrev pub punctuation : List Terminal
punctuation =
    (bytes "(", Kind.Symbol Open)
    ∷ (bytes ")", Kind.Symbol Close)
    ∷ (bytes "[", Kind.Symbol OpenIndex)
    ∷ (bytes "]", Kind.Symbol CloseIndex)
    ∷ (bytes "{", Kind.Symbol OpenList)
    ∷ (bytes "}", Kind.Symbol CloseList)
    ∷ (bytes ",", Kind.Symbol Comma)
    ∷ (bytes ".", Kind.Symbol Dot)
    ∷ []

abbrev pub terminals : List Terminal
terminals = scalar_comp_op ++ punctuation

pub data In {A : Type 0} (x : A) : List A → Type 0 where
  here : {l : List A} → In x (x ∷ l)
  there : {y : A} {l : List A} → In x l → In x (y ∷ l)

-- the text from s to e is a token of a kind. A word (class-name, property-name, or a reserved word of 5.3.1 in any case) is a letter or `_`, then
-- letters, digits or `_`; boolean-literal and NULL are among the reserved words
pub data Stands (q : List ℕ) : TokenKind → ℕ → ℕ → Type 0 where
  decimal : {s e : ℕ} → Numeral.Fits q Numeral.decimal_literal_rule s e → Stands q (Kind.Number Decimal) s e
  binary : {s e : ℕ} → Numeral.Fits q Numeral.binary_literal_rule s e → Stands q (Kind.Number Binary) s e
  hexadecimal : {s e : ℕ} → Numeral.Fits q Numeral.hex_literal_rule s e → Stands q (Kind.Number Hex) s e
  real : {s e : ℕ} → Numeral.Fits q Numeral.real_literal_rule s e → Stands q (Kind.Number Real) s e
  string : {s e : ℕ} → Text.Fits q Text.string_literal_rule s e → Stands q Kind.Text s e
  word : {k : TokenKind} {s e : ℕ} → letter (byte_at q s) ≡ true → ((i : ℕ) → s + i < e → name_byte (byte_at q (s + i)) ≡ true) → s < e
      → k ≡ word_kind (part q s (e - s)) → Stands q k s e
  symbol : {t : List ℕ} {k : TokenKind} {s : ℕ} → In (t, k) terminals → part q s (length t) ≡ t → Stands q k s (s + length t)

-- 01 "Query text": "Tokens are the longest that fit"
pub record Longest (q : List ℕ) (s : ℕ) (t : Token) : Type 0 where
  pub stands : is_token t.kind ≡ true → Stands q t.kind s t.end
  pub longest : {k : TokenKind} {e : ℕ} → Stands q k s e → e ≤ t.end
