-- The tokens of a query: at each place the longest that fits.
use Rattle.std.specs.Prelude.{ℕ, ◌+◌, ◌-◌, ◌≤◌, ◌≡◌, List, Bool, true, false, ◌&&◌, length, ltb, leb, eqb}
use Rattle.base.specs.Pick.{pick}
use Rattle.base.specs.Ascii.{bytes}
use Rattle.base.specs.Part.{part, byte_at}
use Rattle.record.specs.Name.{letter, same_name}
use Rattle.scan.specs.Class.{run}
use Rattle.scan.specs.declared.Class.TheVariants as Class
use Rattle.string_literal.specs.Text.{string_literal}
use Rattle.numeral.specs.Numeral.{decimal_literal, binary_literal, hex_literal, real_literal}
use Rattle.token.specs.declared.Reserved.TheVariants.{And, Any, Every, False, Like, Not, Null, Or, True}
use Rattle.token.specs.declared.Form.TheVariants.{Decimal, Binary, Hex, Real}
use Rattle.base.specs.declared.order.Operator.TheVariants.{Equal, Unequal, Less, AtMost, Greater, AtLeast}
use Rattle.token.specs.declared.Punctuation.TheVariants.{Open, Close, OpenIndex, CloseIndex, OpenList, CloseList, Comma, Dot}
use Rattle.token.specs.declared.TokenKind.{TokenKind}
use Rattle.token.specs.declared.TokenKind.TheVariants.{End, NoToken, Name, Word, Number, Text, Compare, Symbol}
use Rattle.token.specs.declared.Token.{Token}

abbrev pub token : TokenKind → ℕ → ℕ → Token
token k s e = record { kind = k; start = s; end = e }

-- a token stands there
unfoldable pub is_token : TokenKind → Bool
is_token End = false
is_token NoToken = false
is_token Name = true
is_token (Word w) = true
is_token (Number f) = true
is_token Text = true
is_token (Compare o) = true
is_token (Symbol m) = true

-- a rule's match as a token, if it has moved
unfoldable pub fitted : TokenKind → ℕ → ℕ → Token
fitted k s e = pick (ltb s e) (token k s e) (token NoToken s s)

-- the longer of two matches, the first of equals
unfoldable pub longer : Token → Token → Token
longer a b = pick (ltb a.end b.end) b a

-- reserved words (5.3.1), in any case, and names
unfoldable pub word_kind : List ℕ → TokenKind
word_kind w =
    pick (same_name w (bytes "AND")) (Word And)
    (pick (same_name w (bytes "ANY")) (Word Any)
    (pick (same_name w (bytes "EVERY")) (Word Every)
    (pick (same_name w (bytes "FALSE")) (Word False)
    (pick (same_name w (bytes "LIKE")) (Word Like)
    (pick (same_name w (bytes "NOT")) (Word Not)
    (pick (same_name w (bytes "NULL")) (Word Null)
    (pick (same_name w (bytes "OR")) (Word Or)
    (pick (same_name w (bytes "TRUE")) (Word True) Name))))))))

-- a letter or `_`, then letters, digits or `_`
unfoldable pub word_token : List ℕ → ℕ → Token
word_token q s =
    pick (letter (byte_at q s)) (fitted (word_kind (part q s (run Class.Word q s - s))) s (run Class.Word q s)) (token NoToken s s)

-- integer-literal / real-literal
unfoldable pub number_token : List ℕ → ℕ → Token
number_token q s =
    longer (fitted (Number Decimal) s (decimal_literal q s))
    (longer (fitted (Number Binary) s (binary_literal q s))
    (longer (fitted (Number Hex) s (hex_literal q s)) (fitted (Number Real) s (real_literal q s))))

unfoldable pub text_token : List ℕ → ℕ → Token
text_token q s = fitted Text s (string_literal q s)

-- "<>" "<=" ">="
unfoldable pub pair_kind : ℕ → ℕ → TokenKind
pair_kind b c =
    pick (◌&&◌ (eqb c 62) (eqb b 60)) (Compare Unequal)
    (pick (◌&&◌ (eqb c 61) (eqb b 60)) (Compare AtMost)
    (pick (◌&&◌ (eqb c 61) (eqb b 62)) (Compare AtLeast) NoToken))

-- "=" "<" ">" "(" ")" "[" "]" "{" "}" "," "."
unfoldable pub single_kind : ℕ → TokenKind
single_kind b =
    pick (eqb b 61) (Compare Equal)
    (pick (eqb b 60) (Compare Less)
    (pick (eqb b 62) (Compare Greater)
    (pick (eqb b 40) (Symbol Open)
    (pick (eqb b 41) (Symbol Close)
    (pick (eqb b 91) (Symbol OpenIndex)
    (pick (eqb b 93) (Symbol CloseIndex)
    (pick (eqb b 123) (Symbol OpenList)
    (pick (eqb b 125) (Symbol CloseList)
    (pick (eqb b 44) (Symbol Comma)
    (pick (eqb b 46) (Symbol Dot) NoToken))))))))))

-- a symbol of n bytes, if its kind is one
unfoldable pub symbol_of : TokenKind → ℕ → ℕ → Token
symbol_of k s n = pick (is_token k) (token k s (s + n)) (token NoToken s s)

unfoldable pub symbol_token : List ℕ → ℕ → Token
symbol_token q s = longer (symbol_of (pair_kind (byte_at q s) (byte_at q (s + 1))) s 2) (symbol_of (single_kind (byte_at q s)) s 1)

-- the longest token at a place
unfoldable pub longest_at : List ℕ → ℕ → Token
longest_at q s = longer (word_token q s) (longer (number_token q s) (longer (text_token q s) (symbol_token q s)))

unfoldable pub token_from : List ℕ → ℕ → Token
token_from q s = pick (leb (length q) s) (token End s s) (longest_at q s)

-- the first token from a place on, whitespace skipped
unfoldable pub token_at : List ℕ → ℕ → Token
token_at q at = token_from q (run Class.White q at)

-- words and numbers, two of which do not touch
unfoldable pub word_or_number : TokenKind → Bool
word_or_number End = false
word_or_number NoToken = false
word_or_number Name = true
word_or_number (Word w) = true
word_or_number (Number f) = true
word_or_number Text = false
word_or_number (Compare o) = false
word_or_number (Symbol m) = false

-- a token after another that ends at `end` and is a word or number, or is not
unfoldable pub apart : Bool → ℕ → Token → Token
apart before end t =
    pick ((before && word_or_number t.kind) && eqb t.start end) (token NoToken t.start t.start) t

-- the token after another
unfoldable pub token_after : List ℕ → Token → Token
token_after q t = apart (word_or_number t.kind) t.end (token_at q t.end)

-- a token found at s in n bytes: its bounds, and that it has moved exactly where one stands there
pub record Spans (n s : ℕ) (t : Token) : Type 0 where
  pub begins : t.start ≡ s
  pub ends : s ≤ t.end
  pub within : t.end ≤ n
  pub moves : is_token t.kind ≡ ltb s t.end

-- a token found at `at` or after it
pub record SpansFrom (n at : ℕ) (t : Token) : Type 0 where
  pub begins : at ≤ t.start
  pub ends : t.start ≤ t.end
  pub within : t.end ≤ n
  pub moves : is_token t.kind ≡ ltb t.start t.end

-- the same, where the place is within the text
abbrev pub SpansIf : ℕ → ℕ → Token → Type 0
SpansIf n at t = at ≤ n → SpansFrom n at t
