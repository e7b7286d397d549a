-- The string rules of DSP0212 5.3.2 as data, line by line under their names, in ABNF (RFC 5234) over characters. 01 "Query text" decides three
-- points: `'` ends a string and `\` escapes, so neither is a UNICODE-CHAR there; "`\u` takes the longest run of 4 to 6 hex digits"; and that run
-- "must be a Unicode scalar value".
use Rattle.std.specs.Prelude.{ℕ, ◌+◌, ◌≤◌, ◌<◌, ◌≡◌, List, [], ◌∷◌, Bool, true, false, not, ◌&&◌, ◌||◌, eqb}
use Rattle.base.specs.Part.{byte_at}
use Rattle.base.specs.Digit.{value_of}
use Rattle.base.specs.Ascii.{bytes}
use Rattle.scan.specs.Class.{in_class}
use Rattle.scan.specs.declared.Class.TheVariants.{Digit}
use Rattle.encoding.specs.WellFormed.{sequence_at}
use Rattle.encoding.specs.Scalar.{scalar_at, is_scalar_value}
use Rattle.string_literal.specs.Char.{unicode_char}

-- a character of a set; one rule after another; alternatives; *( .. ); low*high(hex-digit)
pub data Rule : Type 0 where
  char : (ℕ → Bool) → Rule
  then : Rule → Rule → Rule
  or : Rule → Rule → Rule
  star : Rule → Rule
  hex_digits : ℕ → ℕ → Rule

-- from a to e stands one character of the set
pub record OneOf (q : List ℕ) (set : ℕ → Bool) (a e : ℕ) : Type 0 where
  pub sequence : sequence_at q a ≡ 0 → ⊥
  pub belongs : set (scalar_at q a) ≡ true
  pub ends : e ≡ a + sequence_at q a

-- from a to e stand n hex digits, the longest run of low to high, of a scalar value
pub record HexDigits (q : List ℕ) (low high a e : ℕ) : Type 0 where
  pub count : ℕ
  pub ends : e ≡ a + count
  pub enough : low ≤ count
  pub limited : count ≤ high
  pub digits : (i : ℕ) → i < count → in_class (Digit 16) (byte_at q (a + i)) ≡ true
  pub longest : count < high → in_class (Digit 16) (byte_at q (a + count)) ≡ false
  pub scalar : is_scalar_value (value_of 16 0 q a count) ≡ true

-- the text q from a to e fits a rule
pub data Fits (q : List ℕ) : Rule → ℕ → ℕ → Type 0 where
  one : {set : ℕ → Bool} {a e : ℕ} → OneOf q set a e → Fits q (char set) a e
  join : {r s : Rule} {a m e : ℕ} → Fits q r a m → Fits q s m e → Fits q (then r s) a e
  left : {r s : Rule} {a e : ℕ} → Fits q r a e → Fits q (or r s) a e
  right : {r s : Rule} {a e : ℕ} → Fits q s a e → Fits q (or r s) a e
  none : {r : Rule} {a : ℕ} → Fits q (star r) a a
  more : {r : Rule} {a m e : ℕ} → Fits q r a m → Fits q (star r) m e → Fits q (star r) a e
  hex : {low high a e : ℕ} → HexDigits q low high a e → Fits q (hex_digits low high) a e

-- whether a list has a member
unfoldable pub member : List ℕ → ℕ → Bool
member [] v = false
member (k ∷ ks) v = eqb v k || member ks v

-- a character of a text
abbrev pub exactly : ℕ → Rule
exactly k = char (λ (v : ℕ). eqb v k)

abbrev pub single_quote : Rule
single_quote = exactly 39

-- UNICODE-CHAR, other than `'` and `\`
abbrev pub UNICODE-CHAR : Rule
UNICODE-CHAR = char (λ (v : ℕ). unicode_char v && not (eqb v 39 || eqb v 92))

-- "\" / single-quote / "b" / "t" / "n" / "f" / "r"
abbrev pub escaped : List ℕ
escaped = bytes "\\'btnfr"

-- char-escape = "\" ( "\" / single-quote / "b" / "t" / "n" / "f" / "r" / "u" 4*6(hex-digit) )
abbrev pub char_escape : Rule
char_escape = then (exactly 92) (or (char (λ (v : ℕ). member escaped v)) (then (exactly 117) (hex_digits 4 6)))

-- string-literal = single-quote *( UNICODE-CHAR / char-escape ) single-quote
abbrev pub string_literal_rule : Rule
string_literal_rule = then single_quote (then (star (or UNICODE-CHAR char_escape)) single_quote)
