-- ABNF (RFC 5234) as far as DSP0212's second group needs it, and the number rules in it, as 5.3.2 prints them.
use Rattle.std.specs.Prelude.{ℕ, suc, ◌≡◌, List, Bool, true, eqb}
use Rattle.base.specs.Part.{byte_at}
use Rattle.scan.specs.Class.{in_class}
use Rattle.scan.specs.declared.Class.TheVariants.{Digit}
use Rattle.numeral.specs.Numeral.{one_of}

pub data Rule : Type 0 where
  set : (ℕ → Bool) → Rule
  then : Rule → Rule → Rule
  or : Rule → Rule → Rule
  maybe : Rule → Rule
  many : Rule → Rule

-- the text q from a to e fits a rule
pub data Fits (q : List ℕ) : Rule → ℕ → ℕ → Type 0 where
  one : {p : ℕ → Bool} {a : ℕ} → p (byte_at q a) ≡ true → Fits q (set p) a (suc a)
  join : {r s : Rule} {a m e : ℕ} → Fits q r a m → Fits q s m e → Fits q (then r s) a e
  left : {r s : Rule} {a e : ℕ} → Fits q r a e → Fits q (or r s) a e
  right : {r s : Rule} {a e : ℕ} → Fits q s a e → Fits q (or r s) a e
  none : {r : Rule} {a : ℕ} → Fits q (maybe r) a a
  just : {r : Rule} {a e : ℕ} → Fits q r a e → Fits q (maybe r) a e
  last : {r : Rule} {a e : ℕ} → Fits q r a e → Fits q (many r) a e
  more : {r : Rule} {a m e : ℕ} → Fits q r a m → Fits q (many r) m e → Fits q (many r) a e

abbrev pub digit : ℕ → Rule
digit base = set (λ (b : ℕ). in_class (Digit base) b)

-- a letter in either case, or one of two signs
abbrev pub either : ℕ → ℕ → Rule
either a c = set (λ (b : ℕ). one_of a c b)

abbrev pub exactly : ℕ → Rule
exactly k = set (λ (b : ℕ). eqb b k)

abbrev pub sign : Rule
sign = either 43 45

abbrev pub unsigned_integer_rule : Rule
unsigned_integer_rule = many (digit 10)

abbrev pub decimal_literal_rule : Rule
decimal_literal_rule = then (maybe sign) unsigned_integer_rule

abbrev pub binary_literal_rule : Rule
binary_literal_rule = then (maybe sign) (then (many (digit 2)) (either 66 98))

abbrev pub hex_literal_rule : Rule
hex_literal_rule = then (maybe sign) (then (exactly 48) (then (either 88 120) (many (then (digit 16) (digit 16)))))

abbrev pub exact_numeric_rule : Rule
exact_numeric_rule = or (then unsigned_integer_rule (then (exactly 46) (maybe unsigned_integer_rule))) (then (exactly 46) unsigned_integer_rule)

abbrev pub real_literal_rule : Rule
real_literal_rule = then (maybe sign) (then exact_numeric_rule (maybe (then (either 69 101) decimal_literal_rule)))
