-- The first byte tells which kinds of token can stand at a place: the other kinds are empty there.
use Prim.Native.Nat.{ℕ, ◌+◌, ◌≤◌, ◌<◌}
use mathlib.Core.Path.{◌≡◌, refl, sym, ap, ◌∙◌}
use mathlib.Core.List.{List}
use mathlib.Core.Bool.{Bool, true, false, ◌||◌, true≢false}
use native.Mathlib.Omega.{arith}
use lib.Dec.{ltb, eqb}
use borrow.Author.Tests.{le-ltb, lt-ltb, lt-leb, ne_eqb}
use Rattle.base.specs.Pick.{pick}
use Rattle.base.specs.Part.{byte_at}
use Rattle.base.specs.Range.{within}
use Rattle.base.specs.Digit.{digit_of}
use Rattle.base.proofs.Says.{and_false, or_neither}
use Rattle.base.proofs.DecimalDigits.{decimal_digit, is_decimal}
use Rattle.record.specs.Name.{letter}
use Rattle.scan.specs.Class.{in_class}
use Rattle.scan.specs.declared.Class.TheVariants as Class
use Rattle.string_literal.specs.Text.{string_literal}
use Rattle.numeral.specs.Numeral.{one_of, decimal_literal, binary_literal, hex_literal, real_literal}
use Rattle.numeral.proofs.Alone.{no_decimal, no_binary, no_hex, no_real}
use Rattle.token.specs.declared.Form.TheVariants.{Real}
use Rattle.token.specs.declared.Punctuation.TheVariants.{Dot}
use Rattle.token.specs.declared.TokenKind.{TokenKind}
use Rattle.token.specs.declared.TokenKind.TheVariants.{NoToken, Number, Symbol}
use Rattle.token.specs.declared.Token.{Token}
use Rattle.token.specs.Token.{token, is_token, fitted, longer, word_token, number_token, text_token, pair_kind, single_kind, symbol_of, symbol_token, longest_at, Spans}

-- a digit or a sign, as the code tests the byte
pub number_begins : (b : ℕ) {d o : Bool} → d ≡ within 48 57 b → o ≡ one_of 43 45 b → (d || o) ≡ (in_class (Class.Digit 10) b || one_of 43 45 b)
unfolding in_class
number_begins b e f = rw (is_decimal b e, f) refl

module _ (s : ℕ) where
  abbrev pub none : Token
  none = token NoToken s s

  pub no_longer : longer none none ≡ none
  unfolding longer
  no_longer = rw (le-ltb s s (omega arith)) refl

  none_fitted : (k : TokenKind) → fitted k s s ≡ none
  unfolding fitted
  none_fitted k = rw (le-ltb s s (omega arith)) refl

  pub none_behind : (t : Token) → s ≤ t.end → longer t none ≡ t
  unfolding longer
  none_behind t h = rw (le-ltb t.end s h) refl

  -- a match that has not moved is none, so none before it changes nothing
  abbrev Settled : Token → Type 0
  Settled t = longer none t ≡ t

  fitted_settled : (k : TokenKind) (e : ℕ) → Settled (fitted k s e)
  unfolding fitted longer
  fitted_settled k e = go (ltb s e) refl
    where
      go : (m : Bool) → ltb s e ≡ m → longer none (pick m (token k s e) none) ≡ pick m (token k s e) none
      go true h = rw h refl
      go false h = no_longer

  pub symbol_settled : (k : TokenKind) (n : ℕ) → 0 < n → Settled (symbol_of k s n)
  unfolding symbol_of longer
  symbol_settled k n h = go (is_token k)
    where
      go : (m : Bool) → longer none (pick m (token k s (s + n)) none) ≡ pick m (token k s (s + n)) none
      go true = rw (lt-ltb s (s + n) (omega arith)) refl
      go false = no_longer

  longer_settled : (a b : Token) → Settled a → Settled b → Settled (longer a b)
  unfolding longer
  longer_settled a b f g = go (ltb a.end b.end)
    where
      go : (m : Bool) → Settled (pick m b a)
      go true = g
      go false = f

-- a digit or a sign
abbrev starts : ℕ → Bool
starts b = in_class (Class.Digit 10) b || one_of 43 45 b

-- the first byte of a word, of a number, or of a string
abbrev opens : ℕ → Bool
opens b = letter b || (starts b || eqb b 39)

other : (p : ℕ → Bool) (b k : ℕ) → p b ≡ true → p k ≡ false → eqb b k ≡ false
other p b k h f = ne_eqb b k (λ e. true≢false (sym h ∙ ap p e ∙ f))

opens_no_single : (b : ℕ) → opens b ≡ true → single_kind b ≡ NoToken
unfolding single_kind letter in_class digit_of within
opens_no_single b h = let o = other opens b in rw (o 61 h refl, o 60 h refl, o 62 h refl, o 40 h refl, o 41 h refl, o 91 h refl, o 93 h refl, o 123 h refl, o 125 h refl, o 44 h refl, o 46 h refl) refl

opens_no_pair : (b c : ℕ) → opens b ≡ true → pair_kind b c ≡ NoToken
unfolding pair_kind letter in_class digit_of within
opens_no_pair b c h = let o = other opens b in rw (o 60 h refl, o 62 h refl, and_false (eqb c 62), and_false (eqb c 61)) refl

-- a letter is no digit
letter_no_digit : (b : ℕ) → letter b ≡ true → in_class (Class.Digit 10) b ≡ false
unfolding in_class letter within
letter_no_digit b h = go (ltb (digit_of b) 10) refl
  where
    go : (t : Bool) → ltb (digit_of b) 10 ≡ t → t ≡ false
    go true e =
        let d = (decimal_digit b).to e in
        absurd (true≢false (sym h ∙ rw (lt-leb 65 b (omega (arith, d.1)), lt-leb 97 b (omega (arith, d.1)), ne_eqb b 95 (λ z. omega (arith, d.1))) refl))
    go false e = refl

module _ (q : List ℕ) (s : ℕ) where
  abbrev first : ℕ
  first = byte_at q s

  no_word : letter first ≡ false → word_token q s ≡ none s
  unfolding word_token
  no_word h = rw h refl

  no_text : eqb first 39 ≡ false → text_token q s ≡ none s
  unfolding text_token string_literal
  no_text h = rw h (none_fitted s _)

  no_symbol : opens first ≡ true → symbol_token q s ≡ none s
  unfolding symbol_token symbol_of is_token
  no_symbol h = rw (opens_no_pair first (byte_at q (s + 1)) h, opens_no_single first h) (no_longer s)

  point_symbol : first ≡ 46 → symbol_token q s ≡ symbol_of (Symbol Dot) s 1
  unfolding symbol_token pair_kind single_kind symbol_of is_token
  point_symbol h = rw (h, and_false (eqb (byte_at q (s + 1)) 62), and_false (eqb (byte_at q (s + 1)) 61)) (symbol_settled s (Symbol Dot) 1 (omega arith))

  no_number : in_class (Class.Digit 10) first ≡ false → one_of 43 45 first ≡ false → eqb first 46 ≡ false → number_token q s ≡ none s
  unfolding number_token
  no_number d n p =
      rw (no_decimal q s d n, no_binary q s d n, no_hex q s d n, no_real q s d n p)
      (rw (none_fitted s _, none_fitted s _, none_fitted s _, none_fitted s _) (rw (no_longer s, no_longer s) (no_longer s)))

  number_settled : Settled s (number_token q s)
  unfolding number_token
  number_settled =
      longer_settled s _ _ (fitted_settled s _ (decimal_literal q s))
      (longer_settled s _ _ (fitted_settled s _ (binary_literal q s))
      (longer_settled s _ _ (fitted_settled s _ (hex_literal q s)) (fitted_settled s _ (real_literal q s))))

  symbols_settled : Settled s (symbol_token q s)
  unfolding symbol_token
  symbols_settled = longer_settled s _ _ (symbol_settled s (pair_kind first (byte_at q (s + 1))) 2 (omega arith)) (symbol_settled s (single_kind first) 1 (omega arith))

  text_settled : Settled s (text_token q s)
  unfolding text_token
  text_settled = fitted_settled s _ (string_literal q s)

  -- what stands there, as the code learns it
  module _ {t : Token} where
    pub by_letter : {n : ℕ} → letter first ≡ true → t ≡ word_token q s → Spans n s t → t ≡ longest_at q s
    unfolding longest_at letter within
    by_letter h e w =
        let o = other letter first in
        let d = letter_no_digit first h in
        let u = no_number d (rw (o 43 h refl) (o 45 h refl)) (o 46 h refl) in
        rw (u, no_text (o 39 h refl), no_symbol (rw h refl)) (rw (no_longer s) (rw (no_longer s) (rw (← e) (sym (none_behind s t w.ends)))))

    pub by_digit_or_sign : {n : ℕ} → letter first ≡ false → starts first ≡ true → t ≡ number_token q s → Spans n s t → t ≡ longest_at q s
    unfolding longest_at in_class digit_of within
    by_digit_or_sign l h e w =
        rw (no_word l, no_text (other starts first 39 h refl), no_symbol (rw (l, h) refl))
        (rw (no_longer s) (rw (← e) (rw (none_behind s t w.ends) (rw e (sym number_settled)))))

    pub by_quote : {n : ℕ} → letter first ≡ false → first ≡ 39 → t ≡ text_token q s → Spans n s t → t ≡ longest_at q s
    unfolding longest_at in_class digit_of within letter
    by_quote l h e w =
        rw (no_word l, no_number (rw h refl) (rw h refl) (rw h refl), no_symbol (rw h refl))
        (rw (← e) (rw (none_behind s t w.ends) (rw e (rw text_settled (sym text_settled)))))

    pub by_point : first ≡ 46 → t ≡ longer (fitted (Number Real) s (real_literal q s)) (symbol_of (Symbol Dot) s 1) → t ≡ longest_at q s
    unfolding longest_at number_token in_class digit_of within letter
    by_point h e =
        let d : in_class (Class.Digit 10) first ≡ false = rw h refl in
        let n : one_of 43 45 first ≡ false = rw h refl in
        let r = fitted_settled s (Number Real) (real_literal q s) in
        rw (no_word (rw h refl), no_decimal q s d n, no_binary q s d n, no_hex q s d n, no_text (rw h refl), point_symbol h)
        (rw (none_fitted s _, none_fitted s _, none_fitted s _) (rw r (rw r (rw r (rw (symbol_settled s (Symbol Dot) 1 (omega arith)) (e ∙ sym (longer_settled s _ _ r (symbol_settled s (Symbol Dot) 1 (omega arith)))))))))

    pub by_symbol : letter first ≡ false → starts first ≡ false → (first ≡ 39 → ⊥) → (first ≡ 46 → ⊥) → t ≡ symbol_token q s → t ≡ longest_at q s
    unfolding longest_at
    by_symbol l d h p e =
        let z = or_neither (in_class (Class.Digit 10) first) (one_of 43 45 first) d in
        rw (no_word l, no_text (ne_eqb first 39 h), no_number z.0 z.1 (ne_eqb first 46 p)) (rw symbols_settled (rw symbols_settled (e ∙ sym symbols_settled)))
