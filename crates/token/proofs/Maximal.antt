-- The token at a place stands there by the grammar, and nothing that does ends later.
use Prim.Native.Nat.{ℕ, ◌+◌, ◌-◌, ◌≤◌, ◌<◌}
use mathlib.Core.Path.{◌≡◌, refl, sym, ap, ◌∙◌}
use mathlib.Core.List.{List, [], ◌∷◌}
use mathlib.Core.Bool.{Bool, true, false, ◌&&◌}
use native.Mathlib.Omega.{arith}
use lib.ListN.{length, get_or}
use mathlib.Core.Logic.{◌⊎◌, inl, inr}
use lib.Seq.{get_or-take, get_or-drop}
use lib.Dec.{ltb, eqb}
use borrow.Author.Tests.{ltb-true, ltb-false, eqb-true}
use Rattle.base.specs.Pick.{pick}
use Rattle.base.specs.Part.{part, byte_at}
use Rattle.base.proofs.Lists.{left_next}
use Rattle.base.proofs.Says.{and_both}
use Rattle.base.specs.declared.order.Operator.TheVariants.{Equal, Unequal, Less, AtMost, Greater, AtLeast}
use Rattle.record.specs.Name.{letter, name_byte}
use Rattle.scan.specs.Class.{run, in_class}
use Rattle.scan.specs.declared.Class.TheVariants as Class
use Rattle.scan.proofs.Runs.{run_holds, run_longest, word_no_zero}
use Rattle.string_literal.specs.Text.{string_literal}
use Rattle.string_literal.proofs.Bounds.{both_ways}
use Rattle.string_literal.proofs.Fit.{string_fits, fits_string}
use Rattle.numeral.specs.Numeral.{decimal_literal, binary_literal, hex_literal, real_literal}
use Rattle.numeral.proofs.Longest.{decimal_longest, binary_longest, hex_longest, real_longest}
use Rattle.numeral.proofs.Fit.{decimal_fit, binary_fit, hex_fit, real_fit}
use Rattle.token.specs.declared.Form.TheVariants.{Decimal, Binary, Hex, Real}
use Rattle.token.specs.declared.Punctuation.TheVariants.{Open, Close, OpenIndex, CloseIndex, OpenList, CloseList, Comma, Dot}
use Rattle.token.specs.declared.TokenKind.{TokenKind}
use Rattle.token.specs.declared.TokenKind.TheVariants.{NoToken, Number, Text, Compare, Symbol}
use Rattle.token.specs.declared.Token.{Token}
use Rattle.token.specs.Token.{token, is_token, fitted, longer, word_kind, word_token, number_token, text_token, pair_kind, single_kind, symbol_of, symbol_token, longest_at}
use Rattle.token.specs.Grammar.{Terminal, punctuation, terminals, In, here, there, Stands, decimal, binary, hexadecimal, real, string, word, symbol, Longest}
use Rattle.token.proofs.Spans.{no_end, longer_first, longer_second, pair_within, single_within}

-- a rule's match reaches its end
reaches : (k : TokenKind) (s e : ℕ) → e ≤ (fitted k s e).end
unfolding fitted
reaches k s e = go (ltb s e) refl
  where
    go : (m : Bool) → ltb s e ≡ m → e ≤ (pick m (token k s e) (token NoToken s s)).end
    go true h = omega arith
    go false h = ltb-false s e h

-- the kind of a terminal by its text
abbrev kind_of : List ℕ → TokenKind
kind_of [] = NoToken
kind_of (b ∷ []) = single_kind b
kind_of (b ∷ c ∷ []) = pair_kind b c
kind_of (b ∷ c ∷ d ∷ t) = NoToken

-- what holds of every member of a list
pub data All {A : Type 0} (P : A → Type 0) : List A → Type 0 where
  no_more : All P []
  and : {x : A} {l : List A} → P x → All P l → All P (x ∷ l)

pub of_all : {A : Type 0} {P : A → Type 0} {x : A} {l : List A} → In x l → All P l → P x
of_all here (and p a) = p
of_all (there i) (and p a) = of_all i a

-- every terminal's kind is the one of its text
record Right (x : Terminal) : Type 0 where
  pub kind : kind_of x.0 ≡ x.1
  pub some : is_token x.1 ≡ true

right : {t : List ℕ} {k : TokenKind} → kind_of t ≡ k → is_token k ≡ true → Right (t, k)
right e f = record { kind = e; some = f }

all_right : All Right terminals
unfolding single_kind pair_kind is_token
all_right =
    and (right refl refl) (and (right refl refl) (and (right refl refl) (and (right refl refl) (and (right refl refl) (and (right refl refl) (and (right refl refl)
    (and (right refl refl) (and (right refl refl) (and (right refl refl) (and (right refl refl) (and (right refl refl) (and (right refl refl) (and (right refl refl) no_more)))))))))))))

-- the text at a place starts with one or two bytes
one_byte : (q : List ℕ) (s b : ℕ) → b ≡ byte_at q s → s < length q → part q s 1 ≡ b ∷ []
one_byte q s b e h = rw (left_next q s h, e)

two_bytes_law : (q : List ℕ) (s b c : ℕ) → b ≡ byte_at q s → c ≡ byte_at q (s + 1) → s + 1 < length q → part q s 2 ≡ b ∷ c ∷ []
two_bytes_law q s b c e f h = let l : s < length q = omega arith in rw (left_next q s l, left_next q (s + 1) h, e, f)

module _ (q : List ℕ) (s : ℕ) where
  -- a token that is one stands there
  record Found (t : Token) : Type 0 where
    pub found : is_token t.kind ≡ true → Stands q t.kind s t.end

  none_found : Found (token NoToken s s)
  none_found = record { found = λ y. no_end y }

  fit_found : (k : TokenKind) (e : ℕ) → (s < e → Stands q k s e) → Found (fitted k s e)
  unfolding fitted
  fit_found k e f = both_ways Found (ltb s e) (token k s e) (token NoToken s s) (λ t. record { found = λ y. f (ltb-true s e t) }) (λ t. none_found)

  long_found : {a b : Token} → Found a → Found b → Found (longer a b)
  unfolding longer
  long_found {a} {b} f g = both_ways Found (ltb a.end b.end) b a (λ t. g) (λ t. f)

  number_found : Found (number_token q s)
  unfolding number_token
  number_found =
      long_found (fit_found (Number Decimal) (decimal_literal q s) (λ h. decimal (decimal_fit q s h)))
      (long_found (fit_found (Number Binary) (binary_literal q s) (λ h. binary (binary_fit q s h)))
      (long_found (fit_found (Number Hex) (hex_literal q s) (λ h. hexadecimal (hex_fit q s h))) (fit_found (Number Real) (real_literal q s) (λ h. real (real_fit q s h)))))

  word_found : Found (word_token q s)
  unfolding word_token in_class
  word_found =
      both_ways Found (letter (byte_at q s)) (fitted (word_kind (part q s (run Class.Word q s - s))) s (run Class.Word q s)) (token NoToken s s)
      (λ t. fit_found (word_kind (part q s (run Class.Word q s - s))) (run Class.Word q s) (λ h. word t (λ i l. run_holds Class.Word q s (s + i) (omega arith) l) h refl))
      (λ t. none_found)

  -- symbols: their kinds by their bytes, as terminals
  abbrev Single : TokenKind → Type 0
  Single k = is_token k ≡ true → In (byte_at q s ∷ [], k) terminals

  is_terminal : (b : ℕ) (k : TokenKind) → eqb (byte_at q s) b ≡ true → In (b ∷ [], k) terminals → Single k
  is_terminal b k e i y = rw (eqb-true (byte_at q s) b e) i

  single_terminal : Single (single_kind (byte_at q s))
  unfolding single_kind
  single_terminal =
      both_ways Single (eqb (byte_at q s) 61) (Compare Equal) _ (λ e. is_terminal 61 (Compare Equal) e here)
      (λ _. both_ways Single (eqb (byte_at q s) 60) (Compare Less) _ (λ e. is_terminal 60 (Compare Less) e (there (there here)))
      (λ _. both_ways Single (eqb (byte_at q s) 62) (Compare Greater) _ (λ e. is_terminal 62 (Compare Greater) e (there (there (there here))))
      (λ _. both_ways Single (eqb (byte_at q s) 40) (Symbol Open) _ (λ e. is_terminal 40 (Symbol Open) e (mark here))
      (λ _. both_ways Single (eqb (byte_at q s) 41) (Symbol Close) _ (λ e. is_terminal 41 (Symbol Close) e (mark (there here)))
      (λ _. both_ways Single (eqb (byte_at q s) 91) (Symbol OpenIndex) _ (λ e. is_terminal 91 (Symbol OpenIndex) e (mark (there (there here))))
      (λ _. both_ways Single (eqb (byte_at q s) 93) (Symbol CloseIndex) _ (λ e. is_terminal 93 (Symbol CloseIndex) e (mark (there (there (there here)))))
      (λ _. both_ways Single (eqb (byte_at q s) 123) (Symbol OpenList) _ (λ e. is_terminal 123 (Symbol OpenList) e (mark (there (there (there (there here))))))
      (λ _. both_ways Single (eqb (byte_at q s) 125) (Symbol CloseList) _ (λ e. is_terminal 125 (Symbol CloseList) e (mark (there (there (there (there (there here)))))))
      (λ _. both_ways Single (eqb (byte_at q s) 44) (Symbol Comma) _ (λ e. is_terminal 44 (Symbol Comma) e (mark (there (there (there (there (there (there here))))))))
      (λ _. both_ways Single (eqb (byte_at q s) 46) (Symbol Dot) NoToken (λ e. is_terminal 46 (Symbol Dot) e (mark (there (there (there (there (there (there (there here)))))))))
      (λ _ y. no_end y)))))))))))
    where
      -- punctuation stands behind the six operators
      mark : {x : Terminal} → In x punctuation → In x terminals
      mark i = there (there (there (there (there (there i)))))

  abbrev Pair : TokenKind → Type 0
  Pair k = is_token k ≡ true → In (byte_at q s ∷ byte_at q (s + 1) ∷ [], k) terminals

  pair_terminal : Pair (pair_kind (byte_at q s) (byte_at q (s + 1)))
  unfolding pair_kind
  pair_terminal =
      both_ways Pair (eqb (byte_at q (s + 1)) 62 && eqb (byte_at q s) 60) (Compare Unequal) _ (λ e. both 60 62 (Compare Unequal) e (there here))
      (λ _. both_ways Pair (eqb (byte_at q (s + 1)) 61 && eqb (byte_at q s) 60) (Compare AtMost) _ (λ e. both 60 61 (Compare AtMost) e (there (there (there (there here)))))
      (λ _. both_ways Pair (eqb (byte_at q (s + 1)) 61 && eqb (byte_at q s) 62) (Compare AtLeast) NoToken (λ e. both 62 61 (Compare AtLeast) e (there (there (there (there (there here))))))
      (λ _ y. no_end y)))
    where
      both : (b c : ℕ) (k : TokenKind) → (eqb (byte_at q (s + 1)) c && eqb (byte_at q s) b) ≡ true → In (b ∷ c ∷ [], k) terminals → Pair k
      both b c k e i y =
          let p = and_both (eqb (byte_at q (s + 1)) c) (eqb (byte_at q s) b) e in
          rw (eqb-true (byte_at q (s + 1)) c p.0, eqb-true (byte_at q s) b p.1) i

  symbol_found : Found (symbol_token q s)
  unfolding symbol_token symbol_of
  symbol_found =
      long_found
      (both_ways Found (is_token (pair_kind (byte_at q s) (byte_at q (s + 1)))) (token (pair_kind (byte_at q s) (byte_at q (s + 1))) s (s + 2)) (token NoToken s s)
      (λ t. let w = pair_within q s t in record { found = λ y. symbol (pair_terminal t) (two_bytes_law q s _ _ refl refl (omega arith)) })
      (λ t. none_found))
      (both_ways Found (is_token (single_kind (byte_at q s))) (token (single_kind (byte_at q s)) s (s + 1)) (token NoToken s s)
      (λ t. let w = single_within q s t in record { found = λ y. symbol (single_terminal t) (one_byte q s _ refl (omega arith)) })
      (λ t. none_found))

  longest_found : Found (longest_at q s)
  unfolding longest_at text_token
  longest_found =
      long_found word_found (long_found number_found (long_found (fit_found Text (string_literal q s) (λ h. string (string_fits q s h))) symbol_found))

  -- nothing longer
  word_in : (word_token q s).end ≤ (longest_at q s).end
  unfolding longest_at
  word_in = longer_first (word_token q s) (longer (number_token q s) (longer (text_token q s) (symbol_token q s)))

  number_in : (number_token q s).end ≤ (longest_at q s).end
  unfolding longest_at
  number_in =
      omega (
        arith,
        longer_second (word_token q s) (longer (number_token q s) (longer (text_token q s) (symbol_token q s))),
        longer_first (number_token q s) (longer (text_token q s) (symbol_token q s)),
      )

  text_in : (text_token q s).end ≤ (longest_at q s).end
  unfolding longest_at
  text_in =
      omega (
        arith,
        longer_second (word_token q s) (longer (number_token q s) (longer (text_token q s) (symbol_token q s))),
        longer_second (number_token q s) (longer (text_token q s) (symbol_token q s)),
        longer_first (text_token q s) (symbol_token q s),
      )

  symbol_in : (symbol_token q s).end ≤ (longest_at q s).end
  unfolding longest_at
  symbol_in =
      omega (
        arith,
        longer_second (word_token q s) (longer (number_token q s) (longer (text_token q s) (symbol_token q s))),
        longer_second (number_token q s) (longer (text_token q s) (symbol_token q s)),
        longer_second (text_token q s) (symbol_token q s),
      )

  abbrev D : Token
  D = fitted (Number Decimal) s (decimal_literal q s)

  abbrev B : Token
  B = fitted (Number Binary) s (binary_literal q s)

  abbrev H : Token
  H = fitted (Number Hex) s (hex_literal q s)

  abbrev R : Token
  R = fitted (Number Real) s (real_literal q s)

  number_no_longer : {e : ℕ} → (e ≤ D.end) ⊎ (e ≤ B.end) ⊎ (e ≤ H.end) ⊎ (e ≤ R.end) → e ≤ (longest_at q s).end
  unfolding number_token
  number_no_longer (inl l) = omega (arith, longer_first D (longer B (longer H R)), number_in)
  number_no_longer (inr (inl l)) = omega (arith, longer_second D (longer B (longer H R)), longer_first B (longer H R), number_in)
  number_no_longer (inr (inr (inl l))) = omega (arith, longer_second D (longer B (longer H R)), longer_second B (longer H R), longer_first H R, number_in)
  number_no_longer (inr (inr (inr l))) = omega (arith, longer_second D (longer B (longer H R)), longer_second B (longer H R), longer_second H R, number_in)

  word_no_longer : {e : ℕ} → letter (byte_at q s) ≡ true → ((i : ℕ) → s + i < e → name_byte (byte_at q (s + i)) ≡ true) → s < e → e ≤ (longest_at q s).end
  unfolding word_token in_class
  word_no_longer {e} h f l =
      let r : s + (e - s) ≤ run Class.Word q s = run_longest Class.Word word_no_zero q s (e - s) (λ i k. f i (omega arith)) in
      let w : run Class.Word q s ≤ (word_token q s).end = rw h (reaches (word_kind (part q s (run Class.Word q s - s))) s (run Class.Word q s)) in
      omega (arith, word_in)

  pub byte_of : (n i : ℕ) → i < n → get_or (part q s n) i 0 ≡ byte_at q (s + i)
  byte_of n i h = rw (get_or-take, get_or-drop)

  pub first_byte : (n b : ℕ) (l : List ℕ) → 0 < n → part q s n ≡ b ∷ l → byte_at q s ≡ b
  first_byte n b l h p = let z : s + 0 ≡ s = omega arith in ap (byte_at q) (sym z) ∙ sym (byte_of n 0 h) ∙ ap (λ (l : List ℕ). get_or l 0 0) p

  symbol_reaches : (k : TokenKind) (n : ℕ) → is_token k ≡ true → s + n ≤ (symbol_of k s n).end
  unfolding symbol_of
  symbol_reaches k n y = rw y (omega arith)

  symbol_no_longer : (t : List ℕ) {k : TokenKind} → kind_of t ≡ k → is_token k ≡ true → part q s (length t) ≡ t → s + length t ≤ (longest_at q s).end
  unfolding symbol_token
  symbol_no_longer [] e y p = no_end (rw (← e) at y)
  symbol_no_longer (b ∷ []) e y p =
      let f = first_byte 1 b [] (omega arith) p in
      let w = symbol_reaches (single_kind (byte_at q s)) 1 (rw (f, e) y) in
      omega (arith, symbol_in, longer_second (symbol_of (pair_kind (byte_at q s) (byte_at q (s + 1))) s 2) (symbol_of (single_kind (byte_at q s)) s 1))
  symbol_no_longer (b ∷ c ∷ []) e y p =
      let f = first_byte 2 b (c ∷ []) (omega arith) p in
      let g : byte_at q (s + 1) ≡ c = sym (byte_of 2 1 (omega arith)) ∙ ap (λ (l : List ℕ). get_or l 1 0) p in
      let w = symbol_reaches (pair_kind (byte_at q s) (byte_at q (s + 1))) 2 (rw (f, g, e) y) in
      omega (arith, symbol_in, longer_first (symbol_of (pair_kind (byte_at q s) (byte_at q (s + 1))) s 2) (symbol_of (single_kind (byte_at q s)) s 1))
  symbol_no_longer (b ∷ c ∷ d ∷ t) e y p = no_end (rw (← e) at y)

  no_longer : {k : TokenKind} {e : ℕ} → Stands q k s e → e ≤ (longest_at q s).end
  unfolding text_token
  no_longer (decimal f) = number_no_longer (inl (omega (arith, (decimal_longest q f).1, reaches (Number Decimal) s (decimal_literal q s))))
  no_longer (binary f) = number_no_longer (inr (inl (omega (arith, (binary_longest q f).1, reaches (Number Binary) s (binary_literal q s)))))
  no_longer (hexadecimal f) = number_no_longer (inr (inr (inl (omega (arith, (hex_longest q f).1, reaches (Number Hex) s (hex_literal q s))))))
  no_longer (real f) = number_no_longer (inr (inr (inr (omega (arith, (real_longest q f).1, reaches (Number Real) s (real_literal q s))))))
  no_longer (string f) = omega (arith, fits_string q f, reaches Text s (string_literal q s), text_in)
  no_longer (word h f l e) = word_no_longer h f l
  no_longer (symbol {t = t} i p) = let r = of_all i all_right in symbol_no_longer t r.kind r.some p

-- 01: "Tokens are the longest that fit"
pub longest_token : (q : List ℕ) (s : ℕ) → Longest q s (longest_at q s)
longest_token q s = record { stands = (longest_found q s).found; longest = no_longer q s }
