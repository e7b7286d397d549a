-- No token ends with whitespace.
use Prim.Native.Nat.{ℕ, ◌+◌, ◌-◌, ◌<◌}
use mathlib.Core.Path.{◌≡◌, refl, sym, ap, ◌∙◌, subst}
use mathlib.Core.List.{List}
use mathlib.Core.Bool.{Bool, true, false, ◌||◌, true≢false, false≢true}
use native.Mathlib.Omega.{arith}
use lib.ListN.{length, get_or}
use lib.Seq.{get_or-take, get_or-drop}
use lib.Dec.{ltb, leb, eqb}
use borrow.Author.Tests.{ltb-true}
use Rattle.base.specs.Pick.{pick}
use Rattle.base.specs.Part.{part, byte_at}
use Rattle.scan.specs.Class.{white, in_class, run}
use Rattle.scan.specs.declared.Class.TheVariants.{White}
use Rattle.scan.proofs.Alike.{word_stop}
use Rattle.numeral.specs.Abnf as numeral
use Rattle.numeral.proofs.Local.{Reader, outside, avoids, decimal_reader, binary_reader, hex_reader, real_reader}
use Rattle.string_literal.proofs.Fit.{terminal}
use Rattle.string_literal.specs.Abnf as string-of
use Rattle.token.specs.declared.TokenKind.{TokenKind}
use Rattle.token.specs.declared.TokenKind.TheVariants.{End}
use Rattle.token.specs.declared.Token.{Token}
use Rattle.token.specs.Token.{token, is_token, longest_at, token_from, token_at}
use Rattle.token.specs.Grammar.{Terminal, terminals, Stands, decimal, binary, hexadecimal, real, string, word, symbol}
use Rattle.token.proofs.Maximal.{All, no_more, and, of_all, longest_token}
use Rattle.token.proofs.Stands.{Standing}
use Rattle.conjunction_laws.proofs.Behind.{white_stops}

not_white : (b : ℕ) → (white b ≡ true → ⊥) → white b ≡ false
not_white b f = go (white b) refl
  where
    go : (c : Bool) → white b ≡ c → c ≡ false
    go true e = absurd (f e)
    go false e = refl

module _ (q : List ℕ) where
  number_last : {rule : numeral.Rule} {end : List ℕ → ℕ → ℕ} → Reader rule end → {s e : ℕ} → numeral.Fits q rule s e → white (byte_at q (e - 1)) ≡ false
  unfolding outside
  number_last R {s} {e} f =
      let w = R.longest q s e f in
      not_white (byte_at q (e - 1)) (λ h. avoids f R.stops (e - 1) (omega arith) (omega arith) (stops (eqb (byte_at q (e - 1)) 39) (white_stops (byte_at q (e - 1)) h)))
    where
      stops : (t : Bool) {c : Bool} → c ≡ true → (t || c) ≡ true
      stops true h = refl
      stops false h = h

  -- the closing quote
  quote_last : {a e : ℕ} → string-of.OneOf q (λ (v : ℕ). eqb v 39) a e → byte_at q (e - 1) ≡ 39
  quote_last {a} {e} f =
      let t = terminal q (omega arith) f in
      let z : a ≡ e - 1 = omega (arith, t.1) in
      ap (byte_at q) (sym z) ∙ t.0

  -- the last byte of a terminal
  record LastByte (x : Terminal) : Type 0 where
    pub some : 0 < length x.0
    pub last : white (get_or x.0 (length x.0 - 1) 0) ≡ false

  last_bytes : All LastByte terminals
  unfolding white
  last_bytes = and (b refl refl) (and (b refl refl) (and (b refl refl) (and (b refl refl) (and (b refl refl) (and (b refl refl) (and (b refl refl) (and (b refl refl) (and (b refl refl) (and (b refl refl) (and (b refl refl) (and (b refl refl) (and (b refl refl) (and (b refl refl) no_more)))))))))))))
    where
      b : {t : List ℕ} {k : TokenKind} → ltb 0 (length t) ≡ true → white (get_or t (length t - 1) 0) ≡ false → LastByte (t, k)
      b {t} l e = record { some = ltb-true 0 (length t) l; last = e }

  stands_last : {k : TokenKind} {s e : ℕ} → Stands q k s e → white (byte_at q (e - 1)) ≡ false
  unfolding white in_class
  stands_last (decimal f) = number_last decimal_reader f
  stands_last (binary f) = number_last binary_reader f
  stands_last (hexadecimal f) = number_last hex_reader f
  stands_last (real f) = number_last real_reader f
  stands_last (string (string-of.join f (string-of.join g (string-of.one h)))) = rw (quote_last h) refl
  stands_last (word {s = s} {e = e} l f m g) =
      let z : s + (e - 1 - s) ≡ e - 1 = omega arith in
      not_white (byte_at q (e - 1))
      (λ h. true≢false (sym (rw z at (f (e - 1 - s) (omega arith))) ∙ word_stop (byte_at q (e - 1)) (white_stops (byte_at q (e - 1)) h)))
  stands_last (symbol {t = t} {s = s} i p) =
      let u = of_all i last_bytes in
      let z : s + (length t - 1) ≡ s + length t - 1 = omega (arith, u.some) in
      ap (λ (n : ℕ). white (byte_at q n)) (sym z) ∙ ap white (sym (byte (length t - 1) (omega (arith, u.some)))) ∙ ap (λ (x : List ℕ). white (get_or x (length t - 1) 0)) p ∙ u.last
    where
      byte : (j : ℕ) → j < length t → get_or (part q s (length t)) j 0 ≡ byte_at q (s + j)
      byte j h = rw (get_or-take, get_or-drop)

  at_last : (at : ℕ) → is_token (token_at q at).kind ≡ true → white (byte_at q ((token_at q at).end - 1)) ≡ false
  unfolding token_at token_from is_token
  at_last at h = go (leb (length q) (run White q at)) h
    where
      go : (c : Bool) → is_token (pick c (token End (run White q at) (run White q at)) (longest_at q (run White q at))).kind ≡ true
          → white (byte_at q ((pick c (token End (run White q at) (run White q at)) (longest_at q (run White q at))).end - 1)) ≡ false
      go true h = absurd (false≢true h)
      go false h = stands_last ((longest_token q (run White q at)).stands h)

  pub token_last : (t : Token) → Standing q t → is_token t.kind ≡ true → white (byte_at q (t.end - 1)) ≡ false
  token_last t p h = subst (λ (u : Token). white (byte_at q (u.end - 1)) ≡ false) p (at_last t.start (ap (λ (u : Token). is_token u.kind) p ∙ h))
