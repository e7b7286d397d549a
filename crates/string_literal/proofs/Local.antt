-- A string literal that ends before the stop of two texts that are alike is one in both, of the same characters.
use Prim.Native.Nat.{ℕ, ◌+◌, ◌-◌, ◌≤◌, ◌<◌}
use mathlib.Core.Path.{◌≡◌, refl, sym, ap, ◌∙◌}
use mathlib.Core.List.{List, ◌∷◌}
use mathlib.Core.Bool.{Bool, true, false}
use native.Mathlib.Omega.{arith}
use lib.ListN.{length}
use lib.Dec.{ltb, eqb}
use borrow.Author.Tests.{ltb-false, eqb-false}
use Rattle.base.specs.Pick.{pick}
use Rattle.base.specs.Part.{byte_at}
use Rattle.base.specs.Digit.{value_of}
use Rattle.scan.specs.Class.{run}
use Rattle.scan.specs.declared.Class.TheVariants.{Digit}
use Rattle.scan.proofs.Runs.{run_from}
use Rattle.scan.proofs.Alike.{Alike, digits_within_law, digits_alike, value_alike, part_alike}
use Rattle.encoding.specs.WellFormed.{sequence_at}
use Rattle.encoding.specs.Scalar.{scalar_at, is_scalar_value}
use Rattle.encoding.proofs.SameSequence.{same_sequence, same_scalar}
use Rattle.string_literal.specs.declared.InString.{InString}
use Rattle.string_literal.specs.declared.InString.TheVariants.{Character, Close, Bad}
use Rattle.string_literal.specs.Char.{unicode_char, raw_at, plain_escape, hex_run, unicode_escape, escape_at, char_at}
use Rattle.string_literal.specs.Text.{Text, character, closed, spoiled, text_at, characters_of, end_or, string_literal}
use Rattle.string_literal.specs.Abnf.{OneOf, Fits, one, single_quote}
use Rattle.string_literal.proofs.Bounds.{text_character, text_close}
use Rattle.string_literal.proofs.Fit.{char_fits, is_close}
use Rattle.string_literal.proofs.Induction.{text_through}

-- the same character, as far on from b as from a
abbrev SameChar : (a b : ℕ) → InString → InString → Type 0
SameChar a b (Character v next) y = (n : ℕ) → next + b ≡ n + a → y ≡ Character v n
SameChar a b Close y = y ≡ Close
SameChar a b Bad y = Unit

-- where a character ends; its own place where there is none
abbrev reach : ℕ → InString → ℕ
reach at (Character v next) = next
reach at Close = at
reach at Bad = at

-- a text that is closed, with the place behind its quote
unfoldable Closes : Text → ℕ → Type 0
Closes (character v t) e = Closes t e
Closes (closed n) e = n ≡ e
Closes spoiled e = ⊥

closes_at : (none : ℕ) (t : Text) → none < end_or none t → Closes t (end_or none t)
unfolding Closes end_or
closes_at none (character v t) h = closes_at none t h
closes_at none (closed n) h = refl
closes_at none spoiled h = omega arith

ends_there : (none : ℕ) (t : Text) (e : ℕ) → Closes t e → end_or none t ≡ e
unfolding Closes end_or
ends_there none (character v t) e h = ends_there none t e h
ends_there none (closed n) e h = h
ends_there none spoiled e h = absurd h

module _ {q r : List ℕ} {a b k l : ℕ} (A : Alike q r a b k l) where
  pub sequence_alike : (i j : ℕ) → a ≤ i → i + b ≡ j + a → (sequence_at q i ≡ 0 → ⊥) → i + sequence_at q i ≤ k → sequence_at r j ≡ sequence_at q i
  sequence_alike i j s x z w = same_sequence q i r j (part_alike A i j (sequence_at q i) s w x) z

  scalar_alike : (i j : ℕ) → a ≤ i → i + b ≡ j + a → (sequence_at q i ≡ 0 → ⊥) → i + sequence_at q i ≤ k → scalar_at r j ≡ scalar_at q i
  scalar_alike i j s x z w = same_scalar q i r j (part_alike A i j (sequence_at q i) s w x) z

  raw_alike : (i j : ℕ) → a ≤ i → i + b ≡ j + a → reach i (raw_at q i) ≤ k → SameChar a b (raw_at q i) (raw_at r j)
  unfolding raw_at
  raw_alike i j s x w = go (eqb (sequence_at q i) 0) refl (unicode_char (scalar_at q i)) refl w
    where
      go : (c : Bool) → eqb (sequence_at q i) 0 ≡ c → (d : Bool) → unicode_char (scalar_at q i) ≡ d
          → reach i (pick c Bad (pick d (Character (scalar_at q i) (i + sequence_at q i)) Bad)) ≤ k
          → SameChar a b (pick c Bad (pick d (Character (scalar_at q i) (i + sequence_at q i)) Bad)) (raw_at r j)
      go true e d f w = tt
      go false e false f w = tt
      go false e true f w = λ n y.
          let z : j + sequence_at q i ≡ n = omega arith in
          let m = eqb-false (sequence_at q i) 0 e in
          rw (sequence_alike i j s x m w, scalar_alike i j s x m w, e, f, z) refl

  hex_run_alike : (i j : ℕ) → a ≤ i → i ≤ k → i + b ≡ j + a → hex_run q i ≡ hex_run r j
  unfolding hex_run
  hex_run_alike i j s w x =
      let d = digits_alike A 16 (omega arith) i j s w x in
      let f = run_from (Digit 16) q i in
      let z : run (Digit 16) q i - i ≡ run (Digit 16) r j - j = omega arith in
      rw z refl

  hex_run_within : (i : ℕ) → i ≤ k → i + hex_run q i ≤ k
  unfolding hex_run
  hex_run_within i w = go (ltb (run (Digit 16) q i - i) 6) refl
    where
      go : (c : Bool) → ltb (run (Digit 16) q i - i) 6 ≡ c → i + pick c (run (Digit 16) q i - i) 6 ≤ k
      go true e = omega (arith, digits_within_law A 16 (omega arith) i w, run_from (Digit 16) q i)
      go false e = omega (arith, digits_within_law A 16 (omega arith) i w, run_from (Digit 16) q i, ltb-false (run (Digit 16) q i - i) 6 e)

  unicode_alike : (i j : ℕ) → a ≤ i → i ≤ k → i + b ≡ j + a → SameChar a b (unicode_escape q i) (unicode_escape r j)
  unfolding unicode_escape
  unicode_alike i j s w x = go (ltb (hex_run q i) 4) refl (is_scalar_value (value_of 16 0 q i (hex_run q i))) refl
    where
      go : (c : Bool) → ltb (hex_run q i) 4 ≡ c → (d : Bool) → is_scalar_value (value_of 16 0 q i (hex_run q i)) ≡ d
          → SameChar a b (pick c Bad (pick d (Character (value_of 16 0 q i (hex_run q i)) (i + hex_run q i)) Bad)) (unicode_escape r j)
      go true e d f = tt
      go false e false f = tt
      go false e true f = λ n y.
          let z : j + hex_run q i ≡ n = omega arith in
          let v = value_alike A 16 0 i j (hex_run q i) s (hex_run_within i w) x in
          rw (← hex_run_alike i j s w x, e, ← v, f, z) refl

  escape_alike : (i j : ℕ) → a ≤ i → i < k → i + b ≡ j + a → SameChar a b (escape_at q i) (escape_at r j)
  unfolding escape_at
  escape_alike i j s w x = rw (← A.same i j s w x) (go (eqb (byte_at q i) 117) (eqb (plain_escape (byte_at q i)) 0))
    where
      go : (c d : Bool) → SameChar a b (pick c (unicode_escape q (i + 1)) (pick d Bad (Character (plain_escape (byte_at q i)) (i + 1))))
          (pick c (unicode_escape r (j + 1)) (pick d Bad (Character (plain_escape (byte_at q i)) (j + 1))))
      go true d = unicode_alike (i + 1) (j + 1) (omega arith) (omega arith) (omega arith)
      go false true = tt
      go false false = λ n y. let z : j + 1 ≡ n = omega arith in rw z refl

  -- a character that ends before the stop
  char_alike : (i j : ℕ) → a ≤ i → i + 1 < k → i + b ≡ j + a → reach i (char_at q i) ≤ k → SameChar a b (char_at q i) (char_at r j)
  unfolding char_at
  char_alike i j s w x = rw (← A.same i j s (omega arith) x) (go (eqb (byte_at q i) 39) (eqb (byte_at q i) 92))
    where
      go : (c d : Bool) → reach i (pick c Close (pick d (escape_at q (i + 1)) (raw_at q i))) ≤ k
          → SameChar a b (pick c Close (pick d (escape_at q (i + 1)) (raw_at q i))) (pick c Close (pick d (escape_at r (j + 1)) (raw_at r j)))
      go true d w' = refl
      go false true w' = escape_alike (i + 1) (j + 1) (omega arith) w (omega arith)
      go false false w' = raw_alike i j s x w'

  -- only a quote closes, also the last byte before the stop
  close_alike : (i j : ℕ) → a ≤ i → i < k → i + b ≡ j + a → char_at q i ≡ Close → char_at r j ≡ Close
  close_alike i j s w x h = go (rw h at (char_fits q i))
    where
      there : OneOf q (λ (v : ℕ). eqb v 39) i (i + 1) → OneOf r (λ (v : ℕ). eqb v 39) j (j + 1)
      there f =
          let m = sequence_alike i j s x f.sequence (omega (arith, f.ends)) in
          let v = scalar_alike i j s x f.sequence (omega (arith, f.ends)) in
          record { sequence = λ o. f.sequence (sym m ∙ o); belongs = ap (λ (n : ℕ). eqb n 39) v ∙ f.belongs; ends = omega (arith, f.ends) }

      go : Fits q single_quote i (i + 1) → char_at r j ≡ Close
      go (one f) = (is_close r (one (there f))).0

  -- a text that is closed before the stop
  record Same (t : Text) (e j : ℕ) : Type 0 where
    pub characters : characters_of t ≡ characters_of (text_at r j)
    pub closes : Closes (text_at r j) (e + b - a)

  abbrev AlikeFrom : ℕ → Text → Type 0
  AlikeFrom i t = (e : ℕ) → Closes t e → (i < e) × (e ≤ k → a ≤ i → (j : ℕ) → i + b ≡ j + a → Same t e j)

  text_alike : (i : ℕ) → AlikeFrom i (text_at q i)
  unfolding Closes characters_of
  text_alike = text_through q AlikeFrom (λ i h w e c. (omega arith, λ l s j x. last i h e c l s j x)) (λ i h e c. absurd c) (λ i v next h w again e c. more i v next h w e (again e c))
    where
      last : (i : ℕ) → char_at q i ≡ Close → (e : ℕ) → i + 1 ≡ e → e ≤ k → a ≤ i → (j : ℕ) → i + b ≡ j + a → Same (closed (i + 1)) e j
      last i h e c l s j x =
          let z = text_close r j (close_alike i j s (omega arith) x h) in
          record { characters = rw z refl; closes = rw z (omega arith) }

      more : (i v next : ℕ) → char_at q i ≡ Character v next → (i < next) × (next ≤ length q) × (v < 0x110000) → (e : ℕ)
          → (next < e) × (e ≤ k → a ≤ next → (j : ℕ) → next + b ≡ j + a → Same (text_at q next) e j)
          → (i < e) × (e ≤ k → a ≤ i → (j : ℕ) → i + b ≡ j + a → Same (character v (text_at q next)) e j)
      more i v next h w e p = (
        omega (arith, w.0, p.0),
        λ l s j x.
            let y : SameChar a b (Character v next) (char_at r j) = rw h at (char_alike i j s (omega (arith, w.0, p.0)) x (rw h (omega (arith, p.0)))) in
            let z = text_character r j v (next + b - a) (y (next + b - a) (omega (arith, w.0))) in
            let o = p.1 l (omega (arith, w.0)) (next + b - a) (omega (arith, w.0)) in
            record { characters = rw z (ap (λ (cs : List ℕ). v ∷ cs) o.characters); closes = rw z o.closes },
      )

  -- the literal's text, from behind its first quote on
  module _ (i j : ℕ) (s : a ≤ i) (x : i + b ≡ j + a) (h : i < string_literal q i) (w : string_literal q i ≤ k) where
    opened : (eqb (byte_at q i) 39 ≡ true) × (string_literal q i ≡ end_or i (text_at q (i + 1)))
    unfolding string_literal
    opened = go (eqb (byte_at q i) 39) h
      where
        go : (c : Bool) → i < pick c (end_or i (text_at q (i + 1))) i → (c ≡ true) × (pick c (end_or i (text_at q (i + 1))) i ≡ end_or i (text_at q (i + 1)))
        go true h = (refl, refl)
        go false h = absurd (omega arith)

    literal_text : Same (text_at q (i + 1)) (end_or i (text_at q (i + 1))) (j + 1)
    literal_text =
        let z = opened.1 in
        (text_alike (i + 1) (end_or i (text_at q (i + 1))) (closes_at i (text_at q (i + 1)) (omega arith))).1 (omega arith) (omega arith) (j + 1) (omega arith)

    -- it ends as far on
    pub string_alike : string_literal q i + b ≡ string_literal r j + a
    unfolding string_literal
    string_alike =
        let z = opened in
        let y : byte_at q i ≡ byte_at r j = A.same i j s (omega arith) x in
        let e : string_literal r j ≡ end_or i (text_at q (i + 1)) + b - a = rw (← y, z.0) (ends_there j (text_at r (j + 1)) (end_or i (text_at q (i + 1)) + b - a) literal_text.closes) in
        omega (arith, z.1)

    -- and has the same characters
    pub characters_alike : characters_of (text_at q (i + 1)) ≡ characters_of (text_at r (j + 1))
    characters_alike = literal_text.characters
