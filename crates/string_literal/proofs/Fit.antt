-- A string literal by its definition is a string-literal of the grammar, and the other way round: at a place there is at most one.
use Prim.Native.Nat.{ℕ, ◌+◌, ◌-◌, ◌≤◌, ◌<◌}
use mathlib.Core.Path.{◌≡◌, refl, sym, ap, ◌∙◌}
use mathlib.Core.List.{List}
use mathlib.Core.Bool.{Bool, true, false, not, ◌&&◌, ◌||◌, true≢false, false≢true}
use native.Mathlib.Omega.{arith}
use lib.ListN.{length}
use lib.Dec.{ltb, eqb}
use borrow.Author.Tests.{ltb-true, ltb-false, le-ltb, eqb-true, eqb-false, eq-eqb, ne_eqb, not-true}
use Rattle.base.specs.Pick.{pick}
use Rattle.base.specs.Part.{byte_at}
use Rattle.base.specs.Digit.{value_of}
use Rattle.base.proofs.Says.{and_both, or_neither}
use Rattle.scan.specs.Class.{run, in_class}
use Rattle.scan.specs.declared.Class.TheVariants.{Digit}
use Rattle.scan.proofs.Runs.{run_from, run_holds, run_stops, run_longest, digit_no_zero}
use Rattle.encoding.specs.WellFormed.{sequence_at}
use Rattle.encoding.specs.Scalar.{scalar_at, is_scalar_value}
use Rattle.encoding.proofs.WellFormed.{sequence_fits}
use Rattle.string_literal.specs.declared.InString.{InString}
use Rattle.string_literal.specs.declared.InString.TheVariants.{Character, Close, Bad}
use Rattle.string_literal.specs.Char.{char_at, raw_at, escape_at, unicode_escape, plain_escape, hex_run, unicode_char}
use Rattle.string_literal.specs.Text.{Text, text_at, end_or, string_literal}
use Rattle.string_literal.specs.Abnf.{Rule, char, then, or, star, hex_digits, OneOf, HexDigits, Fits, one, join, left, right, none, more, hex, member, exactly, single_quote, UNICODE-CHAR, escaped, char_escape, string_literal_rule}
use Rattle.string_literal.proofs.Bounds.{both_ways, char_within, text_character, text_close}
use Rattle.string_literal.proofs.Laws.{at_byte}
use Rattle.string_literal.proofs.Induction.{text_through}
use Rattle.string_literal.proofs.Ascii.{low_byte, low_character}

-- one more character of a literal's text
abbrev item : Rule
item = or UNICODE-CHAR char_escape

-- a byte has an escape exactly if it is one of those of the rule
plain_member : (b : ℕ) → member escaped b ≡ not (eqb (plain_escape b) 0)
unfolding member plain_escape
plain_member b = go (eqb b 92) (eqb b 39) (eqb b 98) (eqb b 116) (eqb b 110) (eqb b 102) (eqb b 114)
  where
    go : (t u v w x y z : Bool)
        → (t || (u || (v || (w || (x || (y || (z || false))))))) ≡ not (eqb (pick t 92 (pick u 39 (pick v 8 (pick w 9 (pick x 10 (pick y 12 (pick z 13 0))))))) 0)
    go true u v w x y z = refl
    go false true v w x y z = refl
    go false false true w x y z = refl
    go false false false true x y z = refl
    go false false false false true y z = refl
    go false false false false false true z = refl
    go false false false false false false true = refl
    go false false false false false false false = refl

-- the escapes are bytes other than 0, below 0x80
low_escape : (b : ℕ) → member escaped b ≡ true → (0 < b) × (b < 0x80)
unfolding member
low_escape b m = go (eqb b 92) refl (eqb b 39) refl (eqb b 98) refl (eqb b 116) refl (eqb b 110) refl (eqb b 102) refl (eqb b 114) refl m
  where
    at_k : (k : ℕ) → 0 < k → k < 0x80 → eqb b k ≡ true → (0 < b) × (b < 0x80)
    at_k k l h e = let z = eqb-true b k e in (omega arith, omega arith)

    go : (t : Bool) → eqb b 92 ≡ t → (u : Bool) → eqb b 39 ≡ u → (v : Bool) → eqb b 98 ≡ v → (w : Bool) → eqb b 116 ≡ w
        → (x : Bool) → eqb b 110 ≡ x → (y : Bool) → eqb b 102 ≡ y → (z : Bool) → eqb b 114 ≡ z
        → (t || (u || (v || (w || (x || (y || (z || false))))))) ≡ true → (0 < b) × (b < 0x80)
    go true e u f v g w h x i y j z k m = at_k 92 (omega arith) (omega arith) e
    go false e true f v g w h x i y j z k m = at_k 39 (omega arith) (omega arith) f
    go false e false f true g w h x i y j z k m = at_k 98 (omega arith) (omega arith) g
    go false e false f false g true h x i y j z k m = at_k 116 (omega arith) (omega arith) h
    go false e false f false g false h true i y j z k m = at_k 110 (omega arith) (omega arith) i
    go false e false f false g false h false i true j z k m = at_k 102 (omega arith) (omega arith) j
    go false e false f false g false h false i false j true k m = at_k 114 (omega arith) (omega arith) k
    go false e false f false g false h false i false j false k m = absurd (false≢true m)

module _ (q : List ℕ) where
  starts_within : {at : ℕ} → (sequence_at q at ≡ 0 → ⊥) → at < length q
  starts_within {at} n = go (ltb at (length q)) refl
    where
      go : (t : Bool) → ltb at (length q) ≡ t → at < length q
      go true e = ltb-true at (length q) e
      go false e = absurd (n (omega (arith, sequence_fits q at, ltb-false at (length q) e)))

  -- a byte of a terminal, 0 < k < 0x80
  byte_fits : (at k : ℕ) → 0 < k → k < 0x80 → byte_at q at ≡ k → OneOf q (λ (v : ℕ). eqb v k) at (at + 1)
  byte_fits at k l h e =
      let w = at_byte q at k refl e l in
      let c = low_byte q at w (omega arith) in
      record { sequence = λ z. omega (arith, c.0); belongs = eq-eqb (scalar_at q at) k (c.1 ∙ e); ends = omega (arith, c.0) }

  fits_byte : {set : ℕ → Bool} {a e k : ℕ} → k < 0x80 → OneOf q set a e → scalar_at q a ≡ k → (byte_at q a ≡ k) × (e ≡ a + 1)
  fits_byte {set} {a} {e} {k} h f z =
      let w = starts_within f.sequence in
      let b = low_character q a w f.sequence (omega arith) in
      let c = low_byte q a w (omega arith) in
      (b ∙ z, omega (arith, f.ends, c.0))

  pub terminal : {a e k : ℕ} → k < 0x80 → OneOf q (λ (v : ℕ). eqb v k) a e → (byte_at q a ≡ k) × (e ≡ a + 1)
  terminal {a} {e} {k} h f = fits_byte h f (eqb-true (scalar_at q a) k f.belongs)

  -- hex digits: the run by its definition
  no_zero : in_class (Digit 16) 0 ≡ false
  no_zero = digit_no_zero 16 (omega arith)

  abbrev short : ℕ → Bool
  short a = ltb (run (Digit 16) q a - a) 6

  hex_some : (a : ℕ) → 4 ≤ hex_run q a → is_scalar_value (value_of 16 0 q a (hex_run q a)) ≡ true → HexDigits q 4 6 a (a + hex_run q a)
  unfolding hex_run
  hex_some a l s =
      record {
        count = hex_run q a;
        ends = refl;
        enough = l;
        limited = limit (short a) refl;
        digits = λ i h. run_holds (Digit 16) q a (a + i) (omega arith) (below (short a) refl i h);
        longest = λ h. last (short a) refl h;
        scalar = s;
      }
    where
      f : a ≤ run (Digit 16) q a
      f = run_from (Digit 16) q a

      limit : (t : Bool) → short a ≡ t → pick t (run (Digit 16) q a - a) 6 ≤ 6
      limit true e = omega (arith, ltb-true (run (Digit 16) q a - a) 6 e)
      limit false e = omega arith

      below : (t : Bool) → short a ≡ t → (i : ℕ) → i < pick t (run (Digit 16) q a - a) 6 → a + i < run (Digit 16) q a
      below true e i h = omega (arith, f)
      below false e i h = omega (arith, f, ltb-false (run (Digit 16) q a - a) 6 e)

      last : (t : Bool) → short a ≡ t → pick t (run (Digit 16) q a - a) 6 < 6 → in_class (Digit 16) (byte_at q (a + pick t (run (Digit 16) q a - a) 6)) ≡ false
      last true e h = let z : a + (run (Digit 16) q a - a) ≡ run (Digit 16) q a = omega (arith, f) in rw z (run_stops (Digit 16) no_zero q a)
      last false e h = absurd (omega arith)

  hex_only : {a e : ℕ} (h : HexDigits q 4 6 a e) → h.count ≡ hex_run q a
  unfolding hex_run
  hex_only {a} h = go (short a) refl
    where
      f : a ≤ run (Digit 16) q a
      f = run_from (Digit 16) q a

      reaches : a + h.count ≤ run (Digit 16) q a
      reaches = run_longest (Digit 16) no_zero q a h.count h.digits

      go : (t : Bool) → short a ≡ t → h.count ≡ pick t (run (Digit 16) q a - a) 6
      go true e = stop (ltb h.count (run (Digit 16) q a - a)) refl (ltb-true (run (Digit 16) q a - a) 6 e)
        where
          stop : (u : Bool) → ltb h.count (run (Digit 16) q a - a) ≡ u → run (Digit 16) q a - a < 6 → h.count ≡ run (Digit 16) q a - a
          stop true g k =
              let l = ltb-true h.count (run (Digit 16) q a - a) g in
              absurd (true≢false (sym (run_holds (Digit 16) q a (a + h.count) (omega arith) (omega arith)) ∙ h.longest (omega arith)))
          stop false g k = omega (arith, reaches, ltb-false h.count (run (Digit 16) q a - a) g)
      go false e = full (ltb h.count 6) refl (ltb-false (run (Digit 16) q a - a) 6 e)
        where
          full : (u : Bool) → ltb h.count 6 ≡ u → 6 ≤ run (Digit 16) q a - a → h.count ≡ 6
          full true g k =
              let l = ltb-true h.count 6 g in
              absurd (true≢false (sym (run_holds (Digit 16) q a (a + h.count) (omega arith) (omega (arith, f))) ∙ h.longest l))
          full false g k = omega (arith, h.limited, ltb-false h.count 6 g)

  -- what stands at a place by its definition fits the grammar
  abbrev CharFits : ℕ → InString → Type 0
  CharFits at (Character v next) = Fits q item at next
  CharFits at Close = Fits q single_quote at (at + 1)
  CharFits at Bad = Unit

  abbrev EscapeFits : ℕ → InString → Type 0
  EscapeFits at (Character v next) = Fits q (or (char (λ (v : ℕ). member escaped v)) (then (exactly 117) (hex_digits 4 6))) at next
  EscapeFits at Close = ⊥
  EscapeFits at Bad = Unit

  unicode_fits : (at : ℕ) → byte_at q at ≡ 117 → EscapeFits at (unicode_escape q (at + 1))
  unfolding unicode_escape
  unicode_fits at e =
      both_ways (EscapeFits at) (ltb (hex_run q (at + 1)) 4) Bad _ (λ t. tt)
      (λ t. both_ways (EscapeFits at) (is_scalar_value (value_of 16 0 q (at + 1) (hex_run q (at + 1)))) (Character (value_of 16 0 q (at + 1) (hex_run q (at + 1))) (at + 1 + hex_run q (at + 1))) Bad
      (λ u. right (join (one (byte_fits at 117 (omega arith) (omega arith) e)) (hex (hex_some (at + 1) (ltb-false (hex_run q (at + 1)) 4 t) u))))
      (λ u. tt))

  plain_fits : (at : ℕ) → eqb (plain_escape (byte_at q at)) 0 ≡ false → OneOf q (λ (v : ℕ). member escaped v) at (at + 1)
  plain_fits at e =
      let m : member escaped (byte_at q at) ≡ true = plain_member (byte_at q at) ∙ ap not e in
      let l = low_escape (byte_at q at) m in
      let f = byte_fits at (byte_at q at) l.0 l.1 refl in
      let c = eqb-true (scalar_at q at) (byte_at q at) f.belongs in
      record { sequence = f.sequence; belongs = rw c m; ends = f.ends }

  escape_fits : (at : ℕ) → EscapeFits at (escape_at q at)
  unfolding escape_at
  escape_fits at =
      both_ways (EscapeFits at) (eqb (byte_at q at) 117) (unicode_escape q (at + 1)) _ (λ t. unicode_fits at (eqb-true (byte_at q at) 117 t))
      (λ t. both_ways (EscapeFits at) (eqb (plain_escape (byte_at q at)) 0) Bad (Character (plain_escape (byte_at q at)) (at + 1)) (λ u. tt) (λ u. left (one (plain_fits at u))))

  escaped_fits : (at : ℕ) → byte_at q at ≡ 92 → (x : InString) → EscapeFits (at + 1) x → CharFits at x
  escaped_fits at e (Character v next) f = right (join (one (byte_fits at 92 (omega arith) (omega arith) e)) f)
  escaped_fits at e Close f = absurd f
  escaped_fits at e Bad f = tt

  raw_fits : (at : ℕ) → eqb (byte_at q at) 39 ≡ false → eqb (byte_at q at) 92 ≡ false → CharFits at (raw_at q at)
  unfolding raw_at
  raw_fits at e f =
      both_ways (CharFits at) (eqb (sequence_at q at) 0) Bad _ (λ t. tt)
      (λ t. both_ways (CharFits at) (unicode_char (scalar_at q at)) (Character (scalar_at q at) (at + sequence_at q at)) Bad
      (λ u. left (one (record { sequence = eqb-false (sequence_at q at) 0 t; belongs = rw (u, other 39 (omega arith) e (eqb-false (sequence_at q at) 0 t), other 92 (omega arith) f (eqb-false (sequence_at q at) 0 t)); ends = refl })))
      (λ u. tt))
    where
      other : (k : ℕ) → k < 0x80 → eqb (byte_at q at) k ≡ false → (sequence_at q at ≡ 0 → ⊥) → eqb (scalar_at q at) k ≡ false
      other k h e n = ne_eqb (scalar_at q at) k (λ z. eqb-false (byte_at q at) k e (low_character q at (starts_within n) n (omega arith) ∙ z))

  pub char_fits : (at : ℕ) → CharFits at (char_at q at)
  unfolding char_at
  char_fits at =
      both_ways (CharFits at) (eqb (byte_at q at) 39) Close _ (λ t. one (byte_fits at 39 (omega arith) (omega arith) (eqb-true (byte_at q at) 39 t)))
      (λ t. both_ways (CharFits at) (eqb (byte_at q at) 92) (escape_at q (at + 1)) (raw_at q at)
      (λ u. escaped_fits at (eqb-true (byte_at q at) 92 u) (escape_at q (at + 1)) (escape_fits (at + 1)))
      (λ u. raw_fits at t u))

  -- what fits the grammar is what stands there by its definition
  pub is_close : {at e : ℕ} → Fits q single_quote at e → (char_at q at ≡ Close) × (e ≡ at + 1)
  unfolding char_at
  is_close (one f) = let z = terminal (omega arith) f in (rw z.0, z.1)

  pub record Stands (at next : ℕ) : Type 0 where
    pub value : ℕ
    pub stands : char_at q at ≡ Character value next

  is_raw : {at e : ℕ} → OneOf q (λ (v : ℕ). unicode_char v && not (eqb v 39 || eqb v 92)) at e → Stands at e
  unfolding char_at raw_at
  is_raw {at} {e} f =
      let p = and_both (unicode_char (scalar_at q at)) (not (eqb (scalar_at q at) 39 || eqb (scalar_at q at) 92)) f.belongs in
      let r = or_neither (eqb (scalar_at q at) 39) (eqb (scalar_at q at) 92) (not-true _ p.1) in
      record { value = scalar_at q at; stands = rw (differ 39 (omega arith) r.0, differ 92 (omega arith) r.1, ne_eqb (sequence_at q at) 0 f.sequence, p.0, f.ends) }
    where
      differ : (k : ℕ) → k < 0x80 → eqb (scalar_at q at) k ≡ false → eqb (byte_at q at) k ≡ false
      differ k h n =
          ne_eqb (byte_at q at) k (λ z. eqb-false (scalar_at q at) k n ((low_byte q at (starts_within f.sequence) (omega arith)).1 ∙ z))

  is_plain : {at m e : ℕ} → OneOf q (λ (v : ℕ). eqb v 92) at m → OneOf q (λ (v : ℕ). member escaped v) m e → Stands at e
  unfolding char_at escape_at plain_escape
  is_plain {at} {m} {e} f g =
      let y = terminal (omega arith) f in
      let z = fits_low m e g in
      let n : eqb (plain_escape (byte_at q m)) 0 ≡ false = not-true (eqb (plain_escape (byte_at q m)) 0) (sym (plain_member (byte_at q m)) ∙ z.0) in
      let b : eqb (byte_at q m) 117 ≡ false = ne_eqb (byte_at q m) 117 (λ x. eqb-false (plain_escape (byte_at q m)) 0 n (rw x refl)) in
      record { value = plain_escape (byte_at q m); stands = rw (y.0, ← y.1, b, n, z.1) refl }
    where
      fits_low : (m e : ℕ) → OneOf q (λ (v : ℕ). member escaped v) m e → (member escaped (byte_at q m) ≡ true) × (e ≡ m + 1)
      fits_low m e g =
          let z = fits_byte (low_escape (scalar_at q m) g.belongs).1 g refl in
          (rw z.0 g.belongs, z.1)

  is_unicode : {at m n e : ℕ} → OneOf q (λ (v : ℕ). eqb v 92) at m → OneOf q (λ (v : ℕ). eqb v 117) m n → HexDigits q 4 6 n e → Stands at e
  unfolding char_at escape_at unicode_escape
  is_unicode {at} {m} {n} {e} f g h =
      let x = terminal (omega arith) f in
      let y = terminal (omega arith) g in
      let c = hex_only h in
      record { value = value_of 16 0 q n (hex_run q n); stands = rw (x.0, ← x.1, y.0, ← y.1, le-ltb (hex_run q n) 4 (omega (arith, h.enough)), rw c at h.scalar, h.ends, c) refl }

  pub is_character : {at e : ℕ} → Fits q item at e → Stands at e
  is_character (left (one f)) = is_raw f
  is_character (right (join (one f) (left (one g)))) = is_plain f g
  is_character (right (join (one f) (right (join (one g) (hex h))))) = is_unicode f g h

  -- the literal: characters, then the closing quote
  abbrev rest : Rule
  rest = then (star item) single_quote

  abbrev TextFits : ℕ → ℕ → Text → Type 0
  TextFits start at t = (e : ℕ) → end_or start t ≡ e → start < e → start < at → Fits q rest at e

  text_fits_law : (start at : ℕ) → TextFits start at (text_at q at)
  unfolding end_or
  text_fits_law start =
      text_through q (TextFits start)
      (λ at c w e z l k. rw (← z) (join none (rw c at (char_fits at))))
      (λ at c e z l k. absurd (omega arith))
      (λ at v next c w f e z l k. first at v next c (f e z l (omega (arith, w.0))))
    where
      first : (at v next : ℕ) {e : ℕ} → char_at q at ≡ Character v next → Fits q rest next e → Fits q rest at e
      first at v next c (join f g) = join (more (rw c at (char_fits at)) f) g

  rest_text : {at e : ℕ} (start : ℕ) → Fits q (star item) at e → (end : ℕ) → Fits q single_quote e end → end_or start (text_at q at) ≡ end
  unfolding end_or
  rest_text {at} start none end g = let z = is_close g in rw (text_close q at z.0) (sym z.1)
  rest_text {at} start (more f h) end g = let z = is_character f in rw (text_character q at z.value _ z.stands) (rest_text start h end g)

  -- string-literal, both ways
  pub string_fits : (at : ℕ) → at < string_literal q at → Fits q string_literal_rule at (string_literal q at)
  unfolding string_literal
  string_fits at h = go (eqb (byte_at q at) 39) refl h
    where
      go : (t : Bool) → eqb (byte_at q at) 39 ≡ t → at < pick t (end_or at (text_at q (at + 1))) at → Fits q string_literal_rule at (pick t (end_or at (text_at q (at + 1))) at)
      go true e l =
          join (one (byte_fits at 39 (omega arith) (omega arith) (eqb-true (byte_at q at) 39 e))) (text_fits_law at (at + 1) (end_or at (text_at q (at + 1))) refl l (omega arith))
      go false e l = absurd (omega arith)

  pub fits_string : {at e : ℕ} → Fits q string_literal_rule at e → string_literal q at ≡ e
  unfolding string_literal
  fits_string {at} {e} (join (one f) (join g h)) =
      let z = terminal (omega arith) f in
      rw (z.0, ← z.1) (rest_text at g e h)

  item_moves : {at e : ℕ} → Fits q item at e → at < e
  item_moves {at} f = let z = is_character f in let w = char_within q at in (rw z.stands at w).0

  items_move : {at e : ℕ} → Fits q (star item) at e → at ≤ e
  items_move none = omega arith
  items_move (more f g) = omega (arith, item_moves f, items_move g)

  string_moves : {at e : ℕ} → Fits q string_literal_rule at e → at < e
  string_moves (join (one f) (join g h)) = omega (arith, (terminal (omega arith) f).1, items_move g, (is_close h).1)

-- the definition's end is e, after the place, exactly where the text from the place to e is a string-literal; so there is at most one
pub record Exact (q : List ℕ) (at e : ℕ) : Type 0 where
  pub to : at < e → string_literal q at ≡ e → Fits q string_literal_rule at e
  pub from : Fits q string_literal_rule at e → (at < e) × (string_literal q at ≡ e)

pub string_exact : (q : List ℕ) (at e : ℕ) → Exact q at e
string_exact q at e = record { to = λ l z. rw (← z) (string_fits q at (rw (← z) at l)); from = λ f. (string_moves q f, fits_string q f) }
