-- One law for each exit of `src/`.
use Prim.Native.Nat.{ℕ, ◌+◌, ◌-◌, ◌≤◌, ◌<◌, min}
use mathlib.Core.Path.{◌≡◌, refl, sym, ◌∙◌}
use mathlib.Core.List.{List}
use mathlib.Core.Bool.{Bool, true, false, not, ◌&&◌, ◌||◌}
use native.Mathlib.Omega.{arith}
use lib.ListN.{length}
use lib.Dec.{leb, ltb, eqb}
use borrow.Author.Tests.{lt-leb, le-ltb, not-true, ltb-true, ltb-false}
use Rattle.base.specs.Pick.{pick}
use Rattle.base.specs.Range.{within}
use Rattle.scan.specs.Class.{run}
use Rattle.scan.specs.declared.Class.TheVariants.{Digit}
use Rattle.encoding.specs.Scalar.{is_scalar_value}
use Rattle.encoding.proofs.WellFormed.{past_end}
use Rattle.base.proofs.Says.{and_both, and_false, or_neither}
use Rattle.base.specs.Part.{byte_at}
use Rattle.base.specs.Digit.{value_of, size_under}
use Rattle.std.specs.Prelude.{Option, Some, None}
use Rattle.base.proofs.Lists.{byte_within, byte_past}
use Rattle.base.proofs.Digits.{fits_value, large_value}
use Rattle.string_literal.specs.declared.InString.{InString}
use Rattle.string_literal.specs.declared.InString.TheVariants.{Character, Close, Bad}
use Rattle.string_literal.specs.Char.{char_at, raw_at, unicode_escape, plain_escape, hex_run}
use Rattle.string_literal.specs.Text.{text_at, WithinChar, end_or}
use Rattle.string_literal.proofs.Ascii.{ascii_raw}
use Rattle.string_literal.proofs.Bounds.{char_within, text_character, text_close, text_bad, plain_some}

within_above : (lo hi v : ℕ) → hi < v → within lo hi v ≡ false
unfolding within
within_above lo hi v h = rw (lt-leb v hi h) (and_false (leb lo v))

no_scalar : (v : ℕ) → 0x10ffff < v → is_scalar_value v ≡ false
unfolding is_scalar_value
no_scalar v h = rw (within_above 0 0xd7ff v (omega arith), within_above 0xe000 0x10ffff v (omega arith))

-- a byte known to be k, which is not 0, stands within the text
pub at_byte : {b : ℕ} (q : List ℕ) (at k : ℕ) → b ≡ byte_at q at → b ≡ k → 0 < k → at < length q
at_byte q at k e f h = byte_within q at (λ z. let y : k ≡ 0 = sym f ∙ e ∙ z in omega arith)

-- the digits of a run, up to the longest
pub hex_run_least : {r e : ℕ} (q : List ℕ) (at : ℕ) → e ≡ run (Digit 16) q at → r ≡ min (e - at) 6 → r ≡ hex_run q at
unfolding hex_run
hex_run_least {r} q at e f = go (ltb (run (Digit 16) q at - at) 6) refl
  where
    go : (t : Bool) → ltb (run (Digit 16) q at - at) 6 ≡ t → r ≡ pick t (run (Digit 16) q at - at) 6
    go true t = let l = ltb-true (run (Digit 16) q at - at) 6 t in omega (arith, e, f)
    go false t = let l = ltb-false (run (Digit 16) q at - at) 6 t in omega (arith, e, f)

-- \u
module _ {n : ℕ} {s : Option ℕ} (q : List ℕ) (at : ℕ) (en : n ≡ hex_run q at) (enough : 4 ≤ n) (es : s ≡ size_under 0x10ffff (value_of 16 0 q at n)) where
  pub escape_scalar : {t : Bool} (v : ℕ) → s ≡ Some v → t ≡ is_scalar_value v → t ≡ true → Character v (at + n) ≡ unicode_escape q at
  unfolding unicode_escape
  escape_scalar v e f g =
      let w : value_of 16 0 q at (hex_run q at) ≡ v = rw (← en) (sym (fits_value _ _ es v e)) in
      rw (le-ltb (hex_run q at) 4 (omega arith), w, ← f, g, en)

  pub escape_surrogate : {t : Bool} (v : ℕ) → s ≡ Some v → t ≡ is_scalar_value v → t ≡ false → Bad ≡ unicode_escape q at
  unfolding unicode_escape
  escape_surrogate v e f g =
      let w : value_of 16 0 q at (hex_run q at) ≡ v = rw (← en) (sym (fits_value _ _ es v e)) in
      rw (le-ltb (hex_run q at) 4 (omega arith), w, ← f, g)

  pub escape_beyond : s ≡ None → Bad ≡ unicode_escape q at
  unfolding unicode_escape
  escape_beyond e =
      let w : 0x10ffff < value_of 16 0 q at (hex_run q at) = rw (← en) (large_value _ _ es e) in
      rw (le-ltb (hex_run q at) 4 (omega arith), no_scalar (value_of 16 0 q at (hex_run q at)) w)

-- characters
pub with_within : (q : List ℕ) (at : ℕ) (r : InString) → r ≡ char_at q at → (r ≡ char_at q at) × WithinChar (length q) at r
with_within q at r e = (e, rw e (char_within q at))

pub char_past : (q : List ℕ) (at : ℕ) → length q ≤ at → char_at q at ≡ Bad
unfolding char_at raw_at
char_past q at h = rw (← byte_past q at h, ← past_end q at h)

pub moved : {n at v next : ℕ} {r : InString} → WithinChar n at r → r ≡ Character v next → (at < next) × (next ≤ n) × (v < 0x110000)
moved w e = rw e at w

pub closes : {n at : ℕ} {r : InString} → WithinChar n at r → r ≡ Close → at < n
closes w e = rw e at w

module _ {r : InString} (none : ℕ) (q : List ℕ) (at : ℕ) (e : r ≡ char_at q at) where
  pub end_step : {v next : ℕ} → r ≡ Character v next → end_or none (text_at q at) ≡ end_or none (text_at q next)
  unfolding end_or
  end_step f = rw (text_character q at _ _ (sym e ∙ f))

  pub end_close : r ≡ Close → end_or none (text_at q at) ≡ at + 1
  unfolding end_or
  end_close f = rw (text_close q at (sym e ∙ f))

  pub end_bad : r ≡ Bad → end_or none (text_at q at) ≡ none
  unfolding end_or
  end_bad f = rw (text_bad q at (sym e ∙ f))

-- a byte of ASCII that neither ends the literal nor escapes
pub end_plain : (none : ℕ) (q : List ℕ) (at : ℕ) {b : ℕ} → b ≡ byte_at q at → ((leb 0x20 b && ltb b 0x80) && not (eqb b 39 || eqb b 92)) ≡ true → end_or none (text_at q at) ≡ end_or none (text_at q (at + 1))
unfolding char_at
end_plain none q at {b} e h =
    let p = and_both (leb 0x20 b && ltb b 0x80) (not (eqb b 39 || eqb b 92)) h in
    let n = or_neither (eqb b 39) (eqb b 92) (not-true (eqb b 39 || eqb b 92) p.1) in
    let c : Character b (at + 1) ≡ char_at q at = rw (← e, n.0, n.1) (ascii_raw q at e p.0) in
    end_step none q at c refl

pub end_past : (none : ℕ) (q : List ℕ) (at : ℕ) → length q ≤ at → end_or none (text_at q at) ≡ none
end_past none q at h = end_bad none q at refl (char_past q at h)

-- an escape stands within the text
pub escaped_within : {b v : ℕ} (q : List ℕ) (at : ℕ) → b ≡ byte_at q at → v ≡ plain_escape b → (v ≡ 0 → ⊥) → at < length q
escaped_within {b} {v} q at e f n = byte_within q at (λ z. plain_some q b (λ y. n (f ∙ y)) (e ∙ z))
