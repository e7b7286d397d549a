-- Characters end within the text; a text unfolds by one character.
use Prim.Native.Nat.{ℕ, ◌+◌, ◌-◌, ◌≤◌, ◌<◌}
use mathlib.Core.Path.{◌≡◌, refl, sym, ap}
use mathlib.Core.List.{List}
use mathlib.Core.Bool.{Bool, true, false, ◌||◌}
use native.Mathlib.Omega.{arith}
use lib.ListN.{length}
use lib.Dec.{ltb, eqb}
use borrow.Author.Tests.{ltb-false, eqb-true, eqb-false}
use Rattle.base.specs.Pick.{pick}
use Rattle.base.specs.Range.{within}
use Rattle.base.specs.Part.{byte_at}
use Rattle.base.specs.Digit.{value_of}
use Rattle.base.proofs.Walk.{from_at}
use Rattle.base.proofs.Lists.{byte_within}
use Rattle.base.proofs.Digits.{within_high}
use Rattle.scan.specs.Class.{run}
use Rattle.scan.specs.declared.Class.TheVariants.{Digit}
use Rattle.scan.proofs.Runs.{run_reach}
use Rattle.encoding.specs.WellFormed.{sequence_at}
use Rattle.encoding.specs.Scalar.{scalar_at, is_scalar_value}
use Rattle.encoding.proofs.WellFormed.{sequence_fits}
use Rattle.string_literal.specs.declared.InString.{InString}
use Rattle.string_literal.specs.declared.InString.TheVariants.{Character, Close, Bad}
use Rattle.string_literal.specs.Char.{char_at, raw_at, escape_at, unicode_escape, plain_escape, hex_run, unicode_char}
use Rattle.string_literal.specs.Text.{Text, character, closed, spoiled, follow, text_at, WithinChar}

-- a property of both choices is one of the choice
pub both_ways : {A : Type 0} (P : A → Type 0) (t : Bool) (a b : A) → (t ≡ true → P a) → (t ≡ false → P b) → P (pick t a b)
both_ways P true a b f g = f refl
both_ways P false a b f g = g refl

either_lt : (s t : Bool) (v m : ℕ) → (true ≡ s → v < m) → (true ≡ t → v < m) → (s || t) ≡ true → v < m
either_lt true t v m f g h = f refl
either_lt false t v m f g h = g (sym h)

pub unicode_lt : (v : ℕ) → unicode_char v ≡ true → v < 0x110000
unfolding unicode_char
unicode_lt v h =
    either_lt (within 0x20 0xd7ff v) (within 0xe000 0xfffd v || within 0x10000 0x10ffff v) v 0x110000
    (λ e. omega (arith, within_high 0x20 0xd7ff v e))
    (λ e. either_lt (within 0xe000 0xfffd v) (within 0x10000 0x10ffff v) v 0x110000 (λ f. omega (arith, within_high 0xe000 0xfffd v f)) (λ f. omega (arith, within_high 0x10000 0x10ffff v f)) (sym e))
    h

pub scalar_lt : (v : ℕ) → is_scalar_value v ≡ true → v < 0x110000
unfolding is_scalar_value
scalar_lt v h =
    either_lt (within 0 0xd7ff v) (within 0xe000 0x10ffff v) v 0x110000
    (λ e. omega (arith, within_high 0 0xd7ff v e))
    (λ e. omega (arith, within_high 0xe000 0x10ffff v e))
    h

pub hex_run_fits : (q : List ℕ) (at : ℕ) → hex_run q at ≤ length q - at
unfolding hex_run
hex_run_fits q at =
    both_ways (λ (n : ℕ). n ≤ length q - at) (ltb (run (Digit 16) q at - at) 6) (run (Digit 16) q at - at) 6
    (λ e. run_reach (Digit 16) q at)
    (λ e. omega (arith, run_reach (Digit 16) q at, ltb-false (run (Digit 16) q at - at) 6 e))

module _ (q : List ℕ) where
  raw_within : (at : ℕ) → WithinChar (length q) at (raw_at q at)
  unfolding raw_at
  raw_within at =
      both_ways (WithinChar (length q) at) (eqb (sequence_at q at) 0) Bad
      (pick (unicode_char (scalar_at q at)) (Character (scalar_at q at) (at + sequence_at q at)) Bad)
      (λ e. tt)
      (λ e. both_ways (WithinChar (length q) at) (unicode_char (scalar_at q at)) (Character (scalar_at q at) (at + sequence_at q at)) Bad
      (λ f. let z = eqb-false (sequence_at q at) 0 e in (omega arith, omega (arith, sequence_fits q at), unicode_lt (scalar_at q at) f))
      (λ f. tt))

  unicode_within : (at : ℕ) → WithinChar (length q) at (unicode_escape q at)
  unfolding unicode_escape
  unicode_within at =
      both_ways (WithinChar (length q) at) (ltb (hex_run q at) 4) Bad
      (pick (is_scalar_value (value_of 16 0 q at (hex_run q at))) (Character (value_of 16 0 q at (hex_run q at)) (at + hex_run q at)) Bad)
      (λ e. tt)
      (λ e. both_ways (WithinChar (length q) at) (is_scalar_value (value_of 16 0 q at (hex_run q at))) (Character (value_of 16 0 q at (hex_run q at)) (at + hex_run q at)) Bad
      (λ f. let l = ltb-false (hex_run q at) 4 e in (omega arith, omega (arith, hex_run_fits q at), scalar_lt (value_of 16 0 q at (hex_run q at)) f))
      (λ f. tt))

  -- a later place serves an earlier one
  earlier : (a b : ℕ) (r : InString) → a ≤ b → WithinChar (length q) b r → WithinChar (length q) a r
  earlier a b (Character v next) h (p, k, l) = (omega arith, k, l)
  earlier a b Close h p = omega arith
  earlier a b Bad h p = tt

  plain_lt : (b : ℕ) → plain_escape b < 0x110000
  unfolding plain_escape
  plain_lt b =
      lt (eqb b 92) 92 _ (omega arith) (lt (eqb b 39) 39 _ (omega arith) (lt (eqb b 98) 8 _ (omega arith) (lt (eqb b 116) 9 _ (omega arith)
      (lt (eqb b 110) 10 _ (omega arith) (lt (eqb b 102) 12 _ (omega arith) (lt (eqb b 114) 13 0 (omega arith) (omega arith)))))))
    where
      lt : (t : Bool) (m n : ℕ) → m < 0x110000 → n < 0x110000 → pick t m n < 0x110000
      lt true m n a b = a
      lt false m n a b = b

  pub plain_some : (b : ℕ) → (plain_escape b ≡ 0 → ⊥) → b ≡ 0 → ⊥
  unfolding plain_escape
  plain_some b n e = n (rw e refl)

  escape_within : (at : ℕ) → WithinChar (length q) at (escape_at q at)
  unfolding escape_at
  escape_within at =
      both_ways (WithinChar (length q) at) (eqb (byte_at q at) 117) (unicode_escape q (at + 1))
      (pick (eqb (plain_escape (byte_at q at)) 0) Bad (Character (plain_escape (byte_at q at)) (at + 1)))
      (λ e. earlier at (at + 1) (unicode_escape q (at + 1)) (omega arith) (unicode_within (at + 1)))
      (λ e. both_ways (WithinChar (length q) at) (eqb (plain_escape (byte_at q at)) 0) Bad (Character (plain_escape (byte_at q at)) (at + 1))
      (λ f. tt)
      (λ f. let l = byte_within q at (plain_some (byte_at q at) (eqb-false (plain_escape (byte_at q at)) 0 f)) in (omega arith, omega arith, plain_lt (byte_at q at))))

  pub char_within : (at : ℕ) → WithinChar (length q) at (char_at q at)
  unfolding char_at
  char_within at =
      both_ways (WithinChar (length q) at) (eqb (byte_at q at) 39) Close (pick (eqb (byte_at q at) 92) (escape_at q (at + 1)) (raw_at q at))
      (λ e. byte_within q at (λ z. let y = eqb-true (byte_at q at) 39 e in omega arith))
      (λ e. both_ways (WithinChar (length q) at) (eqb (byte_at q at) 92) (escape_at q (at + 1)) (raw_at q at)
      (λ f. earlier at (at + 1) (escape_at q (at + 1)) (omega arith) (escape_within (at + 1)))
      (λ f. raw_within at))

  -- the text, one step
  pub text_at_law : (at : ℕ) → text_at q at ≡ follow at (char_at q at) (text_at q)
  unfolding text_at
  text_at_law = from_at _ spoiled (length q) (λ at p r h. go at p r h (char_at q at) (char_within at))
    where
      go : (at : ℕ) (p r : ℕ → Text) → ((next : ℕ) → at < next → next ≤ length q → p next ≡ r next)
          → (x : InString) → WithinChar (length q) at x → follow at x p ≡ follow at x r
      go at p r h (Character v next) w = ap (character v) (h next w.0 w.1)
      go at p r h Close w = refl
      go at p r h Bad w = refl

  pub text_character : (at v next : ℕ) → char_at q at ≡ Character v next → text_at q at ≡ character v (text_at q next)
  text_character at v next e = rw (text_at_law, e)

  pub text_close : (at : ℕ) → char_at q at ≡ Close → text_at q at ≡ closed (at + 1)
  text_close at e = rw (text_at_law, e)

  pub text_bad : (at : ℕ) → char_at q at ≡ Bad → text_at q at ≡ spoiled
  text_bad at e = rw (text_at_law, e)
