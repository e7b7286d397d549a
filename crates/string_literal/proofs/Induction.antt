-- Induction over a text: what holds at its end, and before each character if it holds after it, holds of the text from any place on.
use Prim.Native.Nat.{ℕ, zero, suc, ◌+◌, ◌-◌, ◌≤◌, ◌<◌}
use mathlib.Core.Path.{◌≡◌, refl}
use mathlib.Core.List.{List}
use native.Mathlib.Omega.{arith}
use lib.ListN.{length}
use Rattle.string_literal.specs.declared.InString.{InString}
use Rattle.string_literal.specs.declared.InString.TheVariants.{Character, Close, Bad}
use Rattle.string_literal.specs.Char.{char_at}
use Rattle.string_literal.specs.Text.{Text, character, closed, spoiled, text_at, WithinChar}
use Rattle.string_literal.proofs.Bounds.{char_within, text_character, text_close, text_bad}

module _ (q : List ℕ) (P : ℕ → Text → Type 0)
    (close : (at : ℕ) → char_at q at ≡ Close → at < length q → P at (closed (at + 1)))
    (bad : (at : ℕ) → char_at q at ≡ Bad → P at spoiled)
    (more : (at v next : ℕ) → char_at q at ≡ Character v next → WithinChar (length q) at (Character v next) → P next (text_at q next) → P at (character v (text_at q next)))
  where
    at_one : (at : ℕ) → ((next : ℕ) → at < next → next ≤ length q → P next (text_at q next)) → P at (text_at q at)
    at_one at rest = go (char_at q at) refl (char_within q at)
      where
        go : (x : InString) → char_at q at ≡ x → WithinChar (length q) at x → P at (text_at q at)
        go (Character v next) e w = rw (text_character q at v next e) (more at v next e w (rest next w.0 w.1))
        go Close e w = rw (text_close q at e) (close at e w)
        go Bad e w = rw (text_bad q at e) (bad at e)

    by_fuel : (f at : ℕ) → length q - at ≤ f → P at (text_at q at)
    by_fuel zero at h = at_one at (λ next a b. absurd (omega arith))
    by_fuel (suc f) at h = at_one at (λ next a b. by_fuel f next (omega arith))

    pub text_through : (at : ℕ) → P at (text_at q at)
    text_through at = by_fuel (length q - at) at (omega arith)
