-- A string literal ends after its opening quote and within the text.
use Prim.Native.Nat.{ℕ, ◌+◌, ◌≤◌, ◌<◌}
use mathlib.Core.Path.{refl}
use mathlib.Core.List.{List}
use native.Mathlib.Omega.{arith}
use lib.ListN.{length}
use lib.Dec.{eqb}
use borrow.Author.Tests.{eqb-true}
use Rattle.base.specs.Part.{byte_at}
use Rattle.scan.proofs.Ends.{Ends, stays, chosen}
use Rattle.string_literal.specs.Text.{Text, text_at, end_or, string_literal}
use Rattle.string_literal.proofs.Laws.{at_byte}
use Rattle.string_literal.proofs.Induction.{text_through}

module _ (q : List ℕ) (none : ℕ) where
  abbrev After : ℕ → Text → Type 0
  After at t = none ≤ at → at ≤ length q → (none ≤ end_or none t) × (end_or none t ≤ length q)

  pub end_after : (at : ℕ) → After at (text_at q at)
  unfolding end_or
  end_after =
      text_through q After (λ at e w a b. (omega arith, omega (arith, w))) (λ at e a b. (omega arith, omega arith))
      (λ at v next e w f a b. f (omega (arith, w.0)) w.1)

pub string_ends : (q : List ℕ) (at : ℕ) → Ends (length q) at (string_literal q at)
unfolding string_literal
string_ends q at = chosen (length q) (eqb (byte_at q at) 39) (λ t. go (at_byte q at 39 refl (eqb-true (byte_at q at) 39 t) (omega arith))) (λ t. stays (length q) at)
  where
    go : at < length q → Ends (length q) at (end_or at (text_at q (at + 1)))
    go h = let w = end_after q at (at + 1) (omega arith) (omega arith) in record { from = w.0; reach = omega (arith, w.1) }
