-- Laws of the number rules.
use Prim.Native.Nat.{ℕ, ◌<◌}
use mathlib.Core.Path.{◌≡◌, refl, sym, ◌∙◌}
use mathlib.Core.List.{List}
use mathlib.Core.Bool.{Bool, true, false}
use native.Mathlib.Omega.{arith}
use lib.ListN.{length}
use borrow.Author.Tests.{ne_eqb}
use Rattle.base.specs.Part.{byte_at}
use Rattle.base.proofs.Lists.{byte_within}
use Rattle.numeral.specs.Numeral.{one_of}

-- one of two bytes that are not 0 stands within the text
pub one_of_within : {t : Bool} {b : ℕ} (q : List ℕ) (at a c : ℕ) → b ≡ byte_at q at → t ≡ one_of a c b → t ≡ true → 0 < a → 0 < c → at < length q
one_of_within {t} {b} q at a c e f g ha hc = byte_within q at (λ z. no (e ∙ z))
  where
    no : b ≡ 0 → ⊥
    no z =
        let x : one_of a c b ≡ false = rw (z, ne_eqb 0 a (λ w. clash ha w), ne_eqb 0 c (λ w. clash hc w)) refl in
        let y : true ≡ false = sym g ∙ f ∙ x in
        let k : ◌≡◌ {A = ℕ} 0 1 = cc in
        omega arith
      where
        clash : {k : ℕ} → 0 < k → 0 ≡ k → ⊥
        clash l w = omega arith

pub at_byte : {b : ℕ} (q : List ℕ) (at k : ℕ) → b ≡ byte_at q at → b ≡ k → 0 < k → at < length q
at_byte q at k e f h = byte_within q at (λ z. let y : k ≡ 0 = sym f ∙ e ∙ z in omega arith)
