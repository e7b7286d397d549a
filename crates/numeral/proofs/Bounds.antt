-- Where the number rules end: never before their place, and within the text.
use Prim.Native.Nat.{ℕ, ◌+◌, ◌<◌}
use mathlib.Core.Path.{◌≡◌, refl}
use mathlib.Core.List.{List}
use mathlib.Core.Bool.{true}
use native.Mathlib.Omega.{arith}
use lib.ListN.{length}
use lib.Dec.{ltb, eqb}
use borrow.Author.Tests.{eqb-true}
use Rattle.base.specs.Part.{byte_at}
use Rattle.scan.specs.Class.{run}
use Rattle.scan.specs.declared.Class.TheVariants.{Digit}
use Rattle.scan.proofs.Ends.{Ends, stays, on, chosen, one_on, run_ends}
use Rattle.scan.proofs.Runs.{run_reach}
use Rattle.numeral.specs.Numeral.{one_of, moved, signed, unsigned_integer, decimal_literal, binary_body, binary_literal, hex_pairs, hex_body, hex_literal, exact_numeric, exponent_part, real_body, real_literal}
use Rattle.numeral.proofs.Laws.{one_of_within, at_byte}

module _ (n : ℕ) where
  moved_ends : {at s e : ℕ} → Ends n at s → Ends n s e → Ends n at (moved at s e)
  moved_ends {at} {s} {e} f g = chosen n (ltb s e) (λ t. on n f g) (λ t. stays n at)

module _ (q : List ℕ) where
  abbrev n : ℕ
  n = length q

  after_byte : (at k : ℕ) → 0 < k → eqb (byte_at q at) k ≡ true → Ends n at (at + 1)
  after_byte at k h t = one_on n (at_byte q at k refl (eqb-true (byte_at q at) k t) h)

  after_either : (at a c : ℕ) → 0 < a → 0 < c → one_of a c (byte_at q at) ≡ true → Ends n at (at + 1)
  after_either at a c f g t = one_on n (one_of_within q at a c refl refl t f g)

  pub signed_ends : (at : ℕ) → Ends n at (signed q at)
  unfolding signed
  signed_ends at = chosen n (one_of 43 45 (byte_at q at)) (after_either at 43 45 (omega arith) (omega arith)) (λ t. stays n at)

  pub unsigned_ends : (at : ℕ) → Ends n at (unsigned_integer q at)
  unfolding unsigned_integer
  unsigned_ends at = run_ends (Digit 10) q at

  pub decimal_ends : (at : ℕ) → Ends n at (decimal_literal q at)
  unfolding decimal_literal
  decimal_ends at = moved_ends n (signed_ends at) (unsigned_ends (signed q at))

  pub binary_body_ends : (at : ℕ) → Ends n at (binary_body q at)
  unfolding binary_body
  binary_body_ends at =
      chosen n (ltb at (run (Digit 2) q at))
      (λ t. chosen n (one_of 66 98 (byte_at q (run (Digit 2) q at)))
      (λ u. on n (run_ends (Digit 2) q at) (after_either (run (Digit 2) q at) 66 98 (omega arith) (omega arith) u))
      (λ u. stays n at))
      (λ t. stays n at)

  pub binary_ends : (at : ℕ) → Ends n at (binary_literal q at)
  unfolding binary_literal
  binary_ends at = moved_ends n (signed_ends at) (binary_body_ends (signed q at))

  pub pairs_end : (at : ℕ) → Ends n at (hex_pairs q at)
  unfolding hex_pairs
  pairs_end at = record { from = omega arith; reach = omega (arith, run_reach (Digit 16) q at) }

  pub hex_body_ends : (at : ℕ) → Ends n at (hex_body q at)
  unfolding hex_body
  hex_body_ends at =
      chosen n (eqb (byte_at q at) 48)
      (λ t. chosen n (one_of 88 120 (byte_at q (at + 1)))
      (λ u. moved_ends n (two (after_byte at 48 (omega arith) t) (after_either (at + 1) 88 120 (omega arith) (omega arith) u)) (pairs_end (at + 2)))
      (λ u. stays n at))
      (λ t. stays n at)
    where
      two : {at : ℕ} → Ends n at (at + 1) → Ends n (at + 1) (at + 1 + 1) → Ends n at (at + 2)
      two f g = record { from = omega arith; reach = omega (arith, f.reach, g.reach) }

  pub hex_ends : (at : ℕ) → Ends n at (hex_literal q at)
  unfolding hex_literal
  hex_ends at = moved_ends n (signed_ends at) (hex_body_ends (signed q at))

  pub exact_ends : (at : ℕ) → Ends n at (exact_numeric q at)
  unfolding exact_numeric
  exact_ends at =
      chosen n (eqb (byte_at q (unsigned_integer q at)) 46)
      (λ t. chosen n (ltb at (unsigned_integer q at)) (λ u. on n (past t) (unsigned_ends (unsigned_integer q at + 1)))
      (λ u. moved_ends n (past t) (unsigned_ends (unsigned_integer q at + 1))))
      (λ t. stays n at)
    where
      past : eqb (byte_at q (unsigned_integer q at)) 46 ≡ true → Ends n at (unsigned_integer q at + 1)
      past t = on n (unsigned_ends at) (after_byte (unsigned_integer q at) 46 (omega arith) t)

  pub exponent_ends : (at : ℕ) → Ends n at (exponent_part q at)
  unfolding exponent_part
  exponent_ends at =
      chosen n (one_of 69 101 (byte_at q at))
      (λ t. moved_ends n (after_either at 69 101 (omega arith) (omega arith) t) (decimal_ends (at + 1)))
      (λ t. stays n at)

  pub real_body_ends : (at : ℕ) → Ends n at (real_body q at)
  unfolding real_body
  real_body_ends at = chosen n (ltb at (exact_numeric q at)) (λ t. on n (exact_ends at) (exponent_ends (exact_numeric q at))) (λ t. stays n at)

  pub real_ends : (at : ℕ) → Ends n at (real_literal q at)
  unfolding real_literal
  real_ends at = moved_ends n (signed_ends at) (real_body_ends (signed q at))
