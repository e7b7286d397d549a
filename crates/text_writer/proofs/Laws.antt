-- One law for each exit of `src/decimal.rt`.
use Prim.Native.Nat.{ℕ, ◌+◌, ◌/◌, ◌%◌, ◌≤◌, ◌<◌}
use mathlib.Core.List.{List, [], ◌∷◌}
use mathlib.Core.Path.{◌≡◌}
use Rattle.text_writer.specs.Decimal.{decimal}
use Rattle.text_writer.specs.Written.{Written}
use Rattle.text_writer.proofs.Written.{written_then}
use Rattle.text_writer.proofs.Digits.{decimal_small, decimal_large}

module _ {b : List ℕ} {at n : ℕ} where
  pub decimal_one : {d r : ℕ} {c : List ℕ} → n < 10 → d ≡ 48 + n → Written b at (d ∷ []) r c → Written b at (decimal n) r c
  decimal_one h e w = rw (decimal_small n h, ← e) w

  pub decimal_last : {d p r : ℕ} {c f : List ℕ} → 10 ≤ n → Written b at (decimal (n / 10)) p c → d ≡ 48 + n % 10 → Written c p (d ∷ []) r f → Written b at (decimal n) r f
  decimal_last h w e v = rw (decimal_large n h, ← e) (written_then w v)
