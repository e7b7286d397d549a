-- Recursion over the offsets of a slice of `n` bytes: a step gives the value at an offset from the values at later ones.
-- The fuel is seen nowhere else: the law `from_at` of proofs/Walk unfolds any such definition by one step.
use Rattle.std.specs.Prelude.{ℕ, zero, suc, ◌-◌, ◌≤◌, ◌<◌, ◌≡◌}

module _ {R : Type 0} (step : ℕ → (ℕ → R) → R) (none : R) where
  unfoldable pub walk : ℕ → ℕ → R
  walk zero at = none
  walk (suc f) at = step at (walk f)

-- the value at `at` of the recursion by `step` over `n` bytes
unfoldable pub from : {R : Type 0} → (ℕ → (ℕ → R) → R) → R → ℕ → ℕ → R
from step none n at = walk step none (suc (n - at)) at

-- a step looks only at later offsets, up to the end
abbrev pub Later : {R : Type 0} → (ℕ → (ℕ → R) → R) → ℕ → Type 0
Later {R} step n =
    (at : ℕ) (p q : ℕ → R) → ((next : ℕ) → at < next → next ≤ n → p next ≡ q next) → step at p ≡ step at q
