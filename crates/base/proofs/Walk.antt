-- Any recursion over offsets unfolds by one step: its fuel is enough.
use Prim.Native.Nat.{ℕ, zero, suc, ◌-◌, ◌<◌}
use mathlib.Core.Path.{◌≡◌}
use native.Mathlib.Omega.{arith}
use Rattle.base.specs.Walk.{walk, from, Later}

module _ {R : Type 0} (step : ℕ → (ℕ → R) → R) (none : R) (n : ℕ) (later : Later step n) where
  enough : (f g at : ℕ) → n - at < f → n - at < g → walk step none f at ≡ walk step none g at
  unfolding walk
  enough zero g at h k = absurd (omega arith)
  enough (suc f) zero at h k = absurd (omega arith)
  enough (suc f) (suc g) at h k = later at _ _ (λ next a b. enough f g next (omega arith) (omega arith))

  pub from_at : (at : ℕ) → from step none n at ≡ step at (from step none n)
  unfolding from walk
  from_at at = later at _ _ (λ next a b. enough (n - at) (suc (n - next)) next (omega arith) (omega arith))
