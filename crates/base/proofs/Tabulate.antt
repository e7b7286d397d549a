-- A constant table's rule, once over the whole table: a table that equals the list of a function's values at 0, 1, .. holds the value at each index;
-- a test that is computed over all indices holds at each.
use mathlib.Core.Path.{◌≡◌, ◌∙◌, ap, sym, subst}
use mathlib.Core.Bool.{Bool, true, ◌&&◌}
use lib.Dec.{T}
use lib.Ieee.Fits.{and_l, and_r}
use mathlib.Core.List.{List, [], ◌∷◌}
use Prim.Native.Nat.{ℕ, zero, suc, ◌+◌, ◌<◌}
use native.Mathlib.Nat.{add-zero, zero-add, add-suc, suc-add, le_of_suc-le-suc, not-suc-le-zero}
use lib.ListN.{get_or}

module _ {A : Type 0} where
  abbrev pub tab : (ℕ → A) → ℕ → ℕ → List A
  tab f i zero = []
  tab f i (suc n) = f i ∷ tab f (suc i) n

  from : (f : ℕ → A) (i n k : ℕ) (d : A) → k < n → get_or (tab f i n) k d ≡ f (i + k)
  from f i zero k d h = absurd (not-suc-le-zero h)
  from f i (suc n) zero d h = ap f (sym (add-zero i))
  from f i (suc n) (suc k) d h = from f (suc i) n k d (le_of_suc-le-suc h) ∙ ap f (suc-add i k ∙ sym (add-suc i k))

  pub tab_at : (f : ℕ → A) (n k : ℕ) (d : A) → k < n → get_or (tab f 0 n) k d ≡ f k
  tab_at f n k d h = from f 0 n k d h ∙ ap f (zero-add k)

-- a test that passes at each number from i on, n of them: computed once
abbrev pub all : (ℕ → Bool) → ℕ → ℕ → Bool
all t i zero = true
all t i (suc n) = t i && all t (suc i) n

all_from : (t : ℕ → Bool) (i n : ℕ) → T (all t i n) → (k : ℕ) → k < n → T (t (i + k))
all_from t i zero h k l = absurd (not-suc-le-zero l)
all_from t i (suc n) h zero l = subst (λ (m : ℕ). T (t m)) (sym (add-zero i)) (and_l (t i) (all t (suc i) n) h)
all_from t i (suc n) h (suc k) l =
    subst (λ (m : ℕ). T (t m)) (suc-add i k ∙ sym (add-suc i k)) (all_from t (suc i) n (and_r (t i) (all t (suc i) n) h) k (le_of_suc-le-suc l))

pub all_at : (t : ℕ → Bool) (n : ℕ) → T (all t 0 n) → (k : ℕ) → k < n → T (t k)
all_at t n h k l = subst (λ (m : ℕ). T (t m)) (zero-add k) (all_from t 0 n h k l)
