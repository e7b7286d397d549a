-- The marks of a watch over plain marks: how many they are, each by its place, each 1 or 0.
use Prim.Native.Nat.{ℕ, zero, suc, ◌+◌, ◌-◌, ◌≤◌, ◌<◌}
use mathlib.Core.List.{List, [], ◌∷◌, ◌++◌}
use mathlib.Core.Logic.{◌↔◌}
use mathlib.Core.Bool.{Bool, true, false}
use mathlib.Core.Path.{◌≡◌, refl, ap, ◌∙◌}
use native.Mathlib.Omega.{arith}
use lib.ListN.{length, get_or, take}
use lib.Dec.{leb}
use borrow.Author.Tests.{leb-true, le-leb}
use Rattle.base.specs.Pick.{pick}
use Rattle.base.proofs.Pick.{picked_small, picked_one}
use Rattle.run.specs.Totals.{count}
use Rattle.run.proofs.Counts.{one, count_none, count_next}
use Rattle.watch.specs.Window.{is_one, is_zero, last_of, included, window_mark, watch_marks_from, watch_marks}
use Rattle.watch.proofs.Windows.{last_before}

-- "1 when at least k of the last n .. are included, else 0"
pub one_exactly : (n k : ℕ) (ms : List ℕ) → (window_mark n k ms ≡ 1) ↔ (k ≤ included n ms)
one_exactly n k ms = (
  λ e. leb-true k (included n ms) (picked_one (leb k (included n ms)) e),
  λ h. ap (λ (b : Bool). pick b 1 0) (le-leb k (included n ms) h),
)

-- never 255
pub one_at_most : (n k : ℕ) (ms : List ℕ) → window_mark n k ms ≤ 1
one_at_most n k ms = picked_small (leb k (included n ms))

-- a run taken up again behind its last n - 1 instances: the marks of those that follow are the same
pub taken_up : (n k : ℕ) (before ms : List ℕ) → 1 ≤ n → 1 ≤ length ms → window_mark n k (before ++ ms) ≡ window_mark n k (last_of (n - 1) before ++ ms)
taken_up n k before ms g h = ap (λ (l : List ℕ). pick (leb k (count is_one l)) 1 0) (last_before n before ms g h)

one_or_zero : (b : Bool) → one is_one (pick b 1 0) + one is_zero (pick b 1 0) ≡ 1
one_or_zero true = refl
one_or_zero false = refl

module _ (n k : ℕ) (ms : List ℕ) where
  pub from_none : (j : ℕ) → watch_marks_from n k ms j 0 ≡ []
  unfolding watch_marks_from
  from_none j = refl

  pub from_next : (j c : ℕ) → watch_marks_from n k ms j (suc c) ≡ window_mark n k (take (j + 1) ms) ∷ watch_marks_from n k ms (j + 1) c
  unfolding watch_marks_from
  from_next j c = refl

  pub from_length : (j c : ℕ) → length (watch_marks_from n k ms j c) ≡ c
  from_length j zero = ap length (from_none j)
  from_length j (suc c) = ap length (from_next j c) ∙ ap suc (from_length (j + 1) c)

  from_at : (j c i : ℕ) → i < c → get_or (watch_marks_from n k ms j c) i 0 ≡ window_mark n k (take (j + i + 1) ms)
  from_at j zero i h = absurd (omega arith)
  from_at j (suc c) zero h =
      ap (λ (l : List ℕ). get_or l 0 0) (from_next j c) ∙ ap (λ (e : ℕ). window_mark n k (take e ms)) (let z : j + 1 ≡ j + 0 + 1 = omega arith in z)
  from_at j (suc c) (suc i) h =
      ap (λ (l : List ℕ). get_or l (suc i) 0) (from_next j c)
      ∙ from_at (j + 1) c i (omega arith)
      ∙ ap (λ (e : ℕ). window_mark n k (take e ms)) (let z : j + 1 + i + 1 ≡ j + suc i + 1 = omega arith in z)

  -- ones and zeros are all
  pub from_sum : (j c : ℕ) → count is_one (watch_marks_from n k ms j c) + count is_zero (watch_marks_from n k ms j c) ≡ c
  from_sum j zero = rw (from_none j) (omega (arith, count_none is_one, count_none is_zero))
  from_sum j (suc c) =
      let v = window_mark n k (take (j + 1) ms) in
      let w = watch_marks_from n k ms (j + 1) c in
      rw (from_next j c)
      (omega (arith, one_or_zero (leb k (included n (take (j + 1) ms))), count_next is_one v w, count_next is_zero v w, from_sum (j + 1) c))

  -- the j-th mark is that of the window that ends there
  pub watch_marks_at : (j : ℕ) → j < length ms → get_or (watch_marks n k ms) j 0 ≡ window_mark n k (take (j + 1) ms)
  watch_marks_at j h = from_at 0 (length ms) j h ∙ ap (λ (e : ℕ). window_mark n k (take e ms)) (let z : 0 + j + 1 ≡ j + 1 = omega arith in z)

  pub watch_marks_length : length (watch_marks n k ms) ≡ length ms
  watch_marks_length = from_length 0 (length ms)
