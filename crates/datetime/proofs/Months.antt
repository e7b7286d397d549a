-- The days of a month and the days before it, by its number: one law for each arm of the code.
use Prim.Native.Nat.{ℕ, zero, suc, ◌+◌, ◌≤◌, ◌<◌}
use mathlib.Core.Path.{◌≡◌, refl, sym, ◌∙◌}
use mathlib.Core.Bool.{Bool, true, false, ◌&&◌, ◌||◌}
use native.Mathlib.Nat.{add-zero}
use native.Mathlib.Omega.{arith}
use lib.Dec.{T, ltb, eqb, eqb→eq}
use borrow.Author.Tests.{ne_eqb}
use Rattle.base.proofs.Says.{apart}
use Rattle.base.proofs.Tabulate.{all_at}
use Rattle.base.specs.Pick.{pick}
use Rattle.datetime.specs.Calendar.{days_in_month, days_before_month}

-- in a leap year and in others
pub of_days : {m : ℕ} (leap : Bool) (n days : ℕ) → m ≡ n → days_in_month true n ≡ days → days_in_month false n ≡ days → days ≡ days_in_month leap m
of_days true n days e t f = rw (e, t)
of_days false n days e t f = rw (e, f)

-- the numbers that have an arm of their own
abbrev pub NoArm : ℕ → Type 0
NoArm m = ((((Unit × (m ≡ 2 → ⊥)) × (m ≡ 4 → ⊥)) × (m ≡ 6 → ⊥)) × (m ≡ 9 → ⊥)) × (m ≡ 11 → ⊥)

arm_or31 : (leap : Bool) → ℕ → Bool
arm_or31 leap m = eqb m 2 || (eqb m 4 || (eqb m 6 || (eqb m 9 || (eqb m 11 || eqb (days_in_month leap m) 31))))

each : (leap : Bool) (m : ℕ) → 1 ≤ m → m ≤ 12 → T (arm_or31 leap m)
unfolding arm_or31
each leap zero h l = absurd (omega arith)
each true (suc m) h l = all_at (λ (j : ℕ). arm_or31 true (suc j)) 12 tt m (omega arith)
each false (suc m) h l = all_at (λ (j : ℕ). arm_or31 false (suc j)) 12 tt m (omega arith)

pub of_31_days : (leap : Bool) (m : ℕ) → 1 ≤ m → m ≤ 12 → NoArm m → 31 ≡ days_in_month leap m
unfolding arm_or31
of_31_days leap m h l n = sym (go (days_in_month leap m) (each leap m h l))
  where
    go : (days : ℕ) → T (eqb m 2 || (eqb m 4 || (eqb m 6 || (eqb m 9 || (eqb m 11 || eqb days 31))))) → days ≡ 31
    go days t =
        eqb→eq days 31
        (rw (ne_eqb m 2 n.0.0.0.0.1, ne_eqb m 4 n.0.0.0.1, ne_eqb m 6 n.0.0.1, ne_eqb m 9 n.0.1, ne_eqb m 11 n.1) at t)

-- after February a leap year is a day ahead
ahead : (m : ℕ) → m < 13 → days_before_month true m ≡ days_before_month false m + pick (ltb 2 m) 1 0
unfolding days_before_month
ahead m h = eqb→eq _ _ (all_at (λ (k : ℕ). eqb (days_before_month true k) (days_before_month false k + pick (ltb 2 k) 1 0)) 13 tt m h)

module _ {days : ℕ} (leap : Bool) (m : ℕ) (there : m ≤ 12) (common : days ≡ days_before_month false m) where
  pub with_leap_day : (leap && ltb 2 m) ≡ true → days + 1 ≡ days_before_month leap m
  with_leap_day h = go leap h
    where
      go : (b : Bool) → (b && ltb 2 m) ≡ true → days + 1 ≡ days_before_month b m
      go true e = rw common (sym (ahead m (omega arith) ∙ rw e refl))
      go false e = absurd (apart e)

  pub without_leap_day : (leap && ltb 2 m) ≡ false → days ≡ days_before_month leap m
  without_leap_day h = go leap h
    where
      go : (b : Bool) → (b && ltb 2 m) ≡ false → days ≡ days_before_month b m
      go true e = common ∙ sym (ahead m (omega arith) ∙ rw e (add-zero (days_before_month false m)))
      go false e = common
