-- Days are counted one by one: the year 0000 starts at 0, and the day after each day, over the ends of months and years, has the next number.
use mathlib.Core.Path.{◌≡◌, refl}
use mathlib.Core.Bool.{Bool, true, false}
use Prim.Native.Nat.{ℕ, suc, ◌+◌, ◌≤◌, ◌<◌}
use native.Mathlib.Omega.{arith}
use lib.Dec.{leb, leb→le}
use Rattle.base.specs.Pick.{pick}
use Rattle.base.proofs.Tabulate.{all_at}
use Rattle.datetime.specs.Calendar.{leap_year, leap_years, days_before_month, days_in_month}
use Rattle.datetime.specs.Moment.{days_before}
use Rattle.datetime.specs.declared.fields.Date.{Date}

abbrev pub date : ℕ → ℕ → ℕ → Date
date y m d = record { year = y; month = m; day = d }

pub first_day : days_before (date 0 1 1) ≡ 0
unfolding leap_years days_before_month
first_day = refl

pub next_day : (y m d : ℕ) → 1 ≤ d → days_before (date y m (d + 1)) ≡ days_before (date y m d) + 1
next_day y m d h = omega arith

some_day : (leap : Bool) (m : ℕ) → m < 12 → 1 ≤ days_in_month leap (suc m)
some_day true m h = leb→le _ _ (all_at (λ (k : ℕ). leb 1 (days_in_month true (suc k))) 12 tt m h)
some_day false m h = leb→le _ _ (all_at (λ (k : ℕ). leb 1 (days_in_month false (suc k))) 12 tt m h)

pub next_month : (y m : ℕ) → m < 12 → days_before (date y (suc (suc m)) 1) ≡ days_before (date y (suc m) (days_in_month (leap_year y) (suc m))) + 1
unfolding days_before_month
next_month y m h = let n = some_day (leap_year y) m h in omega arith

pub next_year : (y : ℕ) → days_before (date (suc y) 1 1) ≡ days_before (date y 12 31) + 1
unfolding leap_years days_before_month
next_year y = omega (arith, last (leap_year y), first (leap_year (suc y)))
  where
    last : (leap : Bool) → days_before_month leap 12 ≡ 334 + pick leap 1 0
    last true = refl
    last false = refl

    first : (leap : Bool) → days_before_month leap 1 ≡ 0
    first true = refl
    first false = refl
