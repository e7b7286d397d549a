-- A date lies between the first and the last day of its month, of its year, and of the years 0000 to 9999.
use Prim.Native.Nat.{◌+◌, ◌≤◌, ◌<◌}
use native.Mathlib.Numerals.{add-one}
use mathlib.Core.Path.{◌≡◌, refl}
use mathlib.Core.Bool.{Bool, true, false}
use native.Mathlib.Omega.{arith}
use Rattle.datetime.specs.Calendar.{leap_year, days_in_month, days_before_month}
use Rattle.datetime.specs.Fields.{is_date}
use Rattle.datetime.specs.Moment.{days_before}
use Rattle.datetime.specs.declared.fields.Date.{Date}
use Rattle.datetime.proofs.Accepted.{says_date}
use Rattle.datetime.proofs.Bounds.{date_in_year}
use Rattle.datetime.proofs.Days.{date, first_day, next_year}
use Rattle.datetime.proofs.Years.{leap_years_grow}

first_month : (leap : Bool) → days_before_month leap 1 ≡ 0
unfolding days_before_month
first_month true = refl
first_month false = refl

module _ (d : Date) (valid : is_date d ≡ true) where
  pub month_starts : days_before (date d.year d.month 1) ≤ days_before d
  month_starts = omega arith

  pub month_ends : days_before d ≤ days_before (date d.year d.month (days_in_month (leap_year d.year) d.month))
  month_ends = let h = (says_date d).to valid in omega arith

  pub year_starts : days_before (date d.year 1 1) ≤ days_before d
  year_starts = omega (arith, first_month (leap_year d.year))

  pub year_ends : days_before d ≤ days_before (date d.year 12 31)
  year_ends = omega (arith, rw (add-one d.year) at (date_in_year d valid), next_year d.year)

  pub years_start : days_before (date 0 1 1) ≤ days_before d
  years_start = omega (arith, first_day)

  pub years_end : d.year < 10000 → days_before d ≤ days_before (date 9999 12 31)
  years_end h = omega (arith, date_in_year d valid, leap_years_grow (d.year + 1) 10000 (omega arith), next_year 9999)
