-- The bounds of the fields of a text, a date and a time.
use mathlib.Core.Path.{◌≡◌}
use mathlib.Core.Bool.{Bool, true, false}
use mathlib.Core.List.{List}
use Prim.Native.Nat.{ℕ, ◌+◌, ◌-◌, ◌≤◌, ◌<◌}
use native.Mathlib.Nat.{le_trans}
use native.Mathlib.Numerals.{add-one}
use native.Mathlib.Omega.{arith}
use lib.ListN.{length}
use lib.Dec.{eqb, leb, leb→le}
use borrow.Author.Tests.{eqb-true, leb-true}
use Rattle.base.specs.Pick.{pick}
use Rattle.base.specs.Part.{byte_at}
use Rattle.base.specs.Digit.{all_digits}
use Rattle.base.proofs.Digits.{value_below, digits_inside}
use Rattle.base.proofs.Says.{and_both}
use Rattle.base.proofs.Tabulate.{all_at}
use Rattle.datetime.specs.Calendar.{leap_year, leap_years, days_in_month, days_before_year, days_before_month}
use Rattle.datetime.specs.Moment.{days_before}
use Rattle.datetime.specs.Text.{shaped, date_in, interval_days, time_in, minutes_in}
use Rattle.datetime.specs.Fields.{is_date, is_time}
use Rattle.datetime.specs.declared.fields.Date.{Date}
use Rattle.datetime.specs.declared.fields.Time.{Time}

-- what the number of a field is read from: its bytes are there, few, and decimal digits
abbrev Field : List ℕ → (at n : ℕ) → Type 0
Field s at n = (n ≤ length s - at) × (n ≤ 15) × (all_digits 10 s at n ≡ true)

-- a shaped text has 25 bytes, so that no byte past its end is read, and digits that write numbers below powers of ten
pub record Shaped (s : List ℕ) : Type 0 where
  pub long : length s ≡ 25
  pub sign : 21 < length s
  pub point : byte_at s 14 ≡ 46
  pub before_point : (at n : ℕ) → at + n ≤ 14 → Field s at n
  pub after_point : Field s 15 6
  pub after_sign : Field s 22 3
  pub year : (date_in s).year < 10000
  pub days : interval_days s < 100000000
  pub microsecond : (time_in s).microsecond < 1000000
  pub minutes : minutes_in s < 1000

pub shape_of : (s : List ℕ) → shaped s ≡ true → Shaped s
unfolding shaped date_in time_in
shape_of s h =
    let p = and_both (eqb (length s) 25) _ h in
    let q = and_both (eqb (byte_at s 14) 46) _ p.1 in
    let d = and_both (all_digits 10 s 0 14) _ q.1 in
    let e = and_both (all_digits 10 s 15 6) _ d.1 in
    let l : length s ≡ 25 = eqb-true (length s) 25 p.0 in
    let f : (at n : ℕ) → at + n ≤ 14 → all_digits 10 s at n ≡ true = λ at n k. digits_inside 10 s 0 14 at n (omega arith) (omega arith) d.0 in
    record {
      long = l;
      sign = omega arith;
      point = eqb-true (byte_at s 14) 46 q.0;
      before_point = λ at n k. (omega arith, omega arith, f at n k);
      after_point = (omega arith, omega arith, e.0);
      after_sign = (omega arith, omega arith, e.1);
      year = value_below 10 s 0 4 (f 0 4 (omega arith));
      days = value_below 10 s 0 8 (f 0 8 (omega arith));
      microsecond = value_below 10 s 15 6 e.0;
      minutes = value_below 10 s 22 3 e.1;
    }

pub month_le : (leap : Bool) (m : ℕ) → m ≤ 12 → days_in_month leap m ≤ 31
month_le true m h = leb→le _ _ (all_at (λ (k : ℕ). leb (days_in_month true k) 31) 13 tt m (omega arith))
month_le false m h = leb→le _ _ (all_at (λ (k : ℕ). leb (days_in_month false k) 31) 13 tt m (omega arith))

pub record DateBounds (d : Date) : Type 0 where
  pub first_month : 1 ≤ d.month
  pub last_month : d.month ≤ 12
  pub first_day : 1 ≤ d.day
  pub last_day_law : d.day ≤ 31

pub date_bounds : (d : Date) → is_date d ≡ true → DateBounds d
date_bounds d h =
    let p = and_both (leb 1 d.month) _ h in
    let q = and_both (leb d.month 12) _ p.1 in
    let r = and_both (leb 1 d.day) _ q.1 in
    let m = leb-true d.month 12 q.0 in
    record {
      first_month = leb-true 1 d.month p.0;
      last_month = m;
      first_day = leb-true 1 d.day r.0;
      last_day_law = le_trans (leb-true d.day (days_in_month (leap_year d.year) d.month) r.1) (month_le (leap_year d.year) d.month m);
    }

-- a day counts from 1, so no difference is cut off at 0
pub day_from_one : (d : Date) → is_date d ≡ true → d.day - 1 + 1 ≡ d.day
day_from_one d h = let b = date_bounds d h in omega arith

-- a month ends within its year
month_ends : (leap : Bool) (m : ℕ) → m ≤ 12 → days_before_month leap m + days_in_month leap m ≤ 365 + pick leap 1 0
unfolding days_before_month
month_ends true m h = leb→le _ _ (all_at (λ (k : ℕ). leb (days_before_month true k + days_in_month true k) 366) 13 tt m (omega arith))
month_ends false m h = leb→le _ _ (all_at (λ (k : ℕ). leb (days_before_month false k + days_in_month false k) 365) 13 tt m (omega arith))

-- a date lies within its year
pub date_in_year : (d : Date) → is_date d ≡ true → days_before d < days_before_year (d.year + 1)
unfolding leap_years
date_in_year d h =
    let b = date_bounds d h in
    let p = and_both (leb 1 d.month) _ h in
    let q = and_both (leb d.month 12) _ p.1 in
    let r = and_both (leb 1 d.day) _ q.1 in
    let l = leb-true d.day (days_in_month (leap_year d.year) d.month) r.1 in
    rw (add-one d.year) (omega (arith, month_ends (leap_year d.year) d.month b.last_month))

pub record TimeBounds (t : Time) : Type 0 where
  pub hours : t.hour ≤ 23
  pub minutes : t.minute ≤ 59
  pub seconds : t.second ≤ 59

pub time_bounds : (t : Time) → is_time t ≡ true → TimeBounds t
time_bounds t h =
    let p = and_both (leb t.hour 23) _ h in
    let q = and_both (leb t.minute 59) _ p.1 in
    record {
      hours = leb-true t.hour 23 p.0;
      minutes = leb-true t.minute 59 q.0;
      seconds = leb-true t.second 59 q.1;
    }
