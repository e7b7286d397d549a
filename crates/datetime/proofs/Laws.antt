-- One law for each exit of the functions that read a datetime, its premises in the order in which the code learns them.
use mathlib.Core.Path.{◌≡◌, ◌∙◌, sym}
use mathlib.Core.Bool.{Bool, true, false, not, ◌&&◌, ◌||◌, or-false}
use mathlib.Core.List.{List}
use mathlib.Core.Logic.{◌⊎◌, inl, inr}
use Prim.Native.Nat.{ℕ, ◌≤◌, ◌<◌}
use lib.Dec.{eqb, leb}
use lib.ListN.{length}
use lib.IntN.{ℤ}
use mir.Syntax.{w64}
use mir.Val.{to_z, of_z}
use mir.Facts.{to_z-of_z}
use borrow.Author.Tests.{eq-eqb, ne_eqb, eqb-true, le-leb, lt-leb, not-true, not-false}
use native.Mathlib.Omega.{arith}
use Rattle.base.specs.Part.{byte_at}
use Rattle.base.specs.Digit.{all_digits}
use Rattle.base.proofs.Signed.{to_z_small}
use Rattle.datetime.specs.Calendar.{leap_year, days_in_month}
use Rattle.datetime.specs.Fields.{is_date, is_time}
use Rattle.datetime.specs.Text.{shaped, date_in, interval_days, time_in, sign_in, minutes_in}
use Rattle.datetime.specs.Moment.{days_before, elapsed, offset_of, moment_at}
use Rattle.datetime.specs.Exact.{is_sign, is_timestamp, is_interval, microseconds}
use Rattle.datetime.specs.Datetime.{sorted}
use Rattle.datetime.specs.declared.Span.{Span}
use Rattle.datetime.specs.declared.Datetime.TheVariants.{Timestamp, Interval}
use Rattle.datetime.specs.declared.fields.Date.{Date}
use Rattle.datetime.specs.declared.fields.Time.{Time}
use Rattle.datetime.proofs.Bounds.{Shaped, shape_of}
use Rattle.datetime.proofs.Sorts.{TimestampText, IntervalText, either_text}
use Rattle.datetime.proofs.Moments.{moment_fits}

-- a test that `if !..` let pass
pub passed : {q : Bool} (p : Bool) → q ≡ p → not q ≡ false → p ≡ true
passed {q} p e h = sym e ∙ not-false q h

-- a date's tests
module _ (d : Date) where
  pub month_zero : d.month < 1 → false ≡ is_date d
  month_zero h = rw (lt-leb _ _ h)

  module _ (from : 1 ≤ d.month) where
    pub month_past : 12 < d.month → false ≡ is_date d
    month_past h = rw (le-leb _ _ from, lt-leb _ _ h)

    module _ (to : d.month ≤ 12) where
      pub day_zero : d.day < 1 → false ≡ is_date d
      day_zero h = rw (le-leb _ _ from, le-leb _ _ to, lt-leb _ _ h)

      pub day_last : 1 ≤ d.day → {leap : Bool} → leap ≡ leap_year d.year → {n : ℕ} → n ≡ days_in_month leap d.month → leb d.day n ≡ is_date d
      day_last h {leap} e {n} f = rw (le-leb _ _ from, le-leb _ _ to, le-leb _ _ h, f, e)

-- a text's tests
module _ (s : List ℕ) where
  pub not_long : (length s ≡ 25 → ⊥) → false ≡ shaped s
  unfolding shaped
  not_long h = rw (ne_eqb _ _ h)

  module _ (long : length s ≡ 25) where
    pub no_point : (byte_at s 14 ≡ 46 → ⊥) → false ≡ shaped s
    unfolding shaped
    no_point h = rw (eq-eqb _ _ long, ne_eqb _ _ h)

    module _ {p : Bool} (point : byte_at s 14 ≡ 46) (first : p ≡ all_digits 10 s 0 14) where
      pub no_first_digits : not p ≡ true → false ≡ shaped s
      unfolding shaped
      no_first_digits h = rw (eq-eqb _ _ long, eq-eqb _ _ point, ← first, not-true p h)

      module _ {q : Bool} (good : not p ≡ false) (second : q ≡ all_digits 10 s 15 6) where
        pub no_microseconds : not q ≡ true → false ≡ shaped s
        unfolding shaped
        no_microseconds h = rw (eq-eqb _ _ long, eq-eqb _ _ point, ← first, not-false p good, ← second, not-true q h)

        pub offset_digits : not q ≡ false → {r : Bool} → r ≡ all_digits 10 s 22 3 → r ≡ shaped s
        unfolding shaped
        offset_digits h e = rw (eq-eqb _ _ long, eq-eqb _ _ point, ← first, not-false p good, ← second, not-false q h) e

-- whether it is one
module _ {r : Bool} (s : List ℕ) (shape : r ≡ shaped s) where
  pub no_datetime_law : not r ≡ true → false ≡ (is_timestamp s || is_interval s)
  no_datetime_law h = rw (← shape, not-true r h)

  module _ (good : not r ≡ false) {t : Time} (time : t ≡ time_in s) {q : Bool} (timed : q ≡ is_time t) where
    pub out_of_time : not q ≡ true → false ≡ (is_timestamp s || is_interval s)
    out_of_time h = rw (← shape, not-false r good, ← time, ← timed, not-true q h)

    module _ (in-time : not q ≡ false) where
      pub interval_by_tail : sign_in s ≡ 58 → {m : ℕ} → m ≡ minutes_in s → eqb m 0 ≡ (is_timestamp s || is_interval s)
      interval_by_tail h e = rw (← shape, not-false r good, ← time, ← timed, not-false q in-time, h, e)

      pub timestamp_by_date : (sign_in s ≡ 58 → ⊥) → {p : Bool} → p ≡ is_sign (sign_in s) → {d : Date} → d ≡ date_in s → {b : Bool} → b ≡ is_date d → (p && b) ≡ (is_timestamp s || is_interval s)
      timestamp_by_date h {p} ep ed {b} eb = rw (← shape, not-false r good, ← time, ← timed, not-false q in-time, ne_eqb _ _ h, ← ep, ← ed, ← eb) (sym (or-false (p && b)))

-- what it says
module _ (s : List ℕ) (told : (is_timestamp s || is_interval s) ≡ true) where
  both_ask : (shaped s ≡ true) × (is_time (time_in s) ≡ true)
  both_ask = go (either_text s told)
    where
      go : TimestampText s ⊎ IntervalText s → (shaped s ≡ true) × (is_time (time_in s) ≡ true)
      go (inl t) = (t.shape, t.time)
      go (inr t) = (t.shape, t.time)

  pub exact_shaped : shaped s ≡ true
  exact_shaped = both_ask.0

  bounds : Shaped s
  bounds = shape_of s exact_shaped

  pub time_passes : {t : Time} → t ≡ time_in s → is_time t ≡ true
  time_passes e = rw e both_ask.1

  pub microsecond_below : {t : Time} → t ≡ time_in s → t.microsecond < 1000000
  microsecond_below e = rw e bounds.microsecond

  pub days_below : {n : ℕ} → n ≡ interval_days s → n < 100000000
  days_below e = rw e bounds.days

  pub minutes_below : {n : ℕ} → n ≡ minutes_in s → n < 1000
  minutes_below e = rw e bounds.minutes

  pub says_interval : sign_in s ≡ 58 → {t : Time} → t ≡ time_in s → {d : ℕ} → d ≡ interval_days s → {n : ℕ} → n ≡ elapsed d t → n < 8640000000000000000
      → to_z w64 n ≡ microseconds s
  says_interval h et ed {n} en l = rw (to_z_small w64 n (omega arith), en, et, ed, eq-eqb _ _ h)

  module _ (other : sign_in s ≡ 58 → ⊥) where
    pub dated : {d : Date} → d ≡ date_in s → (is_date d ≡ true) × (d.year < 10000)
    dated e = rw e (go (either_text s told), bounds.year)
      where
        go : TimestampText s ⊎ IntervalText s → is_date (date_in s) ≡ true
        go (inl t) = t.date
        go (inr t) = absurd (other (eqb-true (sign_in s) 58 t.colon))

    pub says_timestamp : {t : Time} → t ≡ time_in s → {d : Date} → d ≡ date_in s → {m : ℕ} → m ≡ days_before d → {n : ℕ} → n ≡ elapsed m t → n < 8640000000000000000
        → {o : ℕ} → o ≡ minutes_in s → {z : ℤ} → z ≡ moment_at n (offset_of (sign_in s) o) → to_z w64 (of_z w64 z) ≡ microseconds s
    says_timestamp et ed em {n} en l eo ez =
        rw (ez, to_z-of_z (moment_fits n (sign_in s) _ (omega arith) (minutes_below eo)), en, em, et, ed, eo, ne_eqb _ _ other)

-- which of the two it is
module _ {sign : ℕ} (x : Span) where
  pub sorts_interval : sign ≡ 58 → Interval x ≡ sorted (eqb sign 58) x
  sorts_interval h = rw (eq-eqb _ _ h)

  pub sorts_timestamp : (sign ≡ 58 → ⊥) → Timestamp x ≡ sorted (eqb sign 58) x
  sorts_timestamp h = rw (ne_eqb _ _ h)
