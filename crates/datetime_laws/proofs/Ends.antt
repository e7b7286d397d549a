-- The ends of a datetime with unknown digits: every text that is alike to it where it is known, and is a datetime, rises from the lowest and up to the highest.
use Prim.Native.Nat.{ℕ, ◌+◌, ◌-◌, ◌≤◌, ◌<◌}
use mathlib.Core.Path.{◌≡◌, refl, sym, ◌∙◌, subst}
use mathlib.Core.Bool.{Bool, true, false, ◌||◌}
use mathlib.Core.List.{List}
use mathlib.Core.Logic.{◌⊎◌, inl, inr}
use native.Mathlib.Nat.{le_refl}
use native.Mathlib.Omega.{arith}
use lib.Dec.{ltb}
use lib.ListN.{length}
use borrow.Author.Tests.{ltb-true, eq-eqb, ne_eqb}
use Rattle.base.specs.Part.{byte_at}
use Rattle.base.specs.Range.{within}
use Rattle.base.specs.Digit.{digit_of}
use Rattle.base.proofs.Says.{apart}
use Rattle.base.proofs.Digits.{digit_in}
use Rattle.datetime.specs.Calendar.{leap_year, days_in_month}
use Rattle.datetime.specs.Fields.{is_date, is_time}
use Rattle.datetime.specs.Text.{number, shaped, date_in, time_in, has_colon}
use Rattle.datetime.specs.Moment.{days_before}
use Rattle.datetime.specs.Exact.{is_timestamp, is_interval}
use Rattle.datetime.specs.Unknown.{may_start, filled, lowest_digits, highest_digits, last_day, lowest_text, highest_text}
use Rattle.datetime.specs.Datetime.{says_to}
use Rattle.datetime.proofs.Bounds.{shape_of, TimeBounds, time_bounds}
use Rattle.datetime.proofs.Days.{date}
use Rattle.datetime_laws.proofs.Dates.{month_starts, month_ends, year_starts, year_ends, years_start, years_end}
use Rattle.datetime.proofs.Filled.{byte_filled, number_filled}
use Rattle.datetime.proofs.Refilled.{Whole, whole}
use Rattle.datetime_laws.proofs.Monotone.{NoLater, Rises}
use Rattle.datetime.proofs.Sorts.{TimestampText, IntervalText, either_text}
use Rattle.datetime.proofs.EndDigits.{TimeDigits, DateDigits, lowest_time, lowest_date, lowest_days, highest_time, highest_days}
use Rattle.datetime.proofs.Highest.{starts, text_long, latest}
use Rattle.datetime_laws.proofs.Alike.{Alike, filled_alike, alike_both, same_sign, same_colon, same_minutes, same_field, field_grows, times_grow}

-- where a timestamp's unknown digits start, as far as its date goes
data DateStart (k : ℕ) : Type 0 where
  after_day : 8 ≤ k → DateStart k
  at_day : k ≡ 6 → DateStart k
  at_month : k ≡ 4 → DateStart k
  at_year : k ≡ 0 → DateStart k

date_start : (k : ℕ) → may_start false k ≡ true → DateStart k
date_start k starts = go (whole false k starts 6 1 tt) (whole false k starts 4 1 tt) (whole false k starts 0 3 tt)
  where
    go : Whole k 6 2 → Whole k 4 2 → Whole k 0 4 → DateStart k
    go (inl d) m y = after_day d
    go (inr d) (inl m) y = at_day (omega arith)
    go (inr d) (inr m) (inl y) = at_month (omega arith)
    go (inr d) (inr m) (inr y) = at_year (omega arith)

module _ (k : ℕ) (s c : List ℕ) (few : k ≤ 21) (long : length s ≡ 25) (alike : Alike k c s) where
  module _ (d : List ℕ) (full : length d ≡ 21) where
    filled_like : Alike k (filled k d s) c
    filled_like = alike_both (filled_alike k d s few long full) alike

    like_filled : Alike k c (filled k d s)
    like_filled = alike_both alike (filled_alike k d s few long full)

    field : (at n v : ℕ) → number d at n ≡ v → k ≤ at → at + n ≤ 21 → number (filled k d s) at n ≡ v
    field at n v e h l = number_filled k d s few long full at n h l ∙ e

  module _ (interval : Bool) (starts : may_start interval k ≡ true) (d : List ℕ) where
    times_from : TimeDigits d 0 0 0 48 → NoLater (time_in (filled k d s)) (time_in c)
    unfolding digit_of within
    times_from t =
        times_grow k (filled k d s) c (filled_like d t.full) interval starts
        (λ h. rw (field d t.full 8 2 0 t.hours h (omega arith)) (omega arith))
        (λ h. rw (field d t.full 10 2 0 t.minutes h (omega arith)) (omega arith))
        (λ h. rw (field d t.full 12 2 0 t.seconds h (omega arith)) (omega arith))
        (λ i h g l. rw (byte_filled k d s few long t.full i h l ∙ t.microseconds i g l) (omega arith))

    times_to : TimeDigits d 23 59 59 57 → shaped c ≡ true → is_time (time_in c) ≡ true → NoLater (time_in c) (time_in (filled k d s))
    unfolding time_in digit_of within
    times_to t shape time =
        times_grow k c (filled k d s) (like_filled d t.full) interval starts
        (λ h. rw (field d t.full 8 2 23 t.hours h (omega arith)) bound.hours)
        (λ h. rw (field d t.full 10 2 59 t.minutes h (omega arith)) bound.minutes)
        (λ h. rw (field d t.full 12 2 59 t.seconds h (omega arith)) bound.seconds)
        (λ i h g l. rw (byte_filled k d s few long t.full i h l ∙ t.microseconds i g l) (nine i g l))
      where
        bound : TimeBounds (time_in c)
        bound = time_bounds (time_in c) time

        nine : (i : ℕ) → 15 ≤ i → i < 15 + 6 → digit_of (byte_at c i) ≤ digit_of 57
        nine i g l =
            let e : 15 + (i - 15) ≡ i = omega arith in
            let h = digit_in 10 c 15 6 (i - 15) (shape_of c shape).after_point.2 (omega arith) in
            omega (arith, ltb-true (digit_of (byte_at c i)) 10 (subst (λ (j : ℕ). ltb (digit_of (byte_at c j)) 10 ≡ true) e h))

  -- a timestamp's date
  module _ (starts : may_start false k ≡ true) (shape : shaped c ≡ true) (valid : is_date (date_in c) ≡ true) (d : List ℕ) (full : length d ≡ 21) where
    same : (at n : ℕ) → at + n ≤ k → number (filled k d s) at n ≡ number c at n
    same = same_field k (filled k d s) c (filled_like d full)

    dates_from : DateDigits d 0 1 1 → days_before (date_in (filled k d s)) ≤ days_before (date_in c)
    unfolding date_in
    dates_from t = go (date_start k starts)
      where
        year : k ≤ 0 → number (filled k d s) 0 4 ≡ 0
        year h = field d full 0 4 0 t.years h (omega arith)

        month : k ≤ 4 → number (filled k d s) 4 2 ≡ 1
        month h = field d full 4 2 1 t.months h (omega arith)

        day : k ≤ 6 → number (filled k d s) 6 2 ≡ 1
        day h = field d full 6 2 1 t.days h (omega arith)

        go : DateStart k → days_before (date_in (filled k d s)) ≤ days_before (date_in c)
        go (after_day h) = rw (same 0 4 (omega arith), same 4 2 (omega arith), same 6 2 h) (le_refl _)
        go (at_day e) = rw (same 0 4 (omega arith), same 4 2 (omega arith), day (omega arith)) (month_starts (date_in c) valid)
        go (at_month e) = rw (same 0 4 (omega arith), month (omega arith), day (omega arith)) (year_starts (date_in c) valid)
        go (at_year e) = rw (year (omega arith), month (omega arith), day (omega arith)) (years_start (date_in c) valid)

    dates_to : (last : ℕ) → DateDigits d 9999 12 last → (k ≡ 6 → last ≡ days_in_month (leap_year (number c 0 4)) (number c 4 2)) → (k < 6 → last ≡ 31)
        → days_before (date_in c) ≤ days_before (date_in (filled k d s))
    unfolding date_in
    dates_to last t in_month december = go (date_start k starts)
      where
        year : k ≤ 0 → number (filled k d s) 0 4 ≡ 9999
        year h = field d full 0 4 9999 t.years h (omega arith)

        month : k ≤ 4 → number (filled k d s) 4 2 ≡ 12
        month h = field d full 4 2 12 t.months h (omega arith)

        day : k ≤ 6 → number (filled k d s) 6 2 ≡ last
        day h = field d full 6 2 last t.days h (omega arith)

        go : DateStart k → days_before (date_in c) ≤ days_before (date_in (filled k d s))
        go (after_day h) = rw (same 0 4 (omega arith), same 4 2 (omega arith), same 6 2 h) (le_refl _)
        go (at_day e) = rw (same 0 4 (omega arith), same 4 2 (omega arith), day (omega arith), in_month e) (month_ends (date_in c) valid)
        go (at_month e) = rw (same 0 4 (omega arith), month (omega arith), day (omega arith), december (omega arith)) (year_ends (date_in c) valid)
        go (at_year e) = rw (year (omega arith), month (omega arith), day (omega arith), december (omega arith)) (years_end (date_in c) valid (shape_of c shape).year)

  -- ---- the texts: a timestamp's
  module _ (starts : may_start false k ≡ true) (text : TimestampText c) (d : List ℕ) where
    pub timestamp_from : TimeDigits d 0 0 0 48 → DateDigits d 0 1 1 → Rises (filled k d s) c
    timestamp_from t e =
        record {
          sign = same_sign k (filled k d s) c (filled_like d t.full);
          minutes = same_minutes k (filled k d s) c (filled_like d t.full);
          dates = λ h. dates_from starts text.shape text.date d t.full e;
          days = λ h. absurd (apart (sym text.colon ∙ sym (same_colon k (filled k d s) c (filled_like d t.full)) ∙ h));
          times = times_from false starts d t;
        }

    pub timestamp_to : (last : ℕ) → TimeDigits d 23 59 59 57 → DateDigits d 9999 12 last → (k ≡ 6 → last ≡ days_in_month (leap_year (number c 0 4)) (number c 4 2)) → (k < 6 → last ≡ 31)
        → Rises c (filled k d s)
    timestamp_to last t e in_month december =
        record {
          sign = same_sign k c (filled k d s) (like_filled d t.full);
          minutes = same_minutes k c (filled k d s) (like_filled d t.full);
          dates = λ h. dates_to starts text.shape text.date d t.full last e in_month december;
          days = λ h. absurd (apart (sym text.colon ∙ h));
          times = times_to false starts d t text.shape text.time;
        }

  -- an interval's
  module _ (starts : may_start true k ≡ true) (text : IntervalText c) (d : List ℕ) where
    pub interval_from : TimeDigits d 0 0 0 48 → number d 0 8 ≡ 0 → Rises (filled k d s) c
    interval_from t e =
        record {
          sign = same_sign k (filled k d s) c (filled_like d t.full);
          minutes = same_minutes k (filled k d s) c (filled_like d t.full);
          dates = λ h. absurd (apart (sym h ∙ same_colon k (filled k d s) c (filled_like d t.full) ∙ text.colon));
          days = λ h. field_grows k (filled k d s) c (filled_like d t.full) 0 8 (whole true k starts 0 7 tt) (λ g. rw (field d t.full 0 8 0 e g (omega arith)) (omega arith));
          times = times_from true starts d t;
        }

    pub interval_to : TimeDigits d 23 59 59 57 → number d 0 8 ≡ 99999999 → Rises c (filled k d s)
    interval_to t e =
        record {
          sign = same_sign k c (filled k d s) (like_filled d t.full);
          minutes = same_minutes k c (filled k d s) (like_filled d t.full);
          dates = λ h. absurd (apart (sym h ∙ text.colon));
          days = λ h. field_grows k c (filled k d s) (like_filled d t.full) 0 8 (whole true k starts 0 7 tt) (λ g. rw (field d t.full 0 8 99999999 e g (omega arith)) (omega (arith, (shape_of c text.shape).days)));
          times = times_to true starts d t text.shape text.time;
        }

-- ---- the two ends, whichever the sort is
module _ (k : ℕ) (s : List ℕ) (few : k ≤ 21) (said : says_to k s ≡ true) (c : List ℕ) (alike : Alike k c s) (exact : (is_timestamp c || is_interval c) ≡ true) where
  long : length s ≡ 25
  long = text_long k s few said

  colon : has_colon c ≡ has_colon s
  colon = same_colon k c s alike

  -- the text is of the same sort
  by_colon : (P : Bool → Type 0) → (has_colon s ≡ true → IntervalText c → P true) → (has_colon s ≡ false → TimestampText c → P false) → P (has_colon s)
  by_colon P f g = go (has_colon s) refl (either_text c exact)
    where
      go : (b : Bool) → has_colon s ≡ b → TimestampText c ⊎ IntervalText c → P b
      go true e (inl t) = absurd (apart (sym t.colon ∙ colon ∙ e))
      go true e (inr t) = f e t
      go false e (inl t) = g e t
      go false e (inr t) = absurd (apart (sym (colon ∙ e) ∙ t.colon))

  pub from_lowest : Rises (lowest_text k s) c
  unfolding lowest_text
  from_lowest =
      by_colon (λ (b : Bool). Rises (filled k (lowest_digits b) s) c)
      (λ e t. interval_from k s c few long alike (rw e at (starts k s few said)) t (lowest_digits true) (lowest_time true) lowest_days)
      (λ e t. timestamp_from k s c few long alike (rw e at (starts k s few said)) t (lowest_digits false) (lowest_time false) lowest_date)

  pub to_highest : Rises c (highest_text k s)
  unfolding highest_text date_in
  to_highest =
      by_colon (λ (b : Bool). Rises c (filled k (highest_digits b (last_day k s)) s))
      (λ e t. interval_to k s c few long alike (rw e at (starts k s few said)) t (highest_digits true (last_day k s)) (highest_time (last_day k s)) (highest_days (last_day k s)))
      (λ e t.
      let h = latest k s few said e in
      timestamp_to k s c few long alike (rw e at (starts k s few said)) t (highest_digits false (last_day k s)) (last_day k s) h.0 h.1 in_month december)
    where
      in_month : k ≡ 6 → last_day k s ≡ days_in_month (leap_year (number c 0 4)) (number c 4 2)
      in_month e = rw (eq-eqb k 6 e, same_field k c s alike 0 4 (omega arith), same_field k c s alike 4 2 (omega arith))

      december : k < 6 → last_day k s ≡ 31
      december h = rw (ne_eqb k 6 (λ e. omega arith))
