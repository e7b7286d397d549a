-- The highest text of a datetime is a datetime too: its known digits are the lowest text's, and its others are of the calendar.
use Prim.Native.Nat.{ℕ, ◌+◌, ◌≤◌, ◌<◌}
use mathlib.Core.Path.{ap, ◌≡◌, refl, sym, ◌∙◌}
use mathlib.Core.Bool.{Bool, true, false, ◌||◌}
use mathlib.Core.List.{List}
use mathlib.Core.Logic.{◌⊎◌, inl, inr}
use native.Mathlib.Nat.{le_refl}
use native.Mathlib.Omega.{arith}
use lib.ListN.{length}
use lib.Seq.{sets}
use lib.Dec.{eqb}
use borrow.Author.Tests.{eq-eqb, ne_eqb, eqb-true}
use Rattle.base.specs.Pick.{pick}
use Rattle.base.specs.Ascii.{bytes}
use Rattle.base.specs.Part.{byte_at}
use Rattle.base.proofs.Says.{apart, and_both}
use Rattle.base.proofs.Lists.{says_same}
use Rattle.text_writer.specs.Decimal.{digits_within, decimal}
use Rattle.datetime.specs.Calendar.{leap_year, days_in_month}
use Rattle.datetime.specs.Fields.{is_date}
use Rattle.datetime.specs.Text.{number, shaped, date_in, sign_in, has_colon, minutes_in}
use Rattle.datetime.specs.Exact.{is_timestamp, is_interval}
use Rattle.datetime.specs.Unknown.{may_start, filled, tailed, lowest_digits, highest_digits, last_day, lowest_text, highest_text}
use Rattle.datetime.specs.Datetime.{says_to}
use Rattle.datetime.specs.declared.fields.Date.{Date}
use Rattle.datetime.proofs.Bounds.{shape_of, DateBounds, date_bounds}
use Rattle.datetime.proofs.Accepted.{says_date}
use Rattle.datetime.proofs.Laws.{exact_shaped}
use Rattle.datetime.proofs.Sorts.{TimestampText, IntervalText, either_text, text_either}
use Rattle.datetime.proofs.Filled.{byte_filled, byte_after, number_known, number_filled, number_after}
use Rattle.datetime.proofs.Stars.{stars, star_at}
use Rattle.datetime.proofs.Refilled.{Whole, whole, Filling, filled_long, reshaped}
use Rattle.datetime.proofs.EndDigits.{by_month_length, Latest, highest_day, highest_time}
use Rattle.datetime.proofs.NothingUnknown.{lowest_full}
use Rattle.datetime.proofs.Fillings.{interval_filling, month_filling, latest_december, december_filling, day_over, day_length, time_refilled}

module _ (k : ℕ) (s : List ℕ) (few : k ≤ 21) (said : says_to k s ≡ true) where
  pub starts : may_start (has_colon s) k ≡ true
  starts = (and_both (may_start (has_colon s) k) _ (and_both (tailed k s) _ said).1).0

  pub lowest_exact : (is_timestamp (lowest_text k s) || is_interval (lowest_text k s)) ≡ true
  lowest_exact = (and_both (may_start (has_colon s) k) _ (and_both (tailed k s) _ said).1).1

  pub text_long : length s ≡ 25
  unfolding lowest_text
  text_long =
      filled_long k (lowest_digits (has_colon s)) s few (lowest_full (has_colon s))
      (shape_of (lowest_text k s) (exact_shaped (lowest_text k s) lowest_exact)).long

  -- among the stars each byte is one, but for the point
  pub tail_byte : (i : ℕ) → k ≤ i → i < 21 → byte_at s i ≡ pick (eqb i 14) 46 42
  tail_byte i from to =
      let e : filled k stars s ≡ s = (says_same (filled k stars s) s).to (and_both (tailed k s) _ said).0 in
      sym (ap (λ (l : List ℕ). byte_at l i) e) ∙ byte_filled k stars s few text_long refl i from to ∙ star_at i to

  module _ (d : List ℕ) (full : length d ≡ 21) where
    sign_kept : sign_in (filled k d s) ≡ sign_in s
    sign_kept = byte_after k d s few text_long full 21 (omega arith)

    colon_kept : has_colon (filled k d s) ≡ has_colon s
    colon_kept = rw sign_kept refl

    minutes_kept : minutes_in (filled k d s) ≡ minutes_in s
    minutes_kept = number_after k d s few text_long full 22 3 (omega arith)

  -- a timestamp
  module _ (other : has_colon s ≡ false) where
    pub timestamp_lowest : TimestampText (filled k (lowest_digits false) s)
    unfolding lowest_text
    timestamp_lowest = go (either_text _ (rw other at lowest_exact))
      where
        go : TimestampText (filled k (lowest_digits false) s) ⊎ IntervalText (filled k (lowest_digits false) s) → TimestampText (filled k (lowest_digits false) s)
        go (inl t) = t
        go (inr t) = absurd (apart (sym (colon_kept (lowest_digits false) refl ∙ other) ∙ t.colon))

    lowest_date : DateBounds (date_in (filled k (lowest_digits false) s))
    lowest_date = date_bounds _ timestamp_lowest.date

    -- the month is known
    module _ (at_day : k ≡ 6) where
      month_kept : (d : List ℕ) → length d ≡ 21 → (date_in (filled k d s)).month ≡ (date_in s).month
      unfolding date_in
      month_kept d full = number_known k d s few text_long full 4 2 (omega arith)

      year_kept : (d : List ℕ) → length d ≡ 21 → (date_in (filled k d s)).year ≡ (date_in s).year
      unfolding date_in
      year_kept d full = number_known k d s few text_long full 0 4 (omega arith)

      pub month_from : 1 ≤ (date_in s).month
      month_from = rw (← month_kept (lowest_digits false) refl) lowest_date.first_month

      pub month_to : (date_in s).month ≤ 12
      month_to = rw (← month_kept (lowest_digits false) refl) lowest_date.last_month

    -- the month of the last day
    by_last_day : (P : ℕ → Type 0) → ((leap : Bool) (m : ℕ) → 1 ≤ m → m ≤ 12 → P (days_in_month leap m)) → P (last_day k s)
    by_last_day P f = go (eqb k 6) refl
      where
        go : (b : Bool) → eqb k 6 ≡ b → P (pick b (days_in_month (leap_year (date_in s).year) (date_in s).month) 31)
        go true e = f (leap_year (date_in s).year) (date_in s).month (month_from (eqb-true k 6 e)) (month_to (eqb-true k 6 e))
        go false e = f false 12 (omega arith) (omega arith)

    filling : Filling (highest_digits false (last_day k s))
    filling = by_last_day (λ (n : ℕ). Filling (highest_digits false n)) month_filling

    pub latest : Latest (last_day k s)
    latest = by_last_day Latest highest_day

    -- the highest text
    high : List ℕ
    high = filled k (highest_digits false (last_day k s)) s

    starts_timestamp : may_start false k ≡ true
    starts_timestamp = rw other at starts

    filled_high : (at n : ℕ) → k ≤ at → at + n ≤ 21 → number high at n ≡ number (highest_digits false (last_day k s)) at n
    unfolding high
    filled_high at n = number_filled k (highest_digits false (last_day k s)) s few text_long filling.full at n

    known_high : (at n : ℕ) → at + n ≤ k → number high at n ≡ number (filled k (lowest_digits false) s) at n
    unfolding high
    known_high at n h =
        number_known k (highest_digits false (last_day k s)) s few text_long filling.full at n h
        ∙ sym (number_known k (lowest_digits false) s few text_long refl at n h)

    -- a day that is unknown is the last of its month
    last_valid : (d : Date) → 1 ≤ d.month → d.month ≤ 12 → d.day ≡ days_in_month (leap_year d.year) d.month → is_date d ≡ true
    last_valid d from to e =
        let least = by_month_length (λ (n : ℕ). 1 ≤ n) (omega arith) (omega arith) (omega arith) (omega arith) (leap_year d.year) d.month from to in
        (says_date d).from (from, (to, (rw e least, rw e (le_refl _))))

    day_alone : k ≡ 6 → is_date (date_in high) ≡ true
    unfolding date_in
    day_alone at_day =
        let year : number high 0 4 ≡ number s 0 4 = known_high 0 4 (omega arith) ∙ year_kept at_day (lowest_digits false) refl in
        let month : number high 4 2 ≡ number s 4 2 = known_high 4 2 (omega arith) ∙ month_kept at_day (lowest_digits false) refl in
        let last : last_day k s ≡ days_in_month (leap_year (number s 0 4)) (number s 4 2) = rw (eq-eqb k 6 at_day) refl in
        let day : number high 6 2 ≡ days_in_month (leap_year (number s 0 4)) (number s 4 2) = filled_high 6 2 (omega arith) (omega arith) ∙ latest.1.days ∙ last in
        last_valid (date_in high) (rw month (month_from at_day)) (rw month (month_to at_day)) (rw (year, month) day)

    december : k ≤ 4 → is_date (date_in high) ≡ true
    unfolding date_in
    december h =
        let month : number high 4 2 ≡ 12 = filled_high 4 2 h (omega arith) ∙ latest.1.months in
        let last : last_day k s ≡ 31 = rw (ne_eqb k 6 (λ e. omega arith)) refl in
        let day : number high 6 2 ≡ 31 = filled_high 6 2 (omega arith) (omega arith) ∙ latest.1.days ∙ last in
        last_valid (date_in high) (rw month (omega arith)) (rw month (omega arith)) (rw month (day ∙ thirty_one (leap_year (number high 0 4))))
      where
        thirty_one : (leap : Bool) → 31 ≡ days_in_month leap 12
        thirty_one true = refl
        thirty_one false = refl

    date_known : 8 ≤ k → date_in high ≡ date_in (filled k (lowest_digits false) s)
    unfolding date_in
    date_known h = rw (known_high 0 4 (omega arith), known_high 4 2 (omega arith), known_high 6 2 (omega arith)) refl

    date_highest : is_date (date_in high) ≡ true
    date_highest = go (whole false k starts_timestamp 6 1 tt) (whole false k starts_timestamp 4 1 tt)
      where
        go : Whole k 6 2 → Whole k 4 2 → is_date (date_in high) ≡ true
        go (inl h) m = rw (date_known h) timestamp_lowest.date
        go (inr h) (inl m) = day_alone (omega arith)
        go (inr h) (inr m) = december m

    pub timestamp_highest : TimestampText (filled k (highest_digits false (last_day k s)) s)
    unfolding high
    timestamp_highest =
        record {
          shape = reshaped k (lowest_digits false) (highest_digits false (last_day k s)) s few text_long refl filling timestamp_lowest.shape;
          time = time_refilled false k (lowest_digits false) (highest_digits false (last_day k s)) s few text_long starts_timestamp refl latest.0 timestamp_lowest.time;
          sign = rw (sign_kept (highest_digits false (last_day k s)) filling.full, ← sign_kept (lowest_digits false) refl) timestamp_lowest.sign;
          date = date_highest;
          colon = colon_kept (highest_digits false (last_day k s)) filling.full ∙ other;
        }

  -- an interval
  module _ (colon : has_colon s ≡ true) where
    pub interval_lowest : IntervalText (filled k (lowest_digits true) s)
    unfolding lowest_text
    interval_lowest = go (either_text _ (rw colon at lowest_exact))
      where
        go : TimestampText (filled k (lowest_digits true) s) ⊎ IntervalText (filled k (lowest_digits true) s) → IntervalText (filled k (lowest_digits true) s)
        go (inl t) = absurd (apart (sym t.colon ∙ colon_kept (lowest_digits true) refl ∙ colon))
        go (inr t) = t

    pub interval_highest : IntervalText (filled k (highest_digits true (last_day k s)) s)
    interval_highest =
        record {
          shape = reshaped k (lowest_digits true) (highest_digits true (last_day k s)) s few text_long refl (interval_filling (last_day k s)) interval_lowest.shape;
          time = time_refilled true k (lowest_digits true) (highest_digits true (last_day k s)) s few text_long (rw colon at starts) refl (highest_time (last_day k s)) interval_lowest.time;
          colon = colon_kept (highest_digits true (last_day k s)) refl ∙ colon;
          minutes = rw (minutes_kept (highest_digits true (last_day k s)) refl, ← minutes_kept (lowest_digits true) refl) interval_lowest.minutes;
        }

  -- whichever it is
  pub highest_exact : (is_timestamp (highest_text k s) || is_interval (highest_text k s)) ≡ true
  unfolding highest_text
  highest_exact = go (has_colon s) refl
    where
      go : (b : Bool) → has_colon s ≡ b → (is_timestamp (filled k (highest_digits b (last_day k s)) s) || is_interval (filled k (highest_digits b (last_day k s)) s)) ≡ true
      go true e = text_either _ (inr (interval_highest e))
      go false e = text_either _ (inl (timestamp_highest e))

  -- as the code fills it in: in December, and another month's last day over that one
  pub fills_interval : {out : List ℕ} → sign_in s ≡ 58 → out ≡ filled k (bytes "99999999235959.999999") s → out ≡ highest_text k s
  unfolding highest_text
  fills_interval h e = rw (eq-eqb _ _ h) e

  module _ (other : sign_in s ≡ 58 → ⊥) where
    no_colon : has_colon s ≡ false
    no_colon = ne_eqb (sign_in s) 58 other

    pub fills_timestamp : {out : List ℕ} → (k ≡ 6 → ⊥) → out ≡ filled k latest_december s → out ≡ highest_text k s
    unfolding highest_text decimal digits_within
    fills_timestamp h e = rw (no_colon, ne_eqb k 6 h) e

    module _ {u : List ℕ} (at_day : k ≡ 6) (is : u ≡ filled k latest_december s) where
      pub december_shaped : shaped u ≡ true
      december_shaped = rw is (reshaped k (lowest_digits false) latest_december s few text_long refl december_filling (timestamp_lowest no_colon).shape)

      month_same : (date_in u).month ≡ (date_in s).month
      month_same = rw is (month_kept no_colon at_day latest_december refl)

      year_same : (date_in u).year ≡ (date_in s).year
      year_same = rw is (year_kept no_colon at_day latest_december refl)

      pub december_from : 1 ≤ (date_in u).month
      december_from = rw month_same (month_from no_colon at_day)

      pub december_to : (date_in u).month ≤ 12
      december_to = rw month_same (month_to no_colon at_day)

      pub fills_day : {out : List ℕ} → out ≡ sets u 6 (decimal (days_in_month (leap_year (date_in u).year) (date_in u).month)) → out ≡ highest_text k s
      unfolding highest_text
      fills_day e =
          let leap = leap_year (date_in s).year in
          let two = day_length leap (date_in s).month (month_from no_colon at_day) (month_to no_colon at_day) in
          e ∙ rw (year_same, month_same, is, no_colon, eq-eqb k 6 at_day, at_day) (day_over s (decimal (days_in_month leap (date_in s).month)) text_long two)
