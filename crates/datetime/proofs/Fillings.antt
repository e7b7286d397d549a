-- The digits that are filled in for unknown ones: with them a text keeps its shape, and a time of day stays one.
use Prim.Native.Nat.{ℕ, ◌+◌, ◌≤◌}
use mathlib.Core.Path.{◌≡◌, refl, sym, ap, ◌∙◌}
use mathlib.Core.Bool.{Bool, true, false}
use mathlib.Core.List.{List, ◌∷◌, ◌++◌, append_assoc}
use mathlib.Core.Logic.{inl, inr}
use native.Mathlib.Nat.{le_refl}
use native.Mathlib.Omega.{arith}
use lib.ListN.{length, take, drop, length-append}
use lib.Seq.{sets, sets-eq, take_at, drop-append-add, length-take-le}
use Rattle.base.specs.Ascii.{bytes}
use Rattle.base.specs.Part.{byte_at}
use Rattle.base.specs.Range.{within}
use Rattle.base.specs.Digit.{digit_of, all_digits}
use Rattle.text_writer.specs.Decimal.{digits_within, decimal}
use Rattle.datetime.specs.Calendar.{days_in_month}
use Rattle.datetime.specs.Fields.{is_time}
use Rattle.datetime.specs.Text.{number, time_in}
use Rattle.datetime.specs.Unknown.{may_start, filled, highest_digits}
use Rattle.datetime.proofs.Accepted.{says_time}
use Rattle.datetime.proofs.Filled.{number_known, number_filled}
use Rattle.datetime.proofs.Refilled.{Whole, either_whole, Filling}
use Rattle.datetime.proofs.EndDigits.{TimeDigits, by_month_length}

-- what is filled in are digits and the point
plain : (e : List ℕ) → length e ≡ 21 → byte_at e 14 ≡ 46 → all_digits 10 e 0 14 ≡ true → all_digits 10 e 15 6 ≡ true → Filling e
plain e f p b a = record { full = f; point = p; before = b; after = a }

pub interval_filling : (day : ℕ) → Filling (highest_digits true day)
unfolding all_digits digit_of within
interval_filling day = plain (highest_digits true day) refl refl refl refl

pub month_filling : (leap : Bool) (m : ℕ) → 1 ≤ m → m ≤ 12 → Filling (highest_digits false (days_in_month leap m))
unfolding all_digits digit_of within decimal digits_within
month_filling =
    by_month_length (λ (n : ℕ). Filling (highest_digits false n))
    (plain (highest_digits false 28) refl refl refl refl)
    (plain (highest_digits false 29) refl refl refl refl)
    (plain (highest_digits false 30) refl refl refl refl)
    (plain (highest_digits false 31) refl refl refl refl)

abbrev pub latest_december : List ℕ
latest_december = bytes "99991231235959.999999"

pub december_filling : Filling latest_december
unfolding all_digits digit_of within
december_filling = plain latest_december refl refl refl refl

-- two digits stored over the day
pub day_over : (s digits : List ℕ) → length s ≡ 25 → length digits ≡ 2 → sets (filled 6 latest_december s) 6 digits ≡ filled 6 (bytes "999912" ++ (digits ++ bytes "235959.999999")) s
unfolding filled
day_over s digits long two =
    sets-eq digits (front ++ rest) 6 (omega (arith, two, whole_length))
    ∙ rw (take_at front rest 6 six, after) (append_assoc front digits (time ++ offset) ∙ ap (λ (l : List ℕ). front ++ l) (sym (append_assoc digits time offset)))
  where
    front : List ℕ
    front = take 6 s

    time : List ℕ
    time = bytes "235959.999999"

    offset : List ℕ
    offset = drop 21 s

    rest : List ℕ
    rest = 51 ∷ 49 ∷ (time ++ offset)

    six : length front ≡ 6
    six = length-take-le 6 s (omega arith)

    whole_length : 8 ≤ length (front ++ rest)
    whole_length = omega (arith, length-append front rest, six)

    after : drop (6 + length digits) (front ++ rest) ≡ time ++ offset
    after =
        let e : 6 + length digits ≡ length front + 2 = omega (arith, two, six) in
        rw e (drop-append-add front rest 2)

pub day_length : (leap : Bool) (m : ℕ) → 1 ≤ m → m ≤ 12 → length (decimal (days_in_month leap m)) ≡ 2
unfolding decimal digits_within
day_length = by_month_length (λ (n : ℕ). length (decimal n) ≡ 2) refl refl refl refl

-- a time of day stays one: each field is known, or the filling's
module _ (interval : Bool) (k : ℕ) (d e s : List ℕ) (few : k ≤ 21) (long : length s ≡ 25) (starts : may_start interval k ≡ true) (full : length d ≡ 21) (digits : TimeDigits e 23 59 59 57) where
  field_below : (at n most : ℕ) → Whole k at n → at + n ≤ 21 → number e at n ≡ most → number (filled k d s) at n ≤ most → number (filled k e s) at n ≤ most
  field_below at n most (inl h) l f g = rw (number_known k e s few long digits.full at n h) (rw (number_known k d s few long full at n h) at g)
  field_below at n most (inr h) l f g = rw (number_filled k e s few long digits.full at n h l, f) (le_refl most)

  pub time_refilled : is_time (time_in (filled k d s)) ≡ true → is_time (time_in (filled k e s)) ≡ true
  unfolding time_in
  time_refilled h =
      let t = (says_time (time_in (filled k d s))).to h in
      (says_time (time_in (filled k e s))).from (
        field_below 8 2 23 (either_whole interval k starts 8 1 tt tt) (omega arith) digits.hours t.0,
        (
          field_below 10 2 59 (either_whole interval k starts 10 1 tt tt) (omega arith) digits.minutes t.1.0,
          field_below 12 2 59 (either_whole interval k starts 12 1 tt tt) (omega arith) digits.seconds t.1.1,
        ),
      )
