-- The text of a datetime. 01 "Datetime (DSP0004)": "`yyyymmddhhmmss.mmmmmm`, sign, three digits of minutes from UTC; or days (8 digits),
-- `hhmmss.mmmmmm:000`, an interval". So both have 25 bytes, a point at 14 and a byte that is no digit at 21.
use Rattle.std.specs.Prelude.{ℕ, Bool, ◌&&◌, List, length, eqb}
use Rattle.base.specs.Part.{byte_at}
use Rattle.base.specs.Digit.{all_digits, value_of}
use Rattle.datetime.specs.declared.fields.Date.{Date}
use Rattle.datetime.specs.declared.fields.Time.{Time}

-- the digits' places and the point, 46, are right
unfoldable pub shaped : List ℕ → Bool
shaped s =
    eqb (length s) 25
    && (eqb (byte_at s 14) 46 && (all_digits 10 s 0 14 && (all_digits 10 s 15 6 && all_digits 10 s 22 3)))

-- the number that the n digits from an offset on write
abbrev pub number : List ℕ → ℕ → ℕ → ℕ
number s at n = value_of 10 0 s at n

unfoldable pub date_in : List ℕ → Date
date_in s = record { year = number s 0 4; month = number s 4 2; day = number s 6 2 }

-- an interval's days
abbrev pub interval_days : List ℕ → ℕ
interval_days s = number s 0 8

unfoldable pub time_in : List ℕ → Time
time_in s = record { hour = number s 8 2; minute = number s 10 2; second = number s 12 2; microsecond = number s 15 6 }

-- `+`, `-` or `:`
abbrev pub sign_in : List ℕ → ℕ
sign_in s = byte_at s 21

-- `:`, an interval's
abbrev pub has_colon : List ℕ → Bool
has_colon s = eqb (sign_in s) 58

-- minutes from UTC, or the three digits after an interval's `:`
abbrev pub minutes_in : List ℕ → ℕ
minutes_in s = number s 22 3
