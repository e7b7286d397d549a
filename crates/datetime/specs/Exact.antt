-- What a text without unknown digits says. 01 "Datetime (DSP0004)".
use Rattle.std.specs.Prelude.{ℕ, Bool, ◌&&◌, ◌||◌, List, eqb, ℤ, pos}
use Rattle.base.specs.Pick.{pick}
use Rattle.base.specs.Order.{order_of_whole}
use Rattle.base.specs.declared.order.Order.{Order}
use Rattle.base.specs.declared.order.Order.TheVariants.{Undecided}
use Rattle.datetime.specs.Fields.{is_date, is_time}
use Rattle.datetime.specs.Text.{shaped, date_in, interval_days, time_in, sign_in, has_colon, minutes_in}
use Rattle.datetime.specs.Moment.{days_before, elapsed, offset_of, moment_at}

-- `+` or `-`
abbrev pub is_sign : ℕ → Bool
is_sign b = eqb b 43 || eqb b 45

abbrev pub is_timestamp : List ℕ → Bool
is_timestamp s = shaped s && (is_time (time_in s) && (is_sign (sign_in s) && is_date (date_in s)))

-- it ends `:000`
abbrev pub is_interval : List ℕ → Bool
is_interval s = shaped s && (is_time (time_in s) && (eqb (sign_in s) 58 && eqb (minutes_in s) 0))

-- 01's term moment, of a timestamp's text
abbrev pub moment : List ℕ → ℤ
moment s = moment_at (elapsed (days_before (date_in s)) (time_in s)) (offset_of (sign_in s) (minutes_in s))

-- the microseconds of an interval's text
abbrev pub interval_length : List ℕ → ℤ
interval_length s = pos (elapsed (interval_days s) (time_in s))

-- of either: the moment of a timestamp, the length of an interval
abbrev pub microseconds : List ℕ → ℤ
microseconds s = pick (has_colon s) (interval_length s) (moment s)

pub data Exact : Type 0 where
  timestamp : (moment : ℤ) → Exact
  interval : (size : ℤ) → Exact
  malformed : Exact

unfoldable pub exact_of : List ℕ → Exact
exact_of s = pick (is_timestamp s) (timestamp (moment s)) (pick (is_interval s) (interval (interval_length s)) malformed)

-- "A timestamp never equals an interval; order between them is false": two timestamps by their moments, two intervals by their lengths
abbrev pub order_of_exact : Exact → Exact → Order
order_of_exact (timestamp a) (timestamp b) = order_of_whole a b
order_of_exact (interval a) (interval b) = order_of_whole a b
order_of_exact (timestamp a) (interval b) = Undecided
order_of_exact (timestamp a) malformed = Undecided
order_of_exact (interval a) (timestamp b) = Undecided
order_of_exact (interval a) malformed = Undecided
order_of_exact malformed b = Undecided
