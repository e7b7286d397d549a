-- The Gregorian calendar from the year 0000 on. 01 "Datetime (DSP0004)": "365y plus the leap years from 0 to y−1".
use Rattle.std.specs.Prelude.{ℕ, zero, suc, ◌+◌, ◌*◌, ◌%◌, Bool, not, ◌&&◌, ◌||◌, List, [], ◌∷◌, eqb, get_or}
use Rattle.base.specs.Pick.{pick}

-- every fourth year, but of the hundreds only every fourth
abbrev pub leap_year : ℕ → Bool
leap_year y = eqb (y % 400) 0 || (not (eqb (y % 100) 0) && eqb (y % 4) 0)

-- how many of the years 0 to y - 1 are leap years
unfoldable pub leap_years : ℕ → ℕ
leap_years zero = 0
leap_years (suc y) = leap_years y + pick (leap_year y) 1 0

abbrev pub days_before_year : ℕ → ℕ
days_before_year y = 365 * y + leap_years y

-- the months from January, which is month 1, on; there is no month 0
abbrev pub month_lengths : List ℕ
month_lengths = 0 ∷ 31 ∷ 28 ∷ 31 ∷ 30 ∷ 31 ∷ 30 ∷ 31 ∷ 31 ∷ 30 ∷ 31 ∷ 30 ∷ 31 ∷ []

-- the days of a month, in a leap year or another
abbrev pub days_in_month : Bool → ℕ → ℕ
days_in_month leap m = pick (leap && eqb m 2) 29 (get_or month_lengths m 0)

-- the days of the months before month m
unfoldable pub days_before_month : Bool → ℕ → ℕ
days_before_month leap zero = 0
days_before_month leap (suc m) = days_before_month leap m + days_in_month leap m
