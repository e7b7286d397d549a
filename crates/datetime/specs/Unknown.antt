-- Unknown digits. 02 Q-6: "Accept `*` for an unbroken tail of digits that ends at the last microsecond digit; the point stays a point. It may start at any
-- microsecond digit, or at the start of any earlier field. The UTC part stays digits." The digits and the point are the 21 bytes before the sign.
use Rattle.std.specs.Prelude.{ℕ, zero, suc, ◌+◌, ◌<◌, ◌≡◌, Bool, false, ◌||◌, List, [], ◌∷◌, ◌++◌, take, drop, leb, eqb}
use Rattle.base.specs.Pick.{pick}
use Rattle.base.specs.Ascii.{bytes}
use Rattle.base.specs.Part.{byte_at, same_bytes}
use Rattle.text_writer.specs.Decimal.{decimal}
use Rattle.datetime.specs.Calendar.{leap_year, days_in_month}
use Rattle.datetime.specs.Text.{date_in, has_colon}

-- the first star, 42, among the `n` bytes from `at` on, or their end
unfoldable pub star_from : List ℕ → (at n : ℕ) → ℕ
star_from s at zero = at
star_from s at (suc n) = pick (eqb (byte_at s at) 42) at (star_from s (at + 1) n)

-- how many bytes are known: those before the first star, all 21 where there is none
unfoldable pub known : List ℕ → ℕ
known s = star_from s 0 21

-- no star where there may be one
abbrev pub Starless : List ℕ → Type 0
Starless s = (i : ℕ) → i < 21 → byte_at s i ≡ 42 → ⊥

-- the text with its bytes from `k` up to the sign taken from `digits`
unfoldable pub filled : (k : ℕ) (digits s : List ℕ) → List ℕ
filled k digits s = take k s ++ (drop k digits ++ drop 21 s)

-- from `k` up to the sign all digits are stars, and the point is a point: filling in stars changes nothing
abbrev pub tailed : (k : ℕ) → List ℕ → Bool
tailed k s = same_bytes (filled k (bytes "**************.******") s) s

abbrev pub one_of : ℕ → List ℕ → Bool
one_of k [] = false
one_of k (n ∷ ns) = eqb k n || one_of k ns

-- year, month, day, hour, minute, second; an interval's days, hour, minute, second
abbrev pub field_starts : (interval : Bool) → List ℕ
field_starts interval = pick interval (0 ∷ 8 ∷ 10 ∷ 12 ∷ []) (0 ∷ 4 ∷ 6 ∷ 8 ∷ 10 ∷ 12 ∷ [])

-- where the stars may start: at a field, or from 15 on at every digit; nowhere, at 21
abbrev pub may_start : (interval : Bool) (k : ℕ) → Bool
may_start interval k = leb 15 k || one_of k (field_starts interval)

-- "Such a value spans a lowest and a highest moment"
abbrev pub lowest_digits : (interval : Bool) → List ℕ
lowest_digits interval = pick interval (bytes "00000000000000.000000") (bytes "00000101000000.000000")

-- "the highest by the calendar": where the stars start at the day, the last one of the text's month; an unknown month is December
abbrev pub last_day : (k : ℕ) → List ℕ → ℕ
last_day k s = pick (eqb k 6) (days_in_month (leap_year (date_in s).year) (date_in s).month) 31

-- "an interval's unknown days all 9"
abbrev pub highest_digits : (interval : Bool) (day : ℕ) → List ℕ
highest_digits interval day = pick interval (bytes "99999999235959.999999") (bytes "999912" ++ (decimal day ++ bytes "235959.999999"))

-- the texts of the two ends, where the first `k` bytes are known
unfoldable pub lowest_text : (k : ℕ) → List ℕ → List ℕ
lowest_text k s = filled k (lowest_digits (has_colon s)) s

unfoldable pub highest_text : (k : ℕ) → List ℕ → List ℕ
highest_text k s = filled k (highest_digits (has_colon s) (last_day k s)) s
