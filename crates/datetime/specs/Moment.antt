-- 01's term moment: "A timestamp's moment is local microseconds from the start of year 0000, less offset × 60,000,000."
-- It is a whole number: at a positive offset the first minutes of the year 0000 lie below zero.
use Rattle.std.specs.Prelude.{ℕ, ◌+◌, ◌-◌, ◌*◌, eqb, ℤ, pos, neg_ℤ, ◌-ℤ◌, ◌*ℤ◌}
use Rattle.base.specs.Pick.{pick}
use Rattle.datetime.specs.Calendar.{leap_year, days_before_year, days_before_month}
use Rattle.datetime.specs.declared.fields.Date.{Date}
use Rattle.datetime.specs.declared.fields.Time.{Time}

-- whole days from the start of the year 0000 to the date
abbrev pub days_before : Date → ℕ
days_before d = days_before_year d.year + days_before_month (leap_year d.year) d.month + (d.day - 1)

-- microseconds from midnight
abbrev pub microseconds_of : Time → ℕ
microseconds_of t = ((t.hour * 60 + t.minute) * 60 + t.second) * 1000000 + t.microsecond

-- the microseconds of whole days and a time
abbrev pub elapsed : ℕ → Time → ℕ
elapsed days t = days * 86400000000 + microseconds_of t

-- minutes from UTC: after "-" they are negative
abbrev pub offset_of : ℕ → ℕ → ℤ
offset_of sign minutes = pick (eqb sign 45) (neg_ℤ (pos minutes)) (pos minutes)

abbrev pub moment_at : ℕ → ℤ → ℤ
moment_at local offset = pos local -ℤ (offset *ℤ pos 60000000)
