-- Which dates and times there are. 01 "Datetime (DSP0004)": "Gregorian, year 0000 on, hours to 23, minutes and seconds to 59".
use Rattle.std.specs.Prelude.{Bool, ◌&&◌, leb}
use Rattle.datetime.specs.Calendar.{leap_year, days_in_month}
use Rattle.datetime.specs.declared.fields.Date.{Date}
use Rattle.datetime.specs.declared.fields.Time.{Time}

abbrev pub is_date : Date → Bool
is_date d = leb 1 d.month && (leb d.month 12 && (leb 1 d.day && leb d.day (days_in_month (leap_year d.year) d.month)))

abbrev pub is_time : Time → Bool
is_time t = leb t.hour 23 && (leb t.minute 59 && leb t.second 59)
