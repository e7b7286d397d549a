-- What is accepted: the tests say 01's rules, and no text is both a timestamp and an interval, so that the order of the cases says nothing.
use mathlib.Core.Path.{◌≡◌}
use mathlib.Core.Bool.{true, false}
use mathlib.Core.List.{List}
use mathlib.Core.Logic.{◌⊎◌}
use Prim.Native.Nat.{ℕ, ◌≤◌}
use lib.Dec.{eqb}
use borrow.Author.Tests.{eqb-true}
use Rattle.base.proofs.Says.{Says, says_and, says_or, says_eqb, says_leb, and_both}
use Rattle.datetime.specs.Calendar.{leap_year, days_in_month}
use Rattle.datetime.specs.Fields.{is_date, is_time}
use Rattle.datetime.specs.Text.{shaped, time_in, sign_in}
use Rattle.datetime.specs.Exact.{is_sign, is_timestamp, is_interval}
use Rattle.datetime.specs.declared.fields.Date.{Date}
use Rattle.datetime.specs.declared.fields.Time.{Time}

pub says_time : (t : Time) → Says (is_time t) ((t.hour ≤ 23) × ((t.minute ≤ 59) × (t.second ≤ 59)))
says_time t = says_and _ _ (says_leb t.hour 23) (says_and _ _ (says_leb t.minute 59) (says_leb t.second 59))

pub says_date : (d : Date) → Says (is_date d) ((1 ≤ d.month) × ((d.month ≤ 12) × ((1 ≤ d.day) × (d.day ≤ days_in_month (leap_year d.year) d.month))))
says_date d =
    says_and _ _ (says_leb 1 d.month)
    (says_and _ _ (says_leb d.month 12)
    (says_and _ _ (says_leb 1 d.day) (says_leb d.day (days_in_month (leap_year d.year) d.month))))

pub says_sign : (b : ℕ) → Says (is_sign b) ((b ≡ 43) ⊎ (b ≡ 45))
says_sign b = says_or _ _ (says_eqb b 43) (says_eqb b 45)

pub never_both : (s : List ℕ) → is_interval s ≡ true → is_timestamp s ≡ false
never_both s h =
    let p = and_both (shaped s) _ h in
    let q = and_both (is_time (time_in s)) _ p.1 in
    let r = and_both (eqb (sign_in s) 58) _ q.1 in
    rw (p.0, q.0, eqb-true (sign_in s) 58 r.0)
