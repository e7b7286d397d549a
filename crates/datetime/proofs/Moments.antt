-- Moments: they fit 64 bits, their bounds, and the same instant at another offset.
use mathlib.Core.Path.{◌≡◌, refl, ◌∙◌, sym, ap}
use mathlib.Core.Bool.{Bool, true, false, cond, ◌||◌}
use mathlib.Core.List.{List}
use Prim.Native.Nat.{ℕ, zero, suc, ◌+◌, ◌-◌, ◌*◌, ◌<◌, ◌≤◌}
use native.Mathlib.Omega.{arith}
use lib.Dec.{eqb, ltb, le→leb, lt→ltb}
use lib.IntN.{ℤ, pos, negsuc, neg_ℤ, ◌+ℤ◌, ◌-ℤ◌, +ℤ_assoc, +ℤ_comm, neg_ℤ-+ℤ, +ℤ-neg_ℤ_cancel}
use lib.Signed.{◌≤ℤ◌, ◌<ℤ◌, le_z_yes, lt_z_yes}
use mir.Syntax.{w64}
use mir.Val.{SFits}
use borrow.Author.Rules.{sfits_of}
use Rattle.base.specs.Pick.{pick}
use Rattle.base.proofs.Says.{apart, and_both}
use Rattle.base.proofs.Signed.{difference_fits, less_negative}
use Rattle.datetime.specs.Calendar.{leap_years}
use Rattle.datetime.specs.Fields.{is_date, is_time}
use Rattle.datetime.specs.Text.{shaped, date_in, time_in, sign_in, minutes_in}
use Rattle.datetime.specs.Moment.{days_before, elapsed, offset_of, moment_at}
use Rattle.datetime.specs.Exact.{is_sign, is_timestamp, is_interval, moment, microseconds}
use Rattle.datetime.proofs.Sorts.{timestamp_text, interval_text}
use Rattle.datetime.proofs.Years.{leap_years_grow}
use Rattle.datetime.proofs.Bounds.{Shaped, shape_of, time_bounds, date_in_year}

pub moment_fits : (local sign minutes : ℕ) → local < 9000000000000000000 → minutes < 1000 → SFits w64 (moment_at local (offset_of sign minutes))
moment_fits local sign minutes h k = go (eqb sign 45)
  where
    go : (b : Bool) → SFits w64 (moment_at local (pick b (neg_ℤ (pos minutes)) (pos minutes)))
    go true = rw (less_negative local minutes 60000000) (sfits_of (omega arith))
    go false = difference_fits w64 local (minutes * 60000000) (omega arith) (omega arith)

-- the same instant at an offset of m minutes more is m minutes later by local time
pub same_instant : (local offset m : ℕ) → moment_at (local + m * 60000000) (pos (offset + m)) ≡ moment_at local (pos offset)
same_instant local offset m = rw (add_mul offset m) (cancel (pos local) (pos (offset * 60000000)) (pos (m * 60000000)))
  where
    add_mul : (a b : ℕ) → (a + b) * 60000000 ≡ a * 60000000 + b * 60000000
    add_mul a b = omega arith

    cancel : (a y x : ℤ) → (a +ℤ x) -ℤ (y +ℤ x) ≡ a -ℤ y
    cancel a y x =
        ap (λ (z : ℤ). a +ℤ x +ℤ z) (neg_ℤ-+ℤ y x ∙ +ℤ_comm (neg_ℤ y) (neg_ℤ x))
        ∙ sym (+ℤ_assoc (a +ℤ x) (neg_ℤ x) (neg_ℤ y))
        ∙ ap (λ (z : ℤ). z +ℤ neg_ℤ y) (+ℤ-neg_ℤ_cancel a x)

-- from 999 minutes before the year 0000 to 999 minutes after the year 9999
pub record MomentBounds (z : ℤ) : Type 0 where
  pub least : negsuc 59939999999 ≤ℤ z
  pub most : z <ℤ pos 315569579940000000

difference_bounds : (a b : ℕ) → a < 315569520000000000 → b ≤ 59940000000 → MomentBounds (pos a -ℤ pos b)
difference_bounds a zero h k = record { least = le_z_yes tt; most = lt_z_yes (lt→ltb (a + 0) 315569579940000000 (omega arith)) }
difference_bounds a (suc b) h k = go (ltb a (suc b))
  where
    go : (t : Bool) → MomentBounds (cond t (negsuc (suc b - suc a)) (pos (a - suc b)))
    go true = record { least = le_z_yes (le→leb (suc b - suc a) 59939999999 (omega arith)); most = lt_z_yes tt }
    go false = record { least = le_z_yes tt; most = lt_z_yes (lt→ltb (a - suc b) 315569579940000000 (omega arith)) }

sum_bounds : (a b : ℕ) → a < 315569520000000000 → b ≤ 59940000000 → MomentBounds (pos (a + b))
sum_bounds a b h k = record { least = le_z_yes tt; most = lt_z_yes (lt→ltb (a + b) 315569579940000000 (omega arith)) }

local_below : (s : List ℕ) → Shaped s → is_time (time_in s) ≡ true → is_date (date_in s) ≡ true → elapsed (days_before (date_in s)) (time_in s) < 315569520000000000
unfolding leap_years
local_below s shape time date =
    let t = time_bounds (time_in s) time in
    let u = shape.microsecond in
    let y = shape.year in
    let g = leap_years_grow ((date_in s).year + 1) 10000 (omega arith) in
    omega (arith, date_in_year (date_in s) date)

pub moment_bounds : (s : List ℕ) → is_timestamp s ≡ true → MomentBounds (moment s)
moment_bounds s h =
    let p = and_both (shaped s) _ h in
    let q = and_both (is_time (time_in s)) _ p.1 in
    let r = and_both (is_sign (sign_in s)) _ q.1 in
    let shape = shape_of s p.0 in
    go (eqb (sign_in s) 45) (local_below s shape q.0 r.1) (omega (arith, shape.minutes))
  where
    local : ℕ
    local = elapsed (days_before (date_in s)) (time_in s)

    go : (b : Bool) → local < 315569520000000000 → minutes_in s ≤ 999 → MomentBounds (moment_at local (pick b (neg_ℤ (pos (minutes_in s))) (pos (minutes_in s))))
    go true l m = rw (less_negative local (minutes_in s) 60000000) (sum_bounds local (minutes_in s * 60000000) l (omega arith))
    go false l m = difference_bounds local (minutes_in s * 60000000) l (omega arith)

-- what a text without unknown digits says fits too
pub microseconds_fit : (s : List ℕ) → (is_timestamp s || is_interval s) ≡ true → SFits w64 (microseconds s)
microseconds_fit s h = go (is_timestamp s) refl (is_interval s) refl h
  where
    go : (p : Bool) → is_timestamp s ≡ p → (q : Bool) → is_interval s ≡ q → (p || q) ≡ true → SFits w64 (microseconds s)
    go true e q f g =
        let t = timestamp_text s e in
        let shape = shape_of s t.shape in
        let l = local_below s shape t.time t.date in
        rw t.colon (moment_fits (elapsed (days_before (date_in s)) (time_in s)) (sign_in s) (minutes_in s) (omega arith) shape.minutes)
    go false e true f g =
        let t = interval_text s f in
        let shape = shape_of s t.shape in
        let b = time_bounds (time_in s) t.time in
        let d = shape.days in
        let u = shape.microsecond in
        rw t.colon (sfits_of (omega (arith, b.hours, b.minutes, b.seconds)))
    go false e false f g = absurd (apart g)
