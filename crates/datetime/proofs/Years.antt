-- Leap years recur after 400 years, 97 of them in each 400, so that the days before a year follow from the first 400 years.
use mathlib.Core.Path.{◌≡◌, ◌∙◌, refl, ap, sym}
use mathlib.Core.Bool.{Bool}
use mathlib.Core.Logic.{◌⊎◌, inl, inr}
use Prim.Native.Nat.{ℕ, zero, suc, ◌+◌, ◌*◌, ◌/◌, ◌%◌, ◌≤◌, ◌<◌}
use native.Mathlib.Nat.{le_refl, eq-or-lt_of_le, le_of_suc-le-suc, suc-add, add-mul-mod_self_right, div-add-mod'}
use native.Mathlib.Omega.{arith}
use Rattle.base.specs.Pick.{pick}
use Rattle.base.proofs.Pick.{picked_small}
use Rattle.datetime.specs.Calendar.{leap_year, leap_years, days_before_year}

pub leap_year_cycle : (y : ℕ) → leap_year (y + 400) ≡ leap_year y
leap_year_cycle y =
    let a : (y + 400) % 400 ≡ y % 400 = add-mul-mod_self_right y 1 400 in
    let b : (y + 400) % 100 ≡ y % 100 = add-mul-mod_self_right y 4 100 in
    let c : (y + 400) % 4 ≡ y % 4 = add-mul-mod_self_right y 100 4 in
    rw (a, b, c)

pub leap_years_cycle : (y : ℕ) → leap_years (y + 400) ≡ leap_years y + 97
unfolding leap_years
leap_years_cycle zero = refl
leap_years_cycle (suc y) =
    rw suc-add
    (ap (λ (n : ℕ). n + pick (leap_year (y + 400)) 1 0) (leap_years_cycle y)
    ∙ ap (λ (b : Bool). leap_years y + 97 + pick b 1 0) (leap_year_cycle y)
    ∙ swap (leap_years y) 97 (pick (leap_year y) 1 0))
  where
    swap : (a b c : ℕ) → a + b + c ≡ a + c + b
    swap a b c = omega arith

-- q whole cycles and r years
pub leap_years_cycles : (q r : ℕ) → leap_years (q * 400 + r) ≡ q * 97 + leap_years r
leap_years_cycles zero r = ap leap_years (none 400 r) ∙ sym (none 97 (leap_years r))
  where
    none : (a n : ℕ) → zero * a + n ≡ n
    none a n = omega arith
leap_years_cycles (suc q) r =
    ap leap_years (move q r) ∙ leap_years_cycle (q * 400 + r) ∙ ap (λ (n : ℕ). n + 97) (leap_years_cycles q r) ∙ back q (leap_years r)
  where
    move : (a b : ℕ) → suc a * 400 + b ≡ a * 400 + b + 400
    move a b = omega arith

    back : (a b : ℕ) → a * 97 + b + 97 ≡ suc a * 97 + b
    back a b = omega arith

-- the days before a year, by its cycle and its place in it
pub days_by_cycle : (y d : ℕ) → d ≡ days_before_year (y % 400) → y / 400 * 146097 + d ≡ days_before_year y
days_by_cycle y d e =
    let w : y / 400 * 400 + y % 400 ≡ y = div-add-mod' y 400 in
    let l : leap_years y ≡ y / 400 * 97 + leap_years (y % 400) = ap leap_years (sym w) ∙ leap_years_cycles (y / 400) (y % 400) in
    omega arith

pub leap_years_le : (y : ℕ) → leap_years y ≤ y
unfolding leap_years
leap_years_le zero = le_refl 0
leap_years_le (suc y) = omega (arith, leap_years_le y, picked_small (leap_year y))

pub leap_years_grow : (y z : ℕ) → y ≤ z → leap_years y ≤ leap_years z
unfolding leap_years
leap_years_grow y zero h = let e : y ≡ 0 = omega arith in rw e (le_refl 0)
leap_years_grow y (suc z) h = go (eq-or-lt_of_le h) (λ l. leap_years_grow y z l)
  where
    go : (y ≡ suc z) ⊎ (y < suc z) → (y ≤ z → leap_years y ≤ leap_years z) → leap_years y ≤ leap_years z + pick (leap_year z) 1 0
    go (inl e) r = rw e (le_refl (leap_years z + pick (leap_year z) 1 0))
    go (inr l) r = omega (arith, r (le_of_suc-le-suc l))
