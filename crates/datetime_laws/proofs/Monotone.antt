-- What grows with what: a number with its digits, a time with its fields, the microseconds of whole days and a time with both, and a moment with the local time.
use Prim.Native.Nat.{ℕ, zero, suc, ◌+◌, ◌-◌, ◌*◌, ◌≤◌, ◌<◌}
use mathlib.Core.Path.{◌≡◌, refl, sym, ◌∙◌}
use mathlib.Core.Bool.{Bool, true, false, cond}
use mathlib.Core.List.{List}
use native.Mathlib.Nat.{add-zero}
use native.Mathlib.Omega.{arith}
use lib.Dec.{eqb, ltb, le→leb, lt→ltb}
use lib.IntN.{pos, negsuc, neg_ℤ, ◌-ℤ◌}
use lib.Signed.{lt_z, ◌<ℤ◌, ◌≤ℤ◌, lt_z_yes, lt_z_no, le_z_yes}
use borrow.Author.Tests.{ltb-true, ltb-false, lt-ltb, le-ltb}
use Rattle.base.specs.Pick.{pick}
use Rattle.base.specs.Part.{byte_at}
use Rattle.base.specs.Digit.{digit_of, value_of}
use Rattle.base.proofs.Signed.{less_negative}
use Rattle.datetime.specs.Text.{number, date_in, interval_days, time_in, sign_in, has_colon, minutes_in}
use Rattle.datetime.specs.Moment.{days_before, microseconds_of, elapsed, offset_of, moment_at}
use Rattle.datetime.specs.Exact.{microseconds}
use Rattle.datetime.specs.declared.fields.Time.{Time}

pub number_grows : (s r : List ℕ) (at n : ℕ) → ((i : ℕ) → at ≤ i → i < at + n → digit_of (byte_at s i) ≤ digit_of (byte_at r i)) → number s at n ≤ number r at n
unfolding value_of
number_grows s r at zero h = omega arith
number_grows s r at (suc n) h = omega (arith, number_grows s r at n (λ i a b. h i a (omega arith)), h (at + n) (omega arith) (omega arith))

pub number_apart : (s r : List ℕ) (at n : ℕ) → number s at n ≤ number r at n → digit_of (byte_at s (at + n)) < digit_of (byte_at r (at + n)) → number s at (suc n) < number r at (suc n)
unfolding value_of
number_apart s r at n h l = omega arith

-- every field no later
pub record NoLater (t u : Time) : Type 0 where
  pub hours : t.hour ≤ u.hour
  pub minutes : t.minute ≤ u.minute
  pub seconds : t.second ≤ u.second
  pub microseconds : t.microsecond ≤ u.microsecond

pub time_grows : (t u : Time) → NoLater t u → microseconds_of t ≤ microseconds_of u
time_grows t u h = omega arith

pub time_apart : (t u : Time) → NoLater t u → t.microsecond < u.microsecond → microseconds_of t < microseconds_of u
time_apart t u h l = omega arith

pub elapsed_grows : (m n : ℕ) (t u : Time) → m ≤ n → microseconds_of t ≤ microseconds_of u → elapsed m t ≤ elapsed n u
elapsed_grows m n t u h l = omega arith

pub elapsed_apart : (m n : ℕ) (t u : Time) → m ≤ n → microseconds_of t < microseconds_of u → elapsed m t < elapsed n u
elapsed_apart m n t u h l = omega arith

-- ---- moments: at one offset they are in the order of their local times
same_test : (a b c d : ℕ) → (a < b → c < d) → (c < d → a < b) → ltb a b ≡ ltb c d
same_test a b c d f g = go (ltb a b) refl (ltb c d) refl
  where
    go : (p : Bool) → ltb a b ≡ p → (q : Bool) → ltb c d ≡ q → p ≡ q
    go true e true h = refl
    go true e false h = sym (lt-ltb c d (f (ltb-true a b e))) ∙ h
    go false e true h = sym e ∙ lt-ltb a b (g (ltb-true c d h))
    go false e false h = refl

difference_order : (a b c : ℕ) → lt_z (pos a -ℤ pos c) (pos b -ℤ pos c) ≡ ltb a b
difference_order a b zero = rw (add-zero a, add-zero b)
difference_order a b (suc c) = go (ltb a (suc c)) refl (ltb b (suc c)) refl
  where
    go : (p : Bool) → ltb a (suc c) ≡ p → (q : Bool) → ltb b (suc c) ≡ q
        → lt_z (cond p (negsuc (suc c - suc a)) (pos (a - suc c))) (cond q (negsuc (suc c - suc b)) (pos (b - suc c))) ≡ ltb a b
    go true e true f =
        let h = ltb-true a (suc c) e in
        let k = ltb-true b (suc c) f in
        same_test (suc c - suc b) (suc c - suc a) a b (λ l. omega arith) (λ l. omega arith)
    go true e false f = let h = ltb-true a (suc c) e in let k = ltb-false b (suc c) f in sym (lt-ltb a b (omega arith))
    go false e true f = let h = ltb-false a (suc c) e in let k = ltb-true b (suc c) f in sym (le-ltb a b (omega arith))
    go false e false f =
        let h = ltb-false a (suc c) e in
        let k = ltb-false b (suc c) f in
        same_test (a - suc c) (b - suc c) a b (λ l. omega arith) (λ l. omega arith)

module _ (a b sign minutes : ℕ) where
  moment_order : lt_z (moment_at a (offset_of sign minutes)) (moment_at b (offset_of sign minutes)) ≡ ltb a b
  moment_order = go (eqb sign 45)
    where
      go : (p : Bool) → lt_z (moment_at a (pick p (neg_ℤ (pos minutes)) (pos minutes))) (moment_at b (pick p (neg_ℤ (pos minutes)) (pos minutes))) ≡ ltb a b
      go true = rw (less_negative a minutes 60000000, less_negative b minutes 60000000) (same_test (a + minutes * 60000000) (b + minutes * 60000000) a b (λ l. omega arith) (λ l. omega arith))
      go false = difference_order a b (minutes * 60000000)

pub moment_grows : (a b sign minutes : ℕ) → a ≤ b → moment_at a (offset_of sign minutes) ≤ℤ moment_at b (offset_of sign minutes)
moment_grows a b sign minutes h = lt_z_no (rw (moment_order b a sign minutes, le-ltb b a h) tt)

pub moment_apart : (a b sign minutes : ℕ) → a < b → moment_at a (offset_of sign minutes) <ℤ moment_at b (offset_of sign minutes)
moment_apart a b sign minutes h = lt_z_yes (rw (moment_order a b sign minutes, lt-ltb a b h) tt)

-- ---- texts: the same sign and offset, and no field later
pub record Rises (a b : List ℕ) : Type 0 where
  pub sign : sign_in a ≡ sign_in b
  pub minutes : minutes_in a ≡ minutes_in b
  pub dates : has_colon a ≡ false → days_before (date_in a) ≤ days_before (date_in b)
  pub days : has_colon a ≡ true → interval_days a ≤ interval_days b
  pub times : NoLater (time_in a) (time_in b)

module _ (a b : List ℕ) (rises : Rises a b) where
  colon : (t : Bool) → has_colon a ≡ t → has_colon b ≡ t
  colon t e = rw rises.sign at e

  pub microseconds_grow : microseconds a ≤ℤ microseconds b
  microseconds_grow = go (has_colon a) refl
    where
      time : microseconds_of (time_in a) ≤ microseconds_of (time_in b)
      time = time_grows (time_in a) (time_in b) rises.times

      go : (t : Bool) → has_colon a ≡ t → microseconds a ≤ℤ microseconds b
      go true e = rw (e, colon true e) (le_z_yes (le→leb _ _ (elapsed_grows (interval_days a) (interval_days b) (time_in a) (time_in b) (rises.days e) time)))
      go false e =
          rw (e, colon false e, rises.sign, rises.minutes)
          (moment_grows _ _ (sign_in b) (minutes_in b) (elapsed_grows (days_before (date_in a)) (days_before (date_in b)) (time_in a) (time_in b) (rises.dates e) time))

  pub microseconds_apart : (time_in a).microsecond < (time_in b).microsecond → microseconds a <ℤ microseconds b
  microseconds_apart l = go (has_colon a) refl
    where
      time : microseconds_of (time_in a) < microseconds_of (time_in b)
      time = time_apart (time_in a) (time_in b) rises.times l

      go : (t : Bool) → has_colon a ≡ t → microseconds a <ℤ microseconds b
      go true e = rw (e, colon true e) (lt_z_yes (lt→ltb _ _ (elapsed_apart (interval_days a) (interval_days b) (time_in a) (time_in b) (rises.days e) time)))
      go false e =
          rw (e, colon false e, rises.sign, rises.minutes)
          (moment_apart _ _ (sign_in b) (minutes_in b) (elapsed_apart (days_before (date_in a)) (days_before (date_in b)) (time_in a) (time_in b) (rises.dates e) time))
