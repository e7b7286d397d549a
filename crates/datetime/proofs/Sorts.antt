-- What a timestamp's and an interval's text without stars pass, test by test. The sign tells which of the two a text is.
use Prim.Native.Nat.{ℕ}
use mathlib.Core.Path.{◌≡◌, refl}
use mathlib.Core.Bool.{Bool, true, false, ◌||◌}
use mathlib.Core.List.{List}
use mathlib.Core.Logic.{◌⊎◌, inl, inr}
use lib.Dec.{eqb}
use borrow.Author.Tests.{eqb-true}
use Rattle.base.proofs.Says.{apart, and_both}
use Rattle.datetime.specs.Fields.{is_date, is_time}
use Rattle.datetime.specs.Text.{shaped, date_in, time_in, sign_in, has_colon, minutes_in}
use Rattle.datetime.specs.Exact.{is_sign, is_timestamp, is_interval}
use Rattle.datetime.proofs.Accepted.{says_sign}

pub record TimestampText (s : List ℕ) : Type 0 where
  pub shape : shaped s ≡ true
  pub time : is_time (time_in s) ≡ true
  pub sign : is_sign (sign_in s) ≡ true
  pub date : is_date (date_in s) ≡ true
  pub colon : has_colon s ≡ false

pub record IntervalText (s : List ℕ) : Type 0 where
  pub shape : shaped s ≡ true
  pub time : is_time (time_in s) ≡ true
  pub colon : has_colon s ≡ true
  pub minutes : eqb (minutes_in s) 0 ≡ true

module _ (s : List ℕ) where
  pub timestamp_text : is_timestamp s ≡ true → TimestampText s
  timestamp_text h =
      let p = and_both (shaped s) _ h in
      let q = and_both (is_time (time_in s)) _ p.1 in
      let r = and_both (is_sign (sign_in s)) (is_date (date_in s)) q.1 in
      record { shape = p.0; time = q.0; sign = r.0; date = r.1; colon = go ((says_sign (sign_in s)).to r.0) }
    where
      go : (sign_in s ≡ 43) ⊎ (sign_in s ≡ 45) → has_colon s ≡ false
      go (inl e) = rw e
      go (inr e) = rw e

  pub interval_text : is_interval s ≡ true → IntervalText s
  interval_text h =
      let p = and_both (shaped s) _ h in
      let q = and_both (is_time (time_in s)) _ p.1 in
      let r = and_both (has_colon s) (eqb (minutes_in s) 0) q.1 in
      record { shape = p.0; time = q.0; colon = r.0; minutes = r.1 }

  pub is_timestamp_law : TimestampText s → is_timestamp s ≡ true
  is_timestamp_law t = rw (t.shape, t.time, t.sign, t.date)

  pub is_interval_law : IntervalText s → is_interval s ≡ true
  is_interval_law t = rw (t.shape, t.time, t.colon, t.minutes)

  -- one of the two
  pub either_text : (is_timestamp s || is_interval s) ≡ true → TimestampText s ⊎ IntervalText s
  either_text h = go (is_timestamp s) refl (is_interval s) refl h
    where
      go : (p : Bool) → is_timestamp s ≡ p → (q : Bool) → is_interval s ≡ q → (p || q) ≡ true → TimestampText s ⊎ IntervalText s
      go true e q f g = inl (timestamp_text e)
      go false e true f g = inr (interval_text f)
      go false e false f g = absurd (apart g)

  pub text_either : TimestampText s ⊎ IntervalText s → (is_timestamp s || is_interval s) ≡ true
  text_either (inl t) = rw (is_timestamp_law t)
  text_either (inr t) = rw (is_interval_law t) (or_true (is_timestamp s))
    where
      or_true : (b : Bool) → (b || true) ≡ true
      or_true true = refl
      or_true false = refl

  -- the sign
  pub sign_is : (is_timestamp s || is_interval s) ≡ true → (sign_in s ≡ 43) ⊎ ((sign_in s ≡ 45) ⊎ (sign_in s ≡ 58))
  sign_is h = go (either_text h)
    where
      plus_or_minus : (sign_in s ≡ 43) ⊎ (sign_in s ≡ 45) → (sign_in s ≡ 43) ⊎ ((sign_in s ≡ 45) ⊎ (sign_in s ≡ 58))
      plus_or_minus (inl e) = inl e
      plus_or_minus (inr e) = inr (inl e)

      go : TimestampText s ⊎ IntervalText s → (sign_in s ≡ 43) ⊎ ((sign_in s ≡ 45) ⊎ (sign_in s ≡ 58))
      go (inl t) = plus_or_minus ((says_sign (sign_in s)).to t.sign)
      go (inr t) = inr (inr (eqb-true (sign_in s) 58 t.colon))
