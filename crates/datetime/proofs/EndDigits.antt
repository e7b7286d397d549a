-- The digits that fill in the two ends: in the lowest every field is the least that there is, in the highest the greatest.
use Prim.Native.Nat.{ℕ, zero, suc, ◌+◌, ◌-◌, ◌≤◌, ◌<◌}
use mathlib.Core.Path.{◌≡◌, refl, sym, subst}
use mathlib.Core.Bool.{Bool, true, false, ◌||◌}
use mathlib.Core.List.{List, [], ◌∷◌, ◌++◌}
use mathlib.Core.Logic.{◌⊎◌, inl, inr}
use native.Mathlib.Omega.{arith}
use lib.Dec.{T, eqb, eqb→eq}
use lib.Ieee.Bits.{is_true}
use lib.ListN.{length}
use Rattle.base.specs.Ascii.{bytes}
use Rattle.base.specs.Part.{byte_at}
use Rattle.base.specs.Range.{within}
use Rattle.base.specs.Digit.{digit_of, value_of}
use Rattle.base.proofs.Says.{Says, says_eqb, says_or}
use Rattle.base.proofs.Tabulate.{all, all_at}
use Rattle.text_writer.specs.Decimal.{digits_within, decimal}
use Rattle.datetime.specs.Calendar.{days_in_month}
use Rattle.datetime.specs.Text.{number}
use Rattle.datetime.specs.Unknown.{lowest_digits, highest_digits}

-- the microsecond digits are all `digit`
abbrev Repeats : List ℕ → (digit : ℕ) → Type 0
Repeats d digit = (i : ℕ) → 15 ≤ i → i < 21 → byte_at d i ≡ digit

repeats : (d : List ℕ) (digit : ℕ) → T (all (λ (j : ℕ). eqb (byte_at d (15 + j)) digit) 0 6) → Repeats d digit
repeats d digit t i g h =
    let e : 15 + (i - 15) ≡ i = omega arith in
    subst (λ (j : ℕ). byte_at d j ≡ digit) e (eqb→eq _ _ (all_at (λ (j : ℕ). eqb (byte_at d (15 + j)) digit) 6 t (i - 15) (omega arith)))

-- what both sorts have: 21 bytes, and a time of day
pub record TimeDigits (d : List ℕ) (hour minute second digit : ℕ) : Type 0 where
  pub full : length d ≡ 21
  pub hours : number d 8 2 ≡ hour
  pub minutes : number d 10 2 ≡ minute
  pub seconds : number d 12 2 ≡ second
  pub microseconds : Repeats d digit

-- and a timestamp's date
pub record DateDigits (d : List ℕ) (year month day : ℕ) : Type 0 where
  pub years : number d 0 4 ≡ year
  pub months : number d 4 2 ≡ month
  pub days : number d 6 2 ≡ day

pub lowest_time : (interval : Bool) → TimeDigits (lowest_digits interval) 0 0 0 48
unfolding value_of digit_of within
lowest_time true = record { full = refl; hours = refl; minutes = refl; seconds = refl; microseconds = repeats (lowest_digits true) 48 tt }
lowest_time false = record { full = refl; hours = refl; minutes = refl; seconds = refl; microseconds = repeats (lowest_digits false) 48 tt }

pub lowest_date : DateDigits (lowest_digits false) 0 1 1
unfolding value_of digit_of within
lowest_date = record { years = refl; months = refl; days = refl }

pub lowest_days : number (lowest_digits true) 0 8 ≡ 0
unfolding value_of digit_of within
lowest_days = refl

-- a month has 28, 29, 30 or 31 days
abbrev one_of_four : ℕ → Bool
one_of_four n = eqb n 28 || (eqb n 29 || (eqb n 30 || eqb n 31))

month_lengths_law : (leap : Bool) (m : ℕ) → 1 ≤ m → m ≤ 12 → T (one_of_four (days_in_month leap m))
month_lengths_law leap zero h l = absurd (omega arith)
month_lengths_law true (suc m) h l = all_at (λ (j : ℕ). one_of_four (days_in_month true (suc j))) 12 tt m (omega arith)
month_lengths_law false (suc m) h l = all_at (λ (j : ℕ). one_of_four (days_in_month false (suc j))) 12 tt m (omega arith)

pub by_month_length : (P : ℕ → Type 0) → P 28 → P 29 → P 30 → P 31 → (leap : Bool) (m : ℕ) → 1 ≤ m → m ≤ 12 → P (days_in_month leap m)
by_month_length P a b c d leap m h l = go (days_in_month leap m) ((says (days_in_month leap m)).to (is_true _ (month_lengths_law leap m h l)))
  where
    says : (n : ℕ) → Says (one_of_four n) ((n ≡ 28) ⊎ ((n ≡ 29) ⊎ ((n ≡ 30) ⊎ (n ≡ 31))))
    says n = says_or _ _ (says_eqb n 28) (says_or _ _ (says_eqb n 29) (says_or _ _ (says_eqb n 30) (says_eqb n 31)))

    go : (n : ℕ) → (n ≡ 28) ⊎ ((n ≡ 29) ⊎ ((n ≡ 30) ⊎ (n ≡ 31))) → P n
    go n (inl e) = subst P (sym e) a
    go n (inr (inl e)) = subst P (sym e) b
    go n (inr (inr (inl e))) = subst P (sym e) c
    go n (inr (inr (inr e))) = subst P (sym e) d

-- a timestamp's highest digits, in a month of so many days
abbrev pub Latest : (day : ℕ) → Type 0
Latest day = TimeDigits (highest_digits false day) 23 59 59 57 × DateDigits (highest_digits false day) 9999 12 day

latest : (day tens ones : ℕ) → decimal day ≡ tens ∷ ones ∷ [] → number (tens ∷ ones ∷ []) 0 2 ≡ day → Latest day
unfolding value_of digit_of within
latest day tens ones e v =
    rw e (
      record { full = refl; hours = refl; minutes = refl; seconds = refl; microseconds = repeats (bytes "999912" ++ (tens ∷ ones ∷ bytes "235959.999999")) 57 tt },
      record { years = refl; months = refl; days = v },
    )

pub highest_day : (leap : Bool) (m : ℕ) → 1 ≤ m → m ≤ 12 → Latest (days_in_month leap m)
unfolding value_of digit_of within decimal digits_within
highest_day = by_month_length Latest (latest 28 50 56 refl refl) (latest 29 50 57 refl refl) (latest 30 51 48 refl refl) (latest 31 51 49 refl refl)

pub highest_time : (day : ℕ) → TimeDigits (highest_digits true day) 23 59 59 57
unfolding value_of digit_of within
highest_time day = record { full = refl; hours = refl; minutes = refl; seconds = refl; microseconds = repeats (highest_digits true day) 57 tt }

pub highest_days : (day : ℕ) → number (highest_digits true day) 0 8 ≡ 99999999
unfolding value_of digit_of within
highest_days day = refl
