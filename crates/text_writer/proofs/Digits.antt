-- Laws of decimal digits: a number by its tenth; the digits read back to the number; no zero in front; how many there are.
use Prim.Native.Nat.{ℕ, zero, suc, ◌+◌, ◌*◌, ◌/◌, ◌%◌, ◌^◌, ◌≤◌, ◌<◌}
use mathlib.Core.List.{List, [], ◌∷◌, ◌++◌}
use mathlib.Core.Bool.{Bool, true, false}
use mathlib.Core.Path.{◌≡◌, refl, sym, ap, ◌∙◌}
use native.Mathlib.Omega.{arith}
use native.Mathlib.Nat.{zero-add, div-add-mod', pow-succ', pow-zero}
use lib.ListN.{length, length-append, get_or-append}
use lib.Seq.{get_or-append_seam}
use lib.Dec.{ltb}
use borrow.Author.Tests.{lt-ltb, le-ltb, ltb-true, ltb-false, le-leb}
use Rattle.base.specs.Part.{byte_at}
use Rattle.base.specs.Range.{within}
use Rattle.base.specs.Digit.{digit_of, all_digits, value_of}
use Rattle.base.proofs.Lists.{byte_within}
use Rattle.base.proofs.Digits.{digits_next, value_next}
use Rattle.text_writer.specs.Decimal.{digits_within, decimal}

digits_small : (k n : ℕ) → n < 10 → digits_within k n ≡ (48 + n) ∷ []
unfolding digits_within
digits_small zero n h = refl
digits_small (suc k) n h = rw (lt-ltb n 10 h, digits_within) refl

digits_large : (k n : ℕ) → 10 ≤ n → digits_within (suc k) n ≡ digits_within k (n / 10) ++ ((48 + n % 10) ∷ [])
unfolding digits_within
digits_large k n h = rw (le-ltb n 10 h, digits_within) refl

tenth_less : (n k : ℕ) → 10 ≤ n → n ≤ suc k → n / 10 ≤ k
tenth_less n k h l = omega arith

-- the number of divisions doesn't matter once it is enough
pub decimal_more : (j k n : ℕ) → n ≤ j → n ≤ k → digits_within j n ≡ digits_within k n
decimal_more zero k n h l = digits_small zero n (omega arith) ∙ sym (digits_small k n (omega arith))
decimal_more (suc j) zero n h l = digits_small (suc j) n (omega arith) ∙ sym (digits_small zero n (omega arith))
decimal_more (suc j) (suc k) n h l = go (ltb n 10) refl (λ g. decimal_more j k (n / 10) (tenth_less n j g h) (tenth_less n k g l))
  where
    go : (b : Bool) → ltb n 10 ≡ b → (10 ≤ n → digits_within j (n / 10) ≡ digits_within k (n / 10)) → digits_within (suc j) n ≡ digits_within (suc k) n
    go true e r = let g = ltb-true n 10 e in digits_small (suc j) n g ∙ sym (digits_small (suc k) n g)
    go false e r = let g = ltb-false n 10 e in digits_large j n g ∙ ap (λ (s : List ℕ). s ++ ((48 + n % 10) ∷ [])) (r g) ∙ sym (digits_large k n g)

-- one digit, or those of a tenth and one more
pub decimal_small : (n : ℕ) → n < 10 → decimal n ≡ (48 + n) ∷ []
unfolding decimal
decimal_small n h = digits_small n n h

pub decimal_large : (n : ℕ) → 10 ≤ n → decimal n ≡ decimal (n / 10) ++ ((48 + n % 10) ∷ [])
unfolding decimal
decimal_large zero h = absurd (omega arith)
decimal_large (suc n) h = digits_large n (suc n) h ∙ ap (λ (s : List ℕ). s ++ ((48 + suc n % 10) ∷ [])) (decimal_more n (suc n / 10) (suc n / 10) (omega arith) (omega arith))

-- what holds of one digit, and of a number if it holds of its tenth, holds of all numbers
module _ (P : List ℕ → ℕ → Type 0) (small : (n : ℕ) → n < 10 → P ((48 + n) ∷ []) n) (large : (s : List ℕ) (n : ℕ) → 10 ≤ n → P s (n / 10) → P (s ++ ((48 + n % 10) ∷ [])) n) where
  by_tenths_within : (k n : ℕ) → n ≤ k → P (decimal n) n
  by_tenths_within zero n h = rw (decimal_small n (omega arith)) (small n (omega arith))
  by_tenths_within (suc k) n h = go (ltb n 10) refl (λ g. by_tenths_within k (n / 10) (tenth_less n k g h))
    where
      go : (b : Bool) → ltb n 10 ≡ b → (10 ≤ n → P (decimal (n / 10)) (n / 10)) → P (decimal n) n
      go true e r = let g = ltb-true n 10 e in rw (decimal_small n g) (small n g)
      go false e r = let g = ltb-false n 10 e in rw (decimal_large n g) (large (decimal (n / 10)) n g (r g))

  pub by_tenths : (n : ℕ) → P (decimal n) n
  by_tenths n = by_tenths_within n n (omega arith)

-- ---- what the digits write, as decimal digits of a query are read (base/specs/Digit)
digit_read : (d : ℕ) → d < 10 → digit_of (48 + d) ≡ d
unfolding digit_of within
digit_read d h = rw (le-leb 48 (48 + d) (omega arith), le-leb (48 + d) 57 (omega arith)) (omega arith)

byte_front : (s t : List ℕ) (n : ℕ) → n < length s → byte_at (s ++ t) (0 + n) ≡ byte_at s (0 + n)
byte_front s t n h = rw (zero-add n) (get_or-append s t 0 n h)

value_front : (s t : List ℕ) (n : ℕ) → n ≤ length s → value_of 10 0 (s ++ t) 0 n ≡ value_of 10 0 s 0 n
unfolding value_of
value_front s t zero h = refl
value_front s t (suc n) h = rw (value_front s t n (omega arith), byte_front s t n (omega arith)) refl

digits_front : (s t : List ℕ) (n : ℕ) → n ≤ length s → all_digits 10 (s ++ t) 0 n ≡ all_digits 10 s 0 n
unfolding all_digits
digits_front s t zero h = refl
digits_front s t (suc n) h = rw (digits_front s t n (omega arith), byte_front s t n (omega arith)) refl

-- all of a text is decimal digits, and they write the number
pub record Writes (s : List ℕ) (n : ℕ) : Type 0 where
  pub digits : all_digits 10 s 0 (length s) ≡ true
  pub value : value_of 10 0 s 0 (length s) ≡ n

writes_none : Writes [] 0
unfolding value_of all_digits
writes_none = record { digits = refl; value = refl }

writes_more : {s : List ℕ} {m : ℕ} (d n : ℕ) → d < 10 → m * 10 + d ≡ n → Writes s m → Writes (s ++ ((48 + d) ∷ [])) n
writes_more {s} {m} d n h f w = record { digits = rw l (digits_next 10 (s ++ ((48 + d) ∷ [])) 0 (length s) all last h); value = rw l (sym (value_next 10 0 m (s ++ ((48 + d) ∷ [])) 0 (length s) d so last) ∙ f) }
  where
    l : length (s ++ ((48 + d) ∷ [])) ≡ length s + 1
    l = length-append s ((48 + d) ∷ [])

    last : d ≡ digit_of (byte_at (s ++ ((48 + d) ∷ [])) (0 + length s))
    last = rw (zero-add (length s), get_or-append_seam s (48 + d) [] 0) (sym (digit_read d h))

    all : all_digits 10 (s ++ ((48 + d) ∷ [])) 0 (length s) ≡ true
    all = digits_front s ((48 + d) ∷ []) (length s) (omega arith) ∙ w.digits

    so : m ≡ value_of 10 0 (s ++ ((48 + d) ∷ [])) 0 (length s)
    so = sym (value_front s ((48 + d) ∷ []) (length s) (omega arith) ∙ w.value)

-- the digits read back to the number
pub decimal_writes : (n : ℕ) → Writes (decimal n) n
decimal_writes = by_tenths Writes (λ n h. writes_more {s = []} {m = 0} n n h (omega arith) writes_none) (λ s n h w. writes_more {s = s} {m = n / 10} (n % 10) n (omega arith) (div-add-mod' n 10) w)

-- the first of them is no zero, unless the number is
abbrev Leads : List ℕ → ℕ → Type 0
Leads s n = 0 < n → 48 < byte_at s 0

pub decimal_leads : (n : ℕ) → 0 < n → 48 < byte_at (decimal n) 0
decimal_leads = by_tenths Leads (λ n h p. omega arith) more
  where
    more : (s : List ℕ) (n : ℕ) → 10 ≤ n → Leads s (n / 10) → Leads (s ++ ((48 + n % 10) ∷ [])) n
    more s n h r p =
        let f : 48 < byte_at s 0 = r (omega arith) in
        let l : 0 < length s = byte_within s 0 (λ e. omega arith) in
        rw (get_or-append s ((48 + n % 10) ∷ []) 0 0 l) f

-- a number of 64 bits has at most 20
abbrev Few : List ℕ → ℕ → Type 0
Few s n = (k : ℕ) → n < 10 ^ suc k → length s ≤ suc k

pub decimal_few : (n k : ℕ) → n < 10 ^ suc k → length (decimal n) ≤ suc k
decimal_few = by_tenths Few (λ n h k p. omega arith) more
  where
    more : (s : List ℕ) (n : ℕ) → 10 ≤ n → Few s (n / 10) → Few (s ++ ((48 + n % 10) ∷ [])) n
    more s n h r zero p = absurd (omega (arith, pow-succ' 10 0, pow-zero 10))
    more s n h r (suc k) p = omega (arith, pow-succ' 10 (suc k), length-append s ((48 + n % 10) ∷ []), r k (omega (arith, pow-succ' 10 (suc k))))

pub decimal_short : (n : ℕ) → n ≤ 0xffffffffffffffff → length (decimal n) ≤ 20
decimal_short n h = decimal_few n 19 (omega arith)
