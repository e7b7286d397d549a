-- Two texts that are alike where the first k bytes and the part from the sign on are known: a field is the same in both, or it is unknown.
use Prim.Native.Nat.{ℕ, ◌+◌, ◌≤◌, ◌<◌}
use mathlib.Core.Path.{◌≡◌, refl, sym, ◌∙◌}
use mathlib.Core.Bool.{Bool, true, false}
use mathlib.Core.List.{List}
use mathlib.Core.Logic.{inl, inr}
use native.Mathlib.Nat.{le_refl}
use native.Mathlib.Omega.{arith}
use lib.ListN.{length}
use lib.Dec.{ltb}
use borrow.Author.Tests.{ltb-true, ltb-false}
use Rattle.base.specs.Part.{byte_at}
use Rattle.base.specs.Digit.{digit_of}
use Rattle.datetime.specs.Text.{number, time_in, sign_in, has_colon, minutes_in}
use Rattle.datetime.specs.Unknown.{may_start, filled}
use Rattle.datetime.proofs.Filled.{value_alike, byte_known, byte_after}
use Rattle.datetime.proofs.Refilled.{Whole, either_whole}
use Rattle.datetime_laws.proofs.Monotone.{number_grows, NoLater}

pub record Alike (k : ℕ) (a b : List ℕ) : Type 0 where
  pub before : (i : ℕ) → i < k → byte_at a i ≡ byte_at b i
  pub after : (i : ℕ) → 21 ≤ i → byte_at a i ≡ byte_at b i

pub filled_alike : (k : ℕ) (digits s : List ℕ) → k ≤ 21 → length s ≡ 25 → length digits ≡ 21 → Alike k (filled k digits s) s
filled_alike k digits s few long full = record { before = byte_known k digits s few long full; after = byte_after k digits s few long full }

-- both are alike to a third
pub alike_both : {k : ℕ} {a b s : List ℕ} → Alike k a s → Alike k b s → Alike k a b
alike_both p q = record { before = λ i h. p.before i h ∙ sym (q.before i h); after = λ i h. p.after i h ∙ sym (q.after i h) }

module _ (k : ℕ) (a b : List ℕ) (alike : Alike k a b) where
  pub same_sign : sign_in a ≡ sign_in b
  same_sign = alike.after 21 (omega arith)

  pub same_colon : has_colon a ≡ has_colon b
  same_colon = rw same_sign

  pub same_minutes : minutes_in a ≡ minutes_in b
  same_minutes = value_alike 10 0 a b 22 3 (λ i g h. alike.after i (omega arith))

  pub same_field : (at n : ℕ) → at + n ≤ k → number a at n ≡ number b at n
  same_field at n l = value_alike 10 0 a b at n (λ i g h. alike.before i (omega arith))

  pub field_grows : (at n : ℕ) → Whole k at n → (k ≤ at → number a at n ≤ number b at n) → number a at n ≤ number b at n
  field_grows at n (inl h) f = rw (same_field at n h) (le_refl (number b at n))
  field_grows at n (inr h) f = f h

  -- digit by digit
  pub digits_grow : (at n : ℕ) → ((i : ℕ) → k ≤ i → at ≤ i → i < at + n → digit_of (byte_at a i) ≤ digit_of (byte_at b i)) → number a at n ≤ number b at n
  digits_grow at n f = number_grows a b at n each
    where
      each : (i : ℕ) → at ≤ i → i < at + n → digit_of (byte_at a i) ≤ digit_of (byte_at b i)
      each i g h = go (ltb i k) refl
        where
          go : (t : Bool) → ltb i k ≡ t → digit_of (byte_at a i) ≤ digit_of (byte_at b i)
          go true e = rw (alike.before i (ltb-true i k e)) (le_refl (digit_of (byte_at b i)))
          go false e = f i (ltb-false i k e) g h

  pub times_grow : (interval : Bool) → may_start interval k ≡ true
      → (k ≤ 8 → number a 8 2 ≤ number b 8 2) → (k ≤ 10 → number a 10 2 ≤ number b 10 2) → (k ≤ 12 → number a 12 2 ≤ number b 12 2)
      → ((i : ℕ) → k ≤ i → 15 ≤ i → i < 15 + 6 → digit_of (byte_at a i) ≤ digit_of (byte_at b i)) → NoLater (time_in a) (time_in b)
  unfolding time_in
  times_grow interval starts hour minute second micro =
      record {
        hours = field_grows 8 2 (either_whole interval k starts 8 1 tt tt) hour;
        minutes = field_grows 10 2 (either_whole interval k starts 10 1 tt tt) minute;
        seconds = field_grows 12 2 (either_whole interval k starts 12 1 tt tt) second;
        microseconds = digits_grow 15 6 micro;
      }
