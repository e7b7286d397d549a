-- Two fillings of one text. The stars start where a field does, so that a field is known, and then the same in both, or it is the filling's own.
use Prim.Native.Nat.{ℕ, zero, suc, ◌+◌, ◌-◌, ◌≤◌, ◌<◌}
use mathlib.Core.Path.{◌≡◌, refl, sym, ◌∙◌, subst}
use mathlib.Core.Bool.{Bool, true, false, not}
use mathlib.Core.List.{List}
use mathlib.Core.Logic.{◌⊎◌, inl, inr}
use native.Mathlib.Omega.{arith}
use lib.ListN.{length, take, drop, length-append, length-drop, length-take}
use lib.Dec.{T, leb, ltb, eqb}
use borrow.Author.Tests.{eqb-true, leb-true, leb-false, ltb-true, ltb-false}
use Rattle.base.specs.Part.{byte_at}
use Rattle.base.specs.Digit.{digit_of, all_digits}
use Rattle.base.proofs.Says.{and_both}
use Rattle.base.proofs.Digits.{digit_in}
use Rattle.base.proofs.Tabulate.{all, all_at}
use Rattle.datetime.specs.Text.{shaped}
use Rattle.datetime.specs.Unknown.{may_start, filled}
use Rattle.datetime.proofs.Filled.{filled_length, byte_known, byte_filled, digits_after}

-- the `n` bytes from `at` on lie before the stars, or among them
abbrev pub Whole : (k at n : ℕ) → Type 0
Whole k at n = (at + n ≤ k) ⊎ (k ≤ at)

-- no tail starts at the `n` bytes after `at`
abbrev pub NoneInside : (interval : Bool) (at n : ℕ) → Type 0
NoneInside interval at n = T (all (λ (j : ℕ). not (may_start interval (at + 1 + j))) 0 n)

module _ (interval : Bool) (k : ℕ) (starts : may_start interval k ≡ true) where
  inside : (at n : ℕ) → NoneInside interval at n → at < k → k < at + 1 + n → ⊥
  inside at n t l u =
      let e : at + 1 + (k - (at + 1)) ≡ k = omega arith in
      let f = all_at (λ (j : ℕ). not (may_start interval (at + 1 + j))) n t (k - (at + 1)) (omega arith) in
      let g : T (not (may_start interval k)) = subst (λ (j : ℕ). T (not (may_start interval j))) e f in
      let z : T false = rw starts at g in
      z

  pub whole : (at n : ℕ) → NoneInside interval at n → Whole k at (suc n)
  whole at n t = go (leb (at + suc n) k) refl (leb k at) refl
    where
      go : (a : Bool) → leb (at + suc n) k ≡ a → (b : Bool) → leb k at ≡ b → Whole k at (suc n)
      go true e b f = inl (leb-true _ _ e)
      go false e true f = inr (leb-true _ _ f)
      go false e false f = absurd (inside at n t (leb-false k at f) (let h = leb-false (at + suc n) k e in omega arith))

-- hours, minutes and seconds stand at the same bytes in both
pub either_whole : (interval : Bool) (k : ℕ) → may_start interval k ≡ true → (at n : ℕ) → NoneInside true at n → NoneInside false at n → Whole k at (suc n)
either_whole true k h at n t u = whole true k h at n t
either_whole false k h at n t u = whole false k h at n u

-- each byte a digit
digits_each : (base : ℕ) (s : List ℕ) (at n : ℕ) → ((i : ℕ) → i < n → ltb (digit_of (byte_at s (at + i))) base ≡ true) → all_digits base s at n ≡ true
unfolding all_digits
digits_each base s at zero h = refl
digits_each base s at (suc n) h = rw (digits_each base s at n (λ i l. h i (omega arith)), h n (omega arith)) refl

-- a filling of digits and the point
pub record Filling (e : List ℕ) : Type 0 where
  pub full : length e ≡ 21
  pub point : byte_at e 14 ≡ 46
  pub before : all_digits 10 e 0 14 ≡ true
  pub after : all_digits 10 e 15 6 ≡ true

-- what is filled in has 25 bytes only where the text has
pub filled_long : (k : ℕ) (digits s : List ℕ) → k ≤ 21 → length digits ≡ 21 → length (filled k digits s) ≡ 25 → length s ≡ 25
unfolding filled
filled_long k digits s few full h =
    let e = rw (length-append (take k s), length-append (drop k digits), length-take, length-drop, length-drop, full) at h in
    omega arith

module _ (k : ℕ) (d e s : List ℕ) (few : k ≤ 21) (long : length s ≡ 25) (full : length d ≡ 21) (filling : Filling e) where
  -- a byte is known, or e's
  byte_either : (P : ℕ → Type 0) (i : ℕ) → i < 21 → P (byte_at (filled k d s) i) → P (byte_at e i) → P (byte_at (filled k e s) i)
  byte_either P i l p q = go (ltb i k) refl
    where
      go : (b : Bool) → ltb i k ≡ b → P (byte_at (filled k e s) i)
      go true f =
          let h = ltb-true i k f in
          subst P (byte_known k d s few long full i h ∙ sym (byte_known k e s few long filling.full i h)) p
      go false f = subst P (sym (byte_filled k e s few long filling.full i (ltb-false i k f) l)) q

  -- digits stay digits
  digits_refilled : (at n : ℕ) → at + n ≤ 21 → all_digits 10 (filled k d s) at n ≡ true → all_digits 10 e at n ≡ true → all_digits 10 (filled k e s) at n ≡ true
  digits_refilled at n l g h =
      digits_each 10 (filled k e s) at n
      (λ i m. byte_either (λ (b : ℕ). ltb (digit_of b) 10 ≡ true) (at + i) (omega arith) (digit_in 10 (filled k d s) at n i g m) (digit_in 10 e at n i h m))

  pub reshaped : shaped (filled k d s) ≡ true → shaped (filled k e s) ≡ true
  unfolding shaped
  reshaped h =
      let p = and_both (eqb (length (filled k d s)) 25) _ h in
      let q = and_both (eqb (byte_at (filled k d s) 14) 46) _ p.1 in
      let f = and_both (all_digits 10 (filled k d s) 0 14) _ q.1 in
      let g = and_both (all_digits 10 (filled k d s) 15 6) _ f.1 in
      let point : byte_at (filled k e s) 14 ≡ 46 = byte_either (λ (b : ℕ). b ≡ 46) 14 (omega arith) (eqb-true _ _ q.0) filling.point in
      let offset : all_digits 10 (filled k e s) 22 3 ≡ true = digits_after k e s few long filling.full 22 3 (omega arith) ∙ sym (digits_after k d s few long full 22 3 (omega arith)) ∙ g.1 in
      rw (filled_length k e s few long filling.full, point, digits_refilled 0 14 (omega arith) f.0 filling.before, digits_refilled 15 6 (omega arith) g.0 filling.after, offset) refl
