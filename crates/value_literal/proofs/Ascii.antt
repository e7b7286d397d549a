-- A datetime's characters are ASCII, and there are 25; one law for each exit of the loop that copies them.
use Rattle.std.specs.Prelude.{None, Option, Some}
use Prim.Native.Nat.{ℕ, ◌+◌, ◌-◌, ◌≤◌, ◌<◌}
use mathlib.Core.List.{List, [], ◌∷◌, ◌++◌, append-nil}
use mathlib.Core.Bool.{Bool, true, false, ◌||◌}
use mathlib.Core.Path.{◌≡◌, refl, sym, ◌∙◌}
use mathlib.Core.Logic.{◌⊎◌, inl, inr}
use native.Mathlib.Omega.{arith}
use lib.ListN.{length, take, length-append}
use lib.Seq.{length-take-le, get_or-append-add}
use lib.Dec.{eqb, ltb}
use borrow.Author.Tests.{eqb-true, eqb-false, ltb-true, ltb-false}
use Rattle.base.specs.Pick.{pick}
use Rattle.base.specs.Part.{part, byte_at}
use Rattle.base.specs.Digit.{all_digits}
use Rattle.base.proofs.Says.{and_both}
use Rattle.base.proofs.DecimalDigits.{decimal_digits}
use Rattle.datetime.specs.Text.{shaped, sign_in, has_colon}
use Rattle.datetime.specs.Exact.{is_timestamp, is_interval}
use Rattle.datetime.specs.Unknown.{known, filled, lowest_digits, lowest_text}
use Rattle.datetime.specs.Datetime.{says_datetime, span_to, sorted, datetime_of}
use Rattle.datetime.specs.declared.Datetime.{Datetime}
use Rattle.datetime.specs.declared.Datetime.TheVariants.{Malformed}
use Rattle.datetime.proofs.Laws.{exact_shaped}
use Rattle.datetime.proofs.Sorts.{sign_is}
use Rattle.datetime.proofs.Known.{known_most}
use Rattle.datetime.proofs.Filled.{byte_known, byte_after}
use Rattle.datetime.proofs.NothingUnknown.{lowest_full}
use Rattle.datetime.proofs.Highest.{text_long, lowest_exact, tail_byte}
use Rattle.string_literal.specs.declared.InString.{InString}
use Rattle.string_literal.specs.declared.InString.TheVariants.{Character, Close, Bad}
use Rattle.string_literal.specs.Char.{char_at}
use Rattle.string_literal.specs.Text.{text_at, characters_of}
use Rattle.string_literal.proofs.Filling.{next_character, at_end as closed}
use Rattle.value_literal.specs.DatetimeText.{Copied}

says_none : (s : List ℕ) → (says_datetime s ≡ true → ⊥) → datetime_of s ≡ Malformed
unfolding datetime_of
says_none s h = go (says_datetime s) refl
  where
    go : (b : Bool) → says_datetime s ≡ b → pick b (sorted (has_colon s) (span_to (known s) s)) Malformed ≡ Malformed
    go true e = absurd (h e)
    go false e = refl

pub too_long : (s : List ℕ) → 25 < length s → datetime_of s ≡ Malformed
too_long s h = says_none s (λ e. omega (arith, text_long (known s) s (known_most s) e))

module _ (s : List ℕ) where
  digit_small : (at n k : ℕ) → all_digits 10 s at n ≡ true → at ≤ k → k < at + n → byte_at s k ≤ 57
  digit_small at n k h l u =
      let e : at + (k - at) ≡ k = omega arith in
      let d : byte_at s (at + (k - at)) ≤ 57 = (decimal_digits s at n (k - at) h (omega arith)).1 in
      rw e at d

  -- every place but that of the sign holds a digit or the point
  small : shaped s ≡ true → (k : ℕ) → k < 25 → (k ≡ 21 → ⊥) → byte_at s k ≤ 57
  unfolding shaped
  small h k l n =
      let a = and_both (eqb (length s) 25) _ h in
      let b = and_both (eqb (byte_at s 14) 46) _ a.1 in
      let d = and_both (all_digits 10 s 0 14) _ b.1 in
      let e = and_both (all_digits 10 s 15 6) _ d.1 in
      by_14 d.0 (eqb-true (byte_at s 14) 46 b.0) e.0 e.1 (ltb k 14) refl
    where
      by_21 : all_digits 10 s 15 6 ≡ true → all_digits 10 s 22 3 ≡ true → 14 < k → (t : Bool) → ltb k 21 ≡ t → byte_at s k ≤ 57
      by_21 f g m true e = digit_small 15 6 k f (omega arith) (omega (arith, ltb-true k 21 e))
      by_21 f g m false e = digit_small 22 3 k g (let z = ltb-false k 21 e in omega_21 z) (omega arith)
        where
          omega_21 : 21 ≤ k → 22 ≤ k
          omega_21 z = go (eqb k 21) refl
            where
              go : (t : Bool) → eqb k 21 ≡ t → 22 ≤ k
              go true e = absurd (n (eqb-true k 21 e))
              go false e = let y = eqb-false k 21 e in omega arith

      by_point : byte_at s 14 ≡ 46 → all_digits 10 s 15 6 ≡ true → all_digits 10 s 22 3 ≡ true → 14 ≤ k → (t : Bool) → eqb k 14 ≡ t → byte_at s k ≤ 57
      by_point p f g m true e = rw (eqb-true k 14 e) (omega arith)
      by_point p f g m false e = let y = eqb-false k 14 e in by_21 f g (omega arith) (ltb k 21) refl

      by_14 : all_digits 10 s 0 14 ≡ true → byte_at s 14 ≡ 46 → all_digits 10 s 15 6 ≡ true → all_digits 10 s 22 3 ≡ true → (t : Bool) → ltb k 14 ≡ t → byte_at s k ≤ 57
      by_14 z p f g true e = digit_small 0 14 k z (omega arith) (omega (arith, ltb-true k 14 e))
      by_14 z p f g false e = by_point p f g (ltb-false k 14 e) (eqb k 14) refl

  -- of a text without stars, the sign's place too
  exact_small : (is_timestamp s || is_interval s) ≡ true → (k : ℕ) → k < 25 → byte_at s k ≤ 58
  exact_small h k l = go (eqb k 21) refl
    where
      sign : (sign_in s ≡ 43) ⊎ ((sign_in s ≡ 45) ⊎ (sign_in s ≡ 58)) → sign_in s ≤ 58
      sign (inl e) = omega arith
      sign (inr (inl e)) = omega arith
      sign (inr (inr e)) = omega arith

      go : (u : Bool) → eqb k 21 ≡ u → byte_at s k ≤ 58
      go true f = rw (eqb-true k 21 f) (sign (sign_is s h))
      go false f = let z = small (exact_shaped s h) k l (eqb-false k 21 f) in omega arith

-- a byte of a datetime is the lowest text's, a star, or the point
module _ (s : List ℕ) where
  module _ (said : says_datetime s ≡ true) where
    long : length s ≡ 25
    long = text_long (known s) s (known_most s) said

    lowest_small : (k : ℕ) → k < 25 → byte_at (filled (known s) (lowest_digits (has_colon s)) s) k ≤ 58
    unfolding lowest_text
    lowest_small = exact_small (lowest_text (known s) s) (lowest_exact (known s) s (known_most s) said)

    star_small : (k : ℕ) → known s ≤ k → k < 21 → byte_at s k ≤ 58
    star_small k g h = rw (tail_byte (known s) s (known_most s) said k g h) (either (eqb k 14))
      where
        either : (b : Bool) → pick b 46 42 ≤ 58
        either true = omega arith
        either false = omega arith

    byte_small : (k : ℕ) → k < 25 → byte_at s k ≤ 58
    byte_small k l = go (ltb k (known s)) refl (ltb k 21) refl
      where
        digits : List ℕ
        digits = lowest_digits (has_colon s)

        go : (a : Bool) → ltb k (known s) ≡ a → (b : Bool) → ltb k 21 ≡ b → byte_at s k ≤ 58
        go true e b f = rw (← byte_known (known s) digits s (known_most s) long (lowest_full (has_colon s)) k (ltb-true k (known s) e)) (lowest_small k l)
        go false e true f = star_small k (ltb-false k (known s) e) (ltb-true k 21 f)
        go false e false f = rw (← byte_after (known s) digits s (known_most s) long (lowest_full (has_colon s)) k (ltb-false k 21 f)) (lowest_small k l)

  pub not_ascii : (k : ℕ) → k < 25 → 127 < byte_at s k → datetime_of s ≡ Malformed
  not_ascii k l h = says_none s (λ said. omega (arith, byte_small said k l))

-- characters copied so far, and those that are left
module _ (cs rest out : List ℕ) (n : ℕ) (inv : cs ≡ take n out ++ rest) (full : length out ≡ 25) where
  copied_length : n ≤ 25 → length (take n out) ≡ n
  copied_length h = length-take-le n out (rw full h)

  pub copied_over : (v : ℕ) (more : List ℕ) → rest ≡ v ∷ more → n ≤ 25 → 25 ≤ n → datetime_of cs ≡ Malformed
  copied_over v more z h l =
      let e : length cs ≡ length (take n out) + length (v ∷ more) = rw (inv, z) (length-append (take n out) (v ∷ more)) in
      too_long cs (let c = copied_length h in omega arith)

  pub copied_wide : (v : ℕ) (more : List ℕ) → rest ≡ v ∷ more → n < 25 → 127 < v → datetime_of cs ≡ Malformed
  copied_wide v more z h l =
      let c : length (take n out) ≡ n = copied_length (omega arith) in
      let a : length (take n out) + 0 ≡ n = omega arith in
      let e : byte_at cs (length (take n out) + 0) ≡ v = rw (inv, z) (get_or-append-add (take n out) (v ∷ more) 0 0) in
      let f : byte_at cs n ≡ v = rw a at e in
      not_ascii cs n h (omega arith)

  pub copied_all : rest ≡ [] → take n out ≡ cs
  copied_all z = sym (inv ∙ rw z (append-nil (take n out)))

pub wide_at : {r : InString} (q : List ℕ) (i : ℕ) (cs out : List ℕ) (n : ℕ) → cs ≡ take n out ++ characters_of (text_at q i) → length out ≡ 25 → r ≡ char_at q i
    → (v next : ℕ) → r ≡ Character v next → n < length out → 127 < v → datetime_of cs ≡ Malformed
wide_at q i cs out n inv full e v next f h l =
    copied_wide cs (characters_of (text_at q i)) out n inv full v (characters_of (text_at q next)) (next_character q i e v next f) (omega arith) l

-- what stands at a place is no character
pub at_end : {r : InString} (q : List ℕ) (i : ℕ) → r ≡ char_at q i → ((v next : ℕ) → r ≡ Character v next → ⊥) → characters_of (text_at q i) ≡ []
at_end {r = Character v next} q i e not = absurd (not v next refl)
at_end {r = Close} q i e not = closed q i e (inl refl)
at_end {r = Bad} q i e not = closed q i e (inr refl)

-- what the copy says
module _ (cs out : List ℕ) (c : Option ℕ) (is : Copied cs out c) where
  pub copied_read : (n : ℕ) → c ≡ Some n → (p : List ℕ) → p ≡ part out 0 n → (d : Datetime) → d ≡ datetime_of p → d ≡ datetime_of cs
  copied_read n e p f d g = let h : take n out ≡ cs = rw e at is in g ∙ rw (f, h)

  pub copied_none : c ≡ None → Malformed ≡ datetime_of cs
  copied_none e = let h : datetime_of cs ≡ Malformed = rw e at is in sym h
