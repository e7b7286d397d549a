-- A text with its unknown digits filled in: which of its bytes, digits and numbers are the text's, and which are the filling's.
use Prim.Native.Nat.{ℕ, zero, suc, ◌+◌, ◌-◌, ◌≤◌, ◌<◌}
use mathlib.Core.Path.{◌≡◌, refl, sym, ap, ◌∙◌}
use mathlib.Core.List.{List, [], ◌++◌}
use native.Mathlib.Omega.{arith}
use lib.ListN.{length, take, drop, length-append, length-drop, take-append-drop, get_or-append}
use lib.Seq.{length-take-le, get_or-append-add, get_or-take, get_or-drop, drop-length}
use Rattle.base.specs.Part.{byte_at}
use Rattle.base.specs.Digit.{all_digits, value_of}
use Rattle.datetime.specs.Unknown.{filled}

-- digits and the numbers that they write are told by the bytes alone
pub digits_alike : (base : ℕ) (s r : List ℕ) (at n : ℕ) → ((i : ℕ) → at ≤ i → i < at + n → byte_at s i ≡ byte_at r i) → all_digits base s at n ≡ all_digits base r at n
unfolding all_digits
digits_alike base s r at zero h = refl
digits_alike base s r at (suc n) h =
    rw (digits_alike base s r at n (λ i a b. h i a (omega arith)), h (at + n) (omega arith) (omega arith)) refl

pub value_alike : (base v : ℕ) (s r : List ℕ) (at n : ℕ) → ((i : ℕ) → at ≤ i → i < at + n → byte_at s i ≡ byte_at r i) → value_of base v s at n ≡ value_of base v r at n
unfolding value_of
value_alike base v s r at zero h = refl
value_alike base v s r at (suc n) h =
    rw (value_alike base v s r at n (λ i a b. h i a (omega arith)), h (at + n) (omega arith) (omega arith)) refl

module _ (k : ℕ) (digits s : List ℕ) (few : k ≤ 21) (long : length s ≡ 25) (full : length digits ≡ 21) where
  front : length (take k s) ≡ k
  front = length-take-le k s (omega arith)

  middle : length (drop k digits) ≡ 21 - k
  middle = rw (length-drop, full)

  pub filled_length : length (filled k digits s) ≡ 25
  unfolding filled
  filled_length = rw (length-append (take k s), length-append (drop k digits), front, middle, length-drop, long) (omega arith)

  pub byte_known : (i : ℕ) → i < k → byte_at (filled k digits s) i ≡ byte_at s i
  unfolding filled
  byte_known i h = get_or-append (take k s) (drop k digits ++ drop 21 s) 0 i (rw front h) ∙ get_or-take k s i 0 h

  pub byte_filled : (i : ℕ) → k ≤ i → i < 21 → byte_at (filled k digits s) i ≡ byte_at digits i
  unfolding filled
  byte_filled i l h =
      let a : i ≡ length (take k s) + (i - k) = omega (arith, front) in
      let b : k + (i - k) ≡ i = omega arith in
      ap (byte_at (take k s ++ (drop k digits ++ drop 21 s))) a
      ∙ get_or-append-add (take k s) (drop k digits ++ drop 21 s) (i - k) 0
      ∙ get_or-append (drop k digits) (drop 21 s) 0 (i - k) (omega (arith, middle))
      ∙ get_or-drop k digits (i - k) 0
      ∙ ap (byte_at digits) b

  pub byte_after : (i : ℕ) → 21 ≤ i → byte_at (filled k digits s) i ≡ byte_at s i
  unfolding filled
  byte_after i h =
      let a : i ≡ length (take k s) + (i - k) = omega (arith, front) in
      let b : i - k ≡ length (drop k digits) + (i - 21) = omega (arith, middle) in
      let e : 21 + (i - 21) ≡ i = omega arith in
      ap (byte_at (take k s ++ (drop k digits ++ drop 21 s))) a
      ∙ get_or-append-add (take k s) (drop k digits ++ drop 21 s) (i - k) 0
      ∙ ap (byte_at (drop k digits ++ drop 21 s)) b
      ∙ get_or-append-add (drop k digits) (drop 21 s) (i - 21) 0
      ∙ get_or-drop 21 s (i - 21) 0
      ∙ ap (byte_at s) e

  -- a field that is known, one that is not, and what stands after the sign
  module _ (at n : ℕ) where
    pub digits_after : 21 ≤ at → all_digits 10 (filled k digits s) at n ≡ all_digits 10 s at n
    digits_after h = digits_alike 10 (filled k digits s) s at n (λ i a b. byte_after i (omega arith))

    pub number_known : at + n ≤ k → value_of 10 0 (filled k digits s) at n ≡ value_of 10 0 s at n
    number_known h = value_alike 10 0 (filled k digits s) s at n (λ i a b. byte_known i (omega arith))

    pub number_filled : k ≤ at → at + n ≤ 21 → value_of 10 0 (filled k digits s) at n ≡ value_of 10 0 digits at n
    number_filled l h = value_alike 10 0 (filled k digits s) digits at n (λ i a b. byte_filled i (omega arith) (omega arith))

    pub number_after : 21 ≤ at → value_of 10 0 (filled k digits s) at n ≡ value_of 10 0 s at n
    number_after h = value_alike 10 0 (filled k digits s) s at n (λ i a b. byte_after i (omega arith))

-- nothing is unknown
pub filled_none : (digits s : List ℕ) → length digits ≡ 21 → filled 21 digits s ≡ s
unfolding filled
filled_none digits s full =
    let e : drop 21 digits ≡ [] = ap (λ (n : ℕ). drop n digits) (sym full) ∙ drop-length digits in
    rw e (take-append-drop 21 s)
