-- Where number rules do not fit: by the first byte, and by the byte after the decimal digits.
use Prim.Native.Nat.{ℕ, ◌+◌, ◌-◌, ◌≤◌, ◌<◌}
use mathlib.Core.Path.{◌≡◌, refl, sym, ◌∙◌}
use mathlib.Core.List.{List}
use mathlib.Core.Logic.{◌⊎◌, inl, inr}
use mathlib.Core.Bool.{Bool, true, false, true≢false}
use native.Mathlib.Nat.{eq-or-lt_of_le}
use native.Mathlib.Omega.{arith}
use lib.Dec.{ltb, eqb}
use borrow.Author.Tests.{ltb-true, lt-ltb, le-ltb, ne_eqb}
use Rattle.base.specs.Pick.{pick}
use Rattle.base.specs.Part.{byte_at}
use Rattle.base.specs.Range.{within}
use Rattle.base.specs.Digit.{digit_of}
use Rattle.base.proofs.Says.{or_neither}
use Rattle.scan.specs.Class.{run, in_class}
use Rattle.scan.specs.declared.Class.TheVariants.{Digit}
use Rattle.scan.proofs.Runs.{run_from, run_holds, run_longest, digit_no_zero}
use Rattle.numeral.specs.Numeral.{one_of, moved, signed, unsigned_integer, decimal_literal, binary_body, binary_literal, hex_body, hex_literal, exact_numeric, real_body, real_literal}
use Rattle.numeral.proofs.Longest.{starts, digit_in, other}

-- a rule that did not move from its start
stays : (at s : ℕ) → moved at s s ≡ at
stays at s = rw (le-ltb s s (omega arith)) refl

module _ (q : List ℕ) where
  wider : (base b : ℕ) → base ≤ 10 → in_class (Digit base) b ≡ true → in_class (Digit 10) b ≡ true
  unfolding in_class
  wider base b l h = lt-ltb (digit_of b) 10 (omega (arith, ltb-true (digit_of b) base h))

  -- digits of a lower base end no later than decimal ones
  shorter : (base a : ℕ) → base ≤ 10 → run (Digit base) q a ≤ run (Digit 10) q a
  shorter base a l =
      let f = run_from (Digit base) q a in
      let w = run_longest (Digit 10) (digit_no_zero 10 (omega arith)) q a (run (Digit base) q a - a) (λ i h. wider base (byte_at q (a + i)) l (run_holds (Digit base) q a (a + i) (omega arith) (omega arith))) in
      omega arith

  -- a first byte that is no digit
  module _ (a : ℕ) (no_digit : in_class (Digit 10) (byte_at q a) ≡ false) where
    still : (base : ℕ) → base ≤ 10 → run (Digit base) q a ≡ a
    still base l = go (eq-or-lt_of_le (run_from (Digit base) q a))
      where
        go : (a ≡ run (Digit base) q a) ⊎ (a < run (Digit base) q a) → run (Digit base) q a ≡ a
        go (inl z) = sym z
        go (inr z) = absurd (true≢false (sym (wider base (byte_at q a) l (starts q base (omega arith) a z)) ∙ no_digit))

    no_zero_there : eqb (byte_at q a) 48 ≡ false
    unfolding in_class digit_of within
    no_zero_there = ne_eqb (byte_at q a) 48 (λ e. true≢false (rw e at no_digit))

    -- and no sign
    module _ (no_sign : one_of 43 45 (byte_at q a) ≡ false) where
      pub no_decimal : decimal_literal q a ≡ a
      unfolding decimal_literal signed unsigned_integer
      no_decimal = rw no_sign (rw (still 10 (omega arith)) (stays a a))

      pub no_binary : binary_literal q a ≡ a
      unfolding binary_literal signed binary_body
      no_binary = rw no_sign (rw (still 2 (omega arith)) (rw (le-ltb a a (omega arith)) (stays a a)))

      pub no_hex : hex_literal q a ≡ a
      unfolding hex_literal signed hex_body
      no_hex = rw no_sign (rw no_zero_there (stays a a))

      pub no_real : eqb (byte_at q a) 46 ≡ false → real_literal q a ≡ a
      unfolding real_literal signed real_body exact_numeric unsigned_integer
      no_real h = rw no_sign (rw (still 10 (omega arith)) (rw h (rw (le-ltb a a (omega arith)) (stays a a))))

  -- a byte up to the end of decimal digits is not k, where k is none and does not follow them
  apart : (a m k : ℕ) → 10 ≤ digit_of k → eqb (byte_at q (run (Digit 10) q a)) k ≡ false → a ≤ m → m ≤ run (Digit 10) q a → eqb (byte_at q m) k ≡ false
  apart a m k l h f g = go (eq-or-lt_of_le g)
    where
      go : (m ≡ run (Digit 10) q a) ⊎ (m < run (Digit 10) q a) → eqb (byte_at q m) k ≡ false
      go (inl z) = rw z h
      go (inr z) = ne_eqb (byte_at q m) k (λ e. other q 10 (omega arith) (byte_at q m) k e l (digit_in q 10 (omega arith) a m f z))

  neither : (a m k l : ℕ) → 10 ≤ digit_of k → 10 ≤ digit_of l → one_of k l (byte_at q (run (Digit 10) q a)) ≡ false → a ≤ m → m ≤ run (Digit 10) q a → one_of k l (byte_at q m) ≡ false
  neither a m k l f g h b e =
      let n = or_neither (eqb (byte_at q (run (Digit 10) q a)) k) (eqb (byte_at q (run (Digit 10) q a)) l) h in
      rw (apart a m k f n.0 b e) (apart a m l g n.1 b e)

  -- decimal digits, with a sign or without, and the byte after them
  module _ (a : ℕ) (digits : a < decimal_literal q a) where
    digits_from : (signed q a < run (Digit 10) q (signed q a)) × (decimal_literal q a ≡ run (Digit 10) q (signed q a))
    unfolding decimal_literal unsigned_integer
    digits_from = go (ltb (signed q a) (run (Digit 10) q (signed q a))) refl digits
      where
        go : (t : Bool) → ltb (signed q a) (run (Digit 10) q (signed q a)) ≡ t → a < pick t (run (Digit 10) q (signed q a)) a
            → (signed q a < run (Digit 10) q (signed q a)) × (pick t (run (Digit 10) q (signed q a)) a ≡ run (Digit 10) q (signed q a))
        go true e h = (ltb-true (signed q a) (run (Digit 10) q (signed q a)) e, refl)
        go false e h = absurd (omega arith)

    abbrev next : ℕ
    next = byte_at q (decimal_literal q a)

    pub alone_binary : one_of 66 98 next ≡ false → binary_literal q a ≡ a
    unfolding binary_literal binary_body digit_of within
    alone_binary h =
        let s = signed q a in
        let n = neither s (run (Digit 2) q s) 66 98 (omega arith) (omega arith) (rw digits_from.1 at h) (run_from (Digit 2) q s) (shorter 2 s (omega arith)) in
        rw n (go (ltb s (run (Digit 2) q s)))
      where
        go : (t : Bool) → moved a (signed q a) (pick t (signed q a) (signed q a)) ≡ a
        go true = stays a (signed q a)
        go false = stays a (signed q a)

    pub alone_hex : one_of 88 120 next ≡ false → hex_literal q a ≡ a
    unfolding hex_literal hex_body digit_of within
    alone_hex h =
        let s = signed q a in
        let n = neither s (s + 1) 88 120 (omega arith) (omega arith) (rw digits_from.1 at h) (omega arith) (omega (arith, digits_from.0)) in
        rw n (go (eqb (byte_at q s) 48))
      where
        go : (t : Bool) → moved a (signed q a) (pick t (signed q a) (signed q a)) ≡ a
        go true = stays a (signed q a)
        go false = stays a (signed q a)

    pub alone_real : eqb next 46 ≡ false → real_literal q a ≡ a
    unfolding real_literal real_body exact_numeric unsigned_integer
    alone_real h = let s = signed q a in rw (rw digits_from.1 at h) (rw (le-ltb s s (omega arith)) (stays a s))
