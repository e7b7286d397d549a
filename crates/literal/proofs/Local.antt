-- Numbers in texts that are alike up to a stop have the same digits, and so the same value.
use Prim.Native.Nat.{ℕ, ◌+◌, ◌-◌, ◌*◌, ◌/◌, ◌≤◌, ◌<◌}
use mathlib.Core.Path.{◌≡◌, refl, ap, ◌∙◌}
use mathlib.Core.List.{List}
use mathlib.Core.Bool.{Bool, true, false, ◌&&◌}
use native.Mathlib.Omega.{arith}
use native.Mathlib.Nat.{div-mul-le_self}
use lib.Dec.{eqb}
use Rattle.base.specs.Pick.{pick}
use Rattle.base.specs.Part.{byte_at}
use Rattle.base.specs.Digit.{value_of}
use Rattle.scan.specs.Class.{run}
use Rattle.scan.specs.declared.Class.TheVariants.{Digit}
use Rattle.scan.proofs.Runs.{run_from}
use Rattle.scan.proofs.Alike.{Alike, at_stops, NoStop, test_alike, before_stop, digits_within_law, digits_alike, value_alike}
use Rattle.numeral.specs.Numeral.{one_of, signed, hex_literal, real_literal}
use Rattle.numeral.proofs.Local.{real_point, signed_alike, signed_within, hex_lead_within}
use Rattle.token.specs.declared.Form.{Form}
use Rattle.token.specs.declared.Form.TheVariants.{Decimal, Binary, Hex, Real}
use Rattle.literal.specs.Integer.{negative, base_of, lead_of, digit_count, magnitude_from, magnitude, integer_of}
use Rattle.literal.specs.RealLiteral.{fraction_from, fraction_end, digits_of, exponent_size, exponent_below, real_from, real_literal_of}

exponent_stop : NoStop (one_of 69 101)
exponent_stop = at_stops (λ (x : ℕ). one_of 69 101 x ≡ false) refl refl refl refl refl refl

module _ {q r : List ℕ} {a b k l : ℕ} (A : Alike q r a b k l) where
  negative_alike : (i j : ℕ) → a ≤ i → i ≤ k → i + b ≡ j + a → negative q i ≡ negative r j
  negative_alike = test_alike A (λ (x : ℕ). eqb x 45) (at_stops (λ (x : ℕ). eqb x 45 ≡ false) refl refl refl refl refl refl)

  -- ---- integers
  record Counts (f : Form) (i j : ℕ) : Type 0 where
    pub same : digit_count f q i ≡ digit_count f r j
    pub short : i + digit_count f q i ≤ k

  counts : (f : Form) (i j : ℕ) → a ≤ i → i ≤ k → i + b ≡ j + a → Counts f i j
  unfolding digit_count
  counts Decimal i j s w x =
      let d = digits_alike A 10 (omega arith) i j s w x in
      let f = run_from (Digit 10) q i in
      record { same = omega arith; short = omega (arith, digits_within_law A 10 (omega arith) i w) }
  counts Binary i j s w x =
      let d = digits_alike A 2 (omega arith) i j s w x in
      let f = run_from (Digit 2) q i in
      record { same = omega arith; short = omega (arith, digits_within_law A 2 (omega arith) i w) }
  counts Hex i j s w x =
      let d = digits_alike A 16 (omega arith) i j s w x in
      let f = run_from (Digit 16) q i in
      let z : run (Digit 16) q i - i ≡ run (Digit 16) r j - j = omega arith in
      record { same = ap (λ (n : ℕ). n / 2 * 2) z; short = omega (arith, digits_within_law A 16 (omega arith) i w, div-mul-le_self (run (Digit 16) q i - i) 2) }
  counts Real i j s w x = record { same = refl; short = omega arith }

  magnitude_alike : (f : Form) (i j : ℕ) → a ≤ i → i ≤ k → i + b ≡ j + a → magnitude_from f q i ≡ magnitude_from f r j
  unfolding magnitude_from
  magnitude_alike f i j s w x =
      let c = counts f i j s w x in
      value_alike A (base_of f) 0 i j (digit_count f q i) s c.short x ∙ ap (value_of (base_of f) 0 r j) c.same

  -- what stands before the digits
  lead_within : (f : Form) (i : ℕ) → i ≤ k → (f ≡ Hex → i < hex_literal q i) → signed q i + lead_of f ≤ k
  unfolding lead_of
  lead_within Decimal i w h = omega (arith, (signed_within A i w).1)
  lead_within Binary i w h = omega (arith, (signed_within A i w).1)
  lead_within Hex i w h = hex_lead_within A i w (h refl)
  lead_within Real i w h = omega (arith, (signed_within A i w).1)

  pub integer_alike : (f : Form) (i j : ℕ) → a ≤ i → i ≤ k → i + b ≡ j + a → (f ≡ Hex → i < hex_literal q i) → integer_of q f i ≡ integer_of r f j
  unfolding integer_of magnitude
  integer_alike f i j s w x h =
      rw (
        negative_alike i j s w x,
        magnitude_alike f (signed q i + lead_of f) (signed r j + lead_of f) (omega (arith, (signed_within A i w).0)) (lead_within f i w h) (omega (arith, signed_alike A i j s w x)),
      ) refl

  -- ---- reals
  -- the digits from a place on
  digits_value : (v i j : ℕ) → a ≤ i → i ≤ k → i + b ≡ j + a → value_of 10 v q i (run (Digit 10) q i - i) ≡ value_of 10 v r j (run (Digit 10) r j - j)
  digits_value v i j s w x =
      let d = digits_alike A 10 (omega arith) i j s w x in
      let f = run_from (Digit 10) q i in
      let z : run (Digit 10) q i - i ≡ run (Digit 10) r j - j = omega arith in
      value_alike A 10 v i j (run (Digit 10) q i - i) s (omega (arith, digits_within_law A 10 (omega arith) i w)) x ∙ ap (value_of 10 v r j) z

  -- the exponent, if there is one
  size_alike : (i j : ℕ) → a ≤ i → i ≤ k → i + b ≡ j + a → exponent_size q i ≡ exponent_size r j
  unfolding exponent_size
  size_alike i j s w x = rw (← test_alike A (one_of 69 101) exponent_stop i j s w x) (go (one_of 69 101 (byte_at q i)) refl)
    where
      go : (t : Bool) → one_of 69 101 (byte_at q i) ≡ t
          → pick t (value_of 10 0 q (signed q (i + 1)) (run (Digit 10) q (signed q (i + 1)) - signed q (i + 1))) 0
          ≡ pick t (value_of 10 0 r (signed r (j + 1)) (run (Digit 10) r (signed r (j + 1)) - signed r (j + 1))) 0
      go true e =
          let h = before_stop A (one_of 69 101) exponent_stop i w e in
          let o = signed_within A (i + 1) (omega arith) in
          digits_value 0 (signed q (i + 1)) (signed r (j + 1)) (omega (arith, o.0)) o.1 (signed_alike A (i + 1) (j + 1) (omega arith) (omega arith) (omega arith))
      go false e = refl

  below_alike : (i j : ℕ) → a ≤ i → i ≤ k → i + b ≡ j + a → exponent_below q i ≡ exponent_below r j
  unfolding exponent_below
  below_alike i j s w x = rw (← test_alike A (one_of 69 101) exponent_stop i j s w x) (go (one_of 69 101 (byte_at q i)) refl)
    where
      go : (t : Bool) → one_of 69 101 (byte_at q i) ≡ t → (t && eqb (byte_at q (i + 1)) 45) ≡ (t && eqb (byte_at r (j + 1)) 45)
      go true e =
          let h = before_stop A (one_of 69 101) exponent_stop i w e in
          negative_alike (i + 1) (j + 1) (omega arith) (omega arith) (omega arith)
      go false e = refl

  -- digits with a point behind them
  module _ (i j : ℕ) (s : a ≤ i) (w : i ≤ k) (x : i + b ≡ j + a) (point : eqb (byte_at q (run (Digit 10) q i)) 46 ≡ true) where
    behind : (a ≤ fraction_from q i) × (fraction_from q i ≤ k) × (fraction_from q i + b ≡ fraction_from r j + a)
    behind =
        let m = digits_within_law A 10 (omega arith) i w in
        let h = before_stop A (λ (y : ℕ). eqb y 46) (at_stops (λ (y : ℕ). eqb y 46 ≡ false) refl refl refl refl refl refl) (run (Digit 10) q i) m point in
        (omega (arith, run_from (Digit 10) q i), omega arith, omega (arith, digits_alike A 10 (omega arith) i j s w x))

    after : (a ≤ fraction_end q i) × (fraction_end q i ≤ k) × (fraction_end q i + b ≡ fraction_end r j + a)
    after =
        let p = behind in (
          omega (arith, run_from (Digit 10) q (fraction_from q i)),
          digits_within_law A 10 (omega arith) (fraction_from q i) p.1,
          digits_alike A 10 (omega arith) (fraction_from q i) (fraction_from r j) p.0 p.1 p.2,
        )

    digits_same : digits_of q i ≡ digits_of r j
    unfolding digits_of
    digits_same =
        let p = behind in
        ap (λ (v : ℕ). value_of 10 v q (fraction_from q i) (fraction_end q i - fraction_from q i)) (digits_value 0 i j s w x)
        ∙ digits_value (value_of 10 0 r j (run (Digit 10) r j - j)) (fraction_from q i) (fraction_from r j) p.0 p.1 p.2

    real_from_alike : (n : Bool) → real_from q n i ≡ real_from r n j
    unfolding real_from
    real_from_alike n =
        let p = behind in
        let o = after in
        let d : fraction_end q i - fraction_from q i ≡ fraction_end r j - fraction_from r j = omega (arith, o.2, p.2) in
        rw (digits_same, below_alike (fraction_end q i) (fraction_end r j) o.0 o.1 o.2, size_alike (fraction_end q i) (fraction_end r j) o.0 o.1 o.2, d) refl

  pub real_alike : (i j : ℕ) → a ≤ i → i ≤ k → i + b ≡ j + a → i < real_literal q i → real_literal_of q i ≡ real_literal_of r j
  unfolding real_literal_of
  real_alike i j s w x h =
      let o = signed_within A i w in
      ap (λ (n : Bool). real_from q n (signed q i)) (negative_alike i j s w x)
      ∙ real_from_alike (signed q i) (signed r j) (omega (arith, o.0)) o.1 (signed_alike A i j s w x) (real_point q i h) (negative r j)
