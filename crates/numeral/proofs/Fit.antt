-- What a number rule's end by its definition reaches fits the rule of the grammar.
use Prim.Native.Nat.{ℕ, zero, suc, ◌+◌, ◌-◌, ◌*◌, ◌/◌, ◌≤◌, ◌<◌}
use mathlib.Core.Path.{◌≡◌, refl}
use mathlib.Core.List.{List}
use mathlib.Core.Bool.{Bool, true, false}
use native.Mathlib.Numerals.{add-one}
use native.Mathlib.Omega.{arith}
use lib.Dec.{ltb, eqb}
use borrow.Author.Tests.{ltb-true, ltb-false}
use Rattle.base.specs.Pick.{pick}
use Rattle.base.specs.Part.{byte_at}
use Rattle.scan.specs.Class.{run}
use Rattle.scan.specs.declared.Class.TheVariants.{Digit}
use Rattle.scan.proofs.Runs.{run_from}
use Rattle.numeral.specs.Numeral.{one_of, moved, signed, unsigned_integer, decimal_literal, binary_body, binary_literal, hex_pairs, hex_body, hex_literal, exact_numeric, exponent_part, real_body, real_literal}
use Rattle.numeral.specs.Abnf.{Rule, then, maybe, many, Fits, one, join, left, right, none, just, last, more, digit, either, exactly, sign, decimal_literal_rule, binary_literal_rule, hex_literal_rule, exact_numeric_rule, real_literal_rule}
use Rattle.numeral.proofs.Longest.{starts, step, digit_in}

module _ (q : List ℕ) where
  -- a rule's end is a choice between an end that fits and not moving
  fit_pick : (r : Rule) (t : Bool) (a x : ℕ) → (t ≡ true → a < x → Fits q r a x) → a < pick t x a → Fits q r a (pick t x a)
  fit_pick r true a x f h = f refl h
  fit_pick r false a x f h = absurd (omega arith)

  fit_moved : (r : Rule) (a s e : ℕ) → (s < e → Fits q r a e) → a < moved a s e → Fits q r a (moved a s e)
  fit_moved r a s e f h = fit_pick r (ltb s e) a e (λ t l. f (ltb-true s e t)) h

  digits_by : (base : ℕ) → base ≤ 16 → (n a : ℕ) → run (Digit base) q a ≡ a + suc n → Fits q (many (digit base)) a (run (Digit base) q a)
  digits_by base b zero a h =
      let s = starts q base b a (omega arith) in
      let z : run (Digit base) q a ≡ suc a = omega arith in
      rw z (last (one s))
  digits_by base b (suc n) a h =
      let s = starts q base b a (omega arith) in
      let z = step q base b a s in
      rw z (more (one s) (digits_by base b n (suc a) (omega arith)))

  pub digits_fit : (base : ℕ) → base ≤ 16 → (a : ℕ) → a < run (Digit base) q a → Fits q (many (digit base)) a (run (Digit base) q a)
  digits_fit base b a h = digits_by base b (run (Digit base) q a - suc a) a (omega arith)

  signed_fit : (body : Rule) (end : ℕ → ℕ) → ((a : ℕ) → a < end a → Fits q body a (end a)) → (a : ℕ)
      → a < moved a (signed q a) (end (signed q a)) → Fits q (then (maybe sign) body) a (moved a (signed q a) (end (signed q a)))
  unfolding signed
  signed_fit body end f a h = fit_moved (then (maybe sign) body) a (signed q a) (end (signed q a)) (go (one_of 43 45 (byte_at q a)) refl) h
    where
      go : (t : Bool) → one_of 43 45 (byte_at q a) ≡ t → pick t (a + 1) a < end (pick t (a + 1) a) → Fits q (then (maybe sign) body) a (end (pick t (a + 1) a))
      go true e l = rw (add-one a) (join (just (one e)) (f (suc a) (rw (add-one a) at l)))
      go false e l = join none (f a l)

  pub decimal_fit : (a : ℕ) → a < decimal_literal q a → Fits q decimal_literal_rule a (decimal_literal q a)
  unfolding decimal_literal unsigned_integer
  decimal_fit a h = signed_fit (many (digit 10)) (λ (a : ℕ). run (Digit 10) q a) (λ a l. digits_fit 10 (omega arith) a l) a h

  abbrev binary : Rule
  binary = then (many (digit 2)) (either 66 98)

  binary_body_fit : (a : ℕ) → a < binary_body q a → Fits q binary a (binary_body q a)
  unfolding binary_body
  binary_body_fit a h =
      fit_pick binary (ltb a (run (Digit 2) q a)) a (pick (one_of 66 98 (byte_at q (run (Digit 2) q a))) (run (Digit 2) q a + 1) a)
      (λ t k. fit_pick binary (one_of 66 98 (byte_at q (run (Digit 2) q a))) a (run (Digit 2) q a + 1)
      (λ x l. rw (add-one (run (Digit 2) q a)) (join (digits_fit 2 (omega arith) a (ltb-true a (run (Digit 2) q a) t)) (one x))) k) h

  pub binary_fit : (a : ℕ) → a < binary_literal q a → Fits q binary_literal_rule a (binary_literal q a)
  unfolding binary_literal
  binary_fit a h = signed_fit binary (λ (a : ℕ). binary_body q a) (λ a l. binary_body_fit a l) a h

  abbrev pairs : Rule
  pairs = many (then (digit 16) (digit 16))

  pairs_by : (n a b : ℕ) → a ≤ b → b + suc n * 2 ≤ run (Digit 16) q a → Fits q pairs b (b + suc n * 2)
  pairs_by zero a b l h =
      let x = digit_in q 16 (omega arith) a b l (omega arith) in
      let y = digit_in q 16 (omega arith) a (suc b) (omega arith) (omega arith) in
      let z : b + suc zero * 2 ≡ suc (suc b) = omega arith in
      rw z (last (join (one x) (one y)))
  pairs_by (suc n) a b l h =
      let x = digit_in q 16 (omega arith) a b l (omega arith) in
      let y = digit_in q 16 (omega arith) a (suc b) (omega arith) (omega arith) in
      let z : b + suc (suc n) * 2 ≡ suc (suc b) + suc n * 2 = omega arith in
      rw z (more (join (one x) (one y)) (pairs_by n a (suc (suc b)) (omega arith) (omega arith)))

  pairs_fit : (a : ℕ) → a < hex_pairs q a → Fits q pairs a (hex_pairs q a)
  unfolding hex_pairs
  pairs_fit a h =
      let k = run (Digit 16) q a - a in
      let z : a + (run (Digit 16) q a - a) / 2 * 2 ≡ a + suc ((run (Digit 16) q a - a) / 2 - 1) * 2 = omega arith in
      rw z (pairs_by ((run (Digit 16) q a - a) / 2 - 1) a a (omega arith) (omega (arith, run_from (Digit 16) q a)))

  abbrev hex : Rule
  hex = then (exactly 48) (then (either 88 120) pairs)

  hex_body_fit : (a : ℕ) → a < hex_body q a → Fits q hex a (hex_body q a)
  unfolding hex_body
  hex_body_fit a h =
      fit_pick hex (eqb (byte_at q a) 48) a (pick (one_of 88 120 (byte_at q (a + 1))) (moved a (a + 2) (hex_pairs q (a + 2))) a)
      (λ t k. fit_pick hex (one_of 88 120 (byte_at q (a + 1))) a (moved a (a + 2) (hex_pairs q (a + 2)))
      (λ x l. fit_moved hex a (a + 2) (hex_pairs q (a + 2)) (λ m. whole t x m) l) k) h
    where
      whole : eqb (byte_at q a) 48 ≡ true → one_of 88 120 (byte_at q (a + 1)) ≡ true → a + 2 < hex_pairs q (a + 2) → Fits q hex a (hex_pairs q (a + 2))
      whole t x m =
          let z : a + 2 ≡ suc (suc a) = omega arith in
          rw z (join (one t) (join (one (rw (add-one a) at x)) (pairs_fit (suc (suc a)) (rw z at m))))

  pub hex_fit : (a : ℕ) → a < hex_literal q a → Fits q hex_literal_rule a (hex_literal q a)
  unfolding hex_literal
  hex_fit a h = signed_fit hex (λ (a : ℕ). hex_body q a) (λ a l. hex_body_fit a l) a h

  -- [unsigned-integer]
  maybe_fit : (a : ℕ) → Fits q (maybe (many (digit 10))) a (run (Digit 10) q a)
  maybe_fit a = go (ltb a (run (Digit 10) q a)) refl
    where
      go : (t : Bool) → ltb a (run (Digit 10) q a) ≡ t → Fits q (maybe (many (digit 10))) a (run (Digit 10) q a)
      go true e = just (digits_fit 10 (omega arith) a (ltb-true a (run (Digit 10) q a) e))
      go false e = let z : run (Digit 10) q a ≡ a = omega (arith, ltb-false a (run (Digit 10) q a) e, run_from (Digit 10) q a) in rw z none

  exact_fit : (a : ℕ) → a < exact_numeric q a → Fits q exact_numeric_rule a (exact_numeric q a)
  unfolding exact_numeric unsigned_integer
  exact_fit a h =
      fit_pick exact_numeric_rule (eqb (byte_at q (run (Digit 10) q a)) 46) a (pick (ltb a (run (Digit 10) q a)) (run (Digit 10) q (run (Digit 10) q a + 1)) (moved a (run (Digit 10) q a + 1) (run (Digit 10) q (run (Digit 10) q a + 1))))
      (λ t k. go (run (Digit 10) q a) (ltb a (run (Digit 10) q a)) refl refl t k) h
    where
      go : (p : ℕ) (m : Bool) → run (Digit 10) q a ≡ p → ltb a (run (Digit 10) q a) ≡ m → eqb (byte_at q p) 46 ≡ true
          → a < pick m (run (Digit 10) q (p + 1)) (moved a (p + 1) (run (Digit 10) q (p + 1)))
          → Fits q exact_numeric_rule a (pick m (run (Digit 10) q (p + 1)) (moved a (p + 1) (run (Digit 10) q (p + 1))))
      go p true z l t k =
          let d : Fits q (many (digit 10)) a p = rw z at (digits_fit 10 (omega arith) a (ltb-true a (run (Digit 10) q a) l)) in
          rw (add-one p) (left (join d (join (one t) (maybe_fit (suc p)))))
      go p false z l t k =
          let y : p ≡ a = omega (arith, ltb-false a (run (Digit 10) q a) l, run_from (Digit 10) q a) in
          fit_moved exact_numeric_rule a (p + 1) (run (Digit 10) q (p + 1))
          (λ m. rw (y, add-one a) (right (join (one (rw y at t)) (digits_fit 10 (omega arith) (suc a) (rw (y, add-one a) at m))))) k

  abbrev real : Rule
  real = then exact_numeric_rule (maybe (then (either 69 101) decimal_literal_rule))

  real_body_fit : (a : ℕ) → a < real_body q a → Fits q real a (real_body q a)
  unfolding real_body exponent_part
  real_body_fit a h =
      fit_pick real (ltb a (exact_numeric q a)) a (exponent_part q (exact_numeric q a))
      (λ t k. go (exact_numeric q a) (exact_fit a (ltb-true a (exact_numeric q a) t)) (one_of 69 101 (byte_at q (exact_numeric q a))) refl) h
    where
      inner : (x : ℕ) → Fits q exact_numeric_rule a x → one_of 69 101 (byte_at q x) ≡ true → (m : Bool) → ltb (x + 1) (decimal_literal q (x + 1)) ≡ m → Fits q real a (pick m (decimal_literal q (x + 1)) x)
      inner x f e true l = rw (add-one x) (join f (just (join (one e) (decimal_fit (suc x) (rw (add-one x) at (ltb-true (x + 1) (decimal_literal q (x + 1)) l))))))
      inner x f e false l = join f none

      go : (x : ℕ) → Fits q exact_numeric_rule a x → (s : Bool) → one_of 69 101 (byte_at q x) ≡ s → Fits q real a (pick s (moved x (x + 1) (decimal_literal q (x + 1))) x)
      go x f true e = inner x f e (ltb (x + 1) (decimal_literal q (x + 1))) refl
      go x f false e = join f none

  pub real_fit : (a : ℕ) → a < real_literal q a → Fits q real_literal_rule a (real_literal q a)
  unfolding real_literal
  real_fit a h = signed_fit real (λ (a : ℕ). real_body q a) (λ a l. real_body_fit a l) a h
