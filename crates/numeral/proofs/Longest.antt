-- Nothing longer fits: what fits a number rule of the grammar ends no later than the rule's end by its definition.
use Prim.Native.Nat.{ℕ, zero, suc, ◌+◌, ◌-◌, ◌*◌, ◌/◌, ◌≤◌, ◌<◌}
use mathlib.Core.Path.{◌≡◌, refl, sym, ap, ◌∙◌}
use mathlib.Core.List.{List}
use mathlib.Core.Logic.{◌⊎◌, inl, inr}
use mathlib.Core.Bool.{Bool, true, false, ◌||◌}
use native.Mathlib.Numerals.{add-one}
use native.Mathlib.Nat.{eq-or-lt_of_le}
use native.Mathlib.Omega.{arith}
use lib.ListN.{length}
use lib.Dec.{ltb, leb, eqb}
use borrow.Author.Tests.{lt-ltb, le-ltb, ltb-true, eqb-true, leb-true, leb-false}
use Rattle.base.specs.Pick.{pick}
use Rattle.base.specs.Range.{within}
use Rattle.base.specs.Part.{byte_at}
use Rattle.scan.specs.Class.{run, in_class}
use Rattle.base.specs.Digit.{digit_of}
use Rattle.scan.specs.declared.Class.TheVariants.{Digit}
use Rattle.base.proofs.Lists.{byte_within}
use Rattle.scan.proofs.Runs.{run_from}
use Rattle.scan.proofs.Runs.{run_more, run_stop, run_end}
use Rattle.numeral.specs.Numeral.{one_of, moved, signed, unsigned_integer, decimal_literal, binary_body, binary_literal, hex_pairs, hex_body, hex_literal, exact_numeric, exponent_part, real_body, real_literal}
use Rattle.numeral.specs.Abnf.{Rule, then, maybe, many, Fits, one, join, left, right, none, just, last, more, digit, either, exactly, sign, decimal_literal_rule, binary_literal_rule, hex_literal_rule, exact_numeric_rule, real_literal_rule}

clash : true ≡ false → ⊥
clash y = let k : ◌≡◌ {A = ℕ} 0 1 = cc in omega arith

-- 0 is no digit
no_zero : (base : ℕ) → base ≤ 16 → in_class (Digit base) 0 ≡ false
unfolding in_class digit_of within
no_zero base h = le-ltb 16 base h

module _ (q : List ℕ) (base : ℕ) (small : base ≤ 16) where
  inside : (a : ℕ) → in_class (Digit base) (byte_at q a) ≡ true → a < length q
  inside a h = byte_within q a (λ z. clash (sym h ∙ ap (in_class (Digit base)) z ∙ no_zero base small))

  pub step : (a : ℕ) → in_class (Digit base) (byte_at q a) ≡ true → run (Digit base) q a ≡ run (Digit base) q (suc a)
  step a h = run_more {r = true} (Digit base) q a (inside a h) (sym h) refl ∙ rw (add-one a) refl

  -- digits that follow one another end within the run
  pub digits_longest : {a e : ℕ} → Fits q (many (digit base)) a e → (a < e) × (e ≤ run (Digit base) q a)
  digits_longest {a} (last (one h)) = (omega arith, rw (step a h) (run_from (Digit base) q (suc a)))
  digits_longest {a} (more (one h) f) = let g = digits_longest f in (omega (arith, g.0), rw (step a h) g.1)

  -- a run that moves starts with a digit
  pub starts : (a : ℕ) → a < run (Digit base) q a → in_class (Digit base) (byte_at q a) ≡ true
  starts a h = go (in_class (Digit base) (byte_at q a)) refl
    where
      stay : run (Digit base) q a ≡ a → in_class (Digit base) (byte_at q a) ≡ true
      stay z = absurd (omega arith)

      past : (t : Bool) → leb (length q) a ≡ t → in_class (Digit base) (byte_at q a) ≡ false → in_class (Digit base) (byte_at q a) ≡ true
      past true l f = stay (run_end (Digit base) q a (leb-true (length q) a l))
      past false l f = stay (run_stop {r = false} (Digit base) q a (leb-false (length q) a l) (sym f) refl)

      go : (t : Bool) → in_class (Digit base) (byte_at q a) ≡ t → in_class (Digit base) (byte_at q a) ≡ true
      go true f = f
      go false f = past (leb (length q) a) refl f

  -- and holds digits only
  holds : (n a m : ℕ) → m ≡ a + n → m < run (Digit base) q a → in_class (Digit base) (byte_at q m) ≡ true
  holds zero a m e h = let z : m ≡ a = omega arith in rw z (starts a (rw z at h))
  holds (suc n) a m e h = holds n (suc a) m (omega arith) (rw (step a (starts a (omega arith))) at h)

  pub digit_in : (a m : ℕ) → a ≤ m → m < run (Digit base) q a → in_class (Digit base) (byte_at q m) ≡ true
  digit_in a m l h = holds (m - a) a m (omega arith) h

  first : {a e : ℕ} → Fits q (many (digit base)) a e → in_class (Digit base) (byte_at q a) ≡ true
  first (last (one h)) = h
  first (more (one h) f) = h

  -- a byteAt k that is no digit
  pub other : (b k : ℕ) → b ≡ k → base ≤ digit_of k → in_class (Digit base) b ≡ true → ⊥
  unfolding in_class
  other b k e l h = clash (sym h ∙ rw e (le-ltb (digit_of k) base l))

  -- digits that such a byteAt follows are the whole run
  whole : {a m : ℕ} (k : ℕ) → Fits q (many (digit base)) a m → byte_at q m ≡ k → base ≤ digit_of k → m ≡ run (Digit base) q a
  whole {a} {m} k f e l = go (eq-or-lt_of_le (digits_longest f).1)
    where
      go : (m ≡ run (Digit base) q a) ⊎ (m < run (Digit base) q a) → m ≡ run (Digit base) q a
      go (inl z) = z
      go (inr z) = absurd (other (byte_at q m) k e l (digit_in a m (omega (arith, (digits_longest f).0)) z))

  -- nothing there but such a byte
  empty : (a k : ℕ) → byte_at q a ≡ k → base ≤ digit_of k → run (Digit base) q a ≡ a
  empty a k e l = go (eq-or-lt_of_le (run_from (Digit base) q a))
    where
      go : (a ≡ run (Digit base) q a) ⊎ (a < run (Digit base) q a) → run (Digit base) q a ≡ a
      go (inl z) = sym z
      go (inr z) = absurd (other (byte_at q a) k e l (starts a z))

which : (a c b : ℕ) → one_of a c b ≡ true → (b ≡ a) ⊎ (b ≡ c)
which a c b h = go (eqb b a) (eqb b c) refl refl h
  where
    go : (s t : Bool) → eqb b a ≡ s → eqb b c ≡ t → (s || t) ≡ true → (b ≡ a) ⊎ (b ≡ c)
    go true t e f g = inl (eqb-true b a e)
    go false true e f g = inr (eqb-true b c f)
    go false false e f g = absurd (clash (sym g))

module _ (q : List ℕ) where
  -- [sign] before a body that starts with no sign
  signed_longest : {a e : ℕ} (body : Rule) (end : ℕ → ℕ) → ((a e : ℕ) → Fits q body a e → (a < e) × (e ≤ end a)) → ((a e : ℕ) → Fits q body a e → one_of 43 45 (byte_at q a) ≡ false)
      → Fits q (then (maybe sign) body) a e → (a < e) × (e ≤ moved a (signed q a) (end (signed q a)))
  unfolding signed
  signed_longest {a} {e} body end long unsigned (join none f) =
      let g = long a e f in (g.0, rw (unsigned a e f, lt-ltb a (end a) (omega (arith, g.0, g.1))) g.1)
  signed_longest {a} {e} body end long unsigned (join (just (one h)) f) =
      let g = long (suc a) e f in (omega (arith, g.0), rw (h, add-one a, lt-ltb (suc a) (end (suc a)) (omega (arith, g.0, g.1))) g.1)

  no_sign : (b : ℕ) → (b ≡ 43 → ⊥) → (b ≡ 45 → ⊥) → one_of 43 45 b ≡ false
  no_sign b x y = go (one_of 43 45 b) refl
    where
      two : (b ≡ 43) ⊎ (b ≡ 45) → one_of 43 45 b ≡ false
      two (inl z) = absurd (x z)
      two (inr z) = absurd (y z)

      go : (t : Bool) → one_of 43 45 b ≡ t → one_of 43 45 b ≡ false
      go true e = two (which 43 45 b e)
      go false e = e

  digit_no_sign : (base : ℕ) → base ≤ 16 → {a e : ℕ} → Fits q (many (digit base)) a e → one_of 43 45 (byte_at q a) ≡ false
  unfolding digit_of within
  digit_no_sign base h {a} f = no_sign (byte_at q a) (λ z. other q base h (byte_at q a) 43 z h (first q base h f)) (λ z. other q base h (byte_at q a) 45 z h (first q base h f))

  pub decimal_longest : {a e : ℕ} → Fits q decimal_literal_rule a e → (a < e) × (e ≤ decimal_literal q a)
  unfolding decimal_literal unsigned_integer
  decimal_longest f = signed_longest (many (digit 10)) (λ (a : ℕ). run (Digit 10) q a) (λ a e g. digits_longest q 10 (omega arith) g) (λ a e g. digit_no_sign 10 (omega arith) g) f

  binary_body_law : {a e : ℕ} → Fits q (then (many (digit 2)) (either 66 98)) a e → (a < e) × (e ≤ binary_body q a)
  unfolding binary_body digit_of within
  binary_body_law {a} (join {m = m} f (one h)) =
      let g = digits_longest q 2 (omega arith) f in
      let z : m ≡ run (Digit 2) q a = go (which 66 98 (byte_at q m) h) in
      (omega (arith, g.0), rw (lt-ltb a (run (Digit 2) q a) (omega (arith, g.0, g.1)), rw z at h) (omega arith))
    where
      go : (byte_at q m ≡ 66) ⊎ (byte_at q m ≡ 98) → m ≡ run (Digit 2) q a
      go (inl x) = whole q 2 (omega arith) 66 f x (omega arith)
      go (inr x) = whole q 2 (omega arith) 98 f x (omega arith)

  binary_no_sign : {a e : ℕ} → Fits q (then (many (digit 2)) (either 66 98)) a e → one_of 43 45 (byte_at q a) ≡ false
  binary_no_sign (join f g) = digit_no_sign 2 (omega arith) f

  pub binary_longest : {a e : ℕ} → Fits q binary_literal_rule a e → (a < e) × (e ≤ binary_literal q a)
  unfolding binary_literal
  binary_longest f = signed_longest (then (many (digit 2)) (either 66 98)) (λ (a : ℕ). binary_body q a) (λ a e g. binary_body_law g) (λ a e g. binary_no_sign g) f

  -- pairs of hex digits
  abbrev pairs : Rule
  pairs = many (then (digit 16) (digit 16))

  record Pairs (a e : ℕ) : Type 0 where
    pub count : ℕ
    pub even : e ≡ a + count * 2
    pub some : 0 < count
    pub in_run : e ≤ run (Digit 16) q a

  two_steps : (a : ℕ) → in_class (Digit 16) (byte_at q a) ≡ true → in_class (Digit 16) (byte_at q (suc a)) ≡ true → run (Digit 16) q a ≡ run (Digit 16) q (suc (suc a))
  two_steps a h k = step q 16 (omega arith) a h ∙ step q 16 (omega arith) (suc a) k

  pairs_longest : {a e : ℕ} → Fits q pairs a e → Pairs a e
  pairs_longest {a} (last (join (one h) (one k))) =
      record { count = 1; even = omega arith; some = omega arith; in_run = rw (two_steps a h k) (run_from (Digit 16) q (suc (suc a))) }
  pairs_longest {a} (more (join (one h) (one k)) f) =
      let g = pairs_longest f in
      record { count = suc g.count; even = omega (arith, g.even); some = omega arith; in_run = rw (two_steps a h k) g.in_run }

  hex_body_law : {a e : ℕ} → Fits q (then (exactly 48) (then (either 88 120) pairs)) a e → (a < e) × (e ≤ hex_body q a)
  unfolding hex_body hex_pairs
  hex_body_law {a} {e} (join (one h) (join (one x) f)) =
      let g = pairs_longest f in
      let p : a + 2 ≡ suc (suc a) = omega arith in
      let l : e ≤ suc (suc a) + (run (Digit 16) q (suc (suc a)) - suc (suc a)) / 2 * 2 = omega (arith, g.even, g.in_run) in
      (omega (arith, g.even), rw (h, add-one a, x, p, lt-ltb (suc (suc a)) (suc (suc a) + (run (Digit 16) q (suc (suc a)) - suc (suc a)) / 2 * 2) (omega (arith, g.even, g.some))) l)

  hex_no_sign : {a e : ℕ} → Fits q (then (exactly 48) (then (either 88 120) pairs)) a e → one_of 43 45 (byte_at q a) ≡ false
  hex_no_sign {a} (join (one h) f) = rw (eqb-true (byte_at q a) 48 h) refl

  pub hex_longest : {a e : ℕ} → Fits q hex_literal_rule a e → (a < e) × (e ≤ hex_literal q a)
  unfolding hex_literal
  hex_longest f = signed_longest (then (exactly 48) (then (either 88 120) pairs)) (λ (a : ℕ). hex_body q a) (λ a e g. hex_body_law g) (λ a e g. hex_no_sign g) f

  -- exact-numeric: a shorter match is followed by a digit
  record Exact (a m : ℕ) : Type 0 where
    pub moves : a < m
    pub ends : m ≤ exact_numeric q a
    pub shorter : m < exact_numeric q a → in_class (Digit 10) (byte_at q m) ≡ true

  exact_left : (a m p : ℕ) → p ≡ run (Digit 10) q a → a < p → eqb (byte_at q p) 46 ≡ true → p < m → m ≤ run (Digit 10) q (suc p) → Exact a m
  unfolding exact_numeric unsigned_integer
  exact_left a m p z l h k w =
      let v : exact_numeric q a ≡ run (Digit 10) q (suc p) = rw (← z, h, lt-ltb a p l, add-one p) refl in
      record { moves = omega arith; ends = rw v w; shorter = λ s. digit_in q 10 (omega arith) (suc p) m k (rw v at s) }

  exact_right : (a m : ℕ) → eqb (byte_at q a) 46 ≡ true → suc a < m → m ≤ run (Digit 10) q (suc a) → Exact a m
  unfolding exact_numeric unsigned_integer digit_of within
  exact_right a m h k w =
      let z : run (Digit 10) q a ≡ a = empty q 10 (omega arith) a 46 (eqb-true (byte_at q a) 46 h) (omega arith) in
      let v : exact_numeric q a ≡ run (Digit 10) q (suc a) = rw (z, h, le-ltb a a (omega arith), add-one a, lt-ltb (suc a) (run (Digit 10) q (suc a)) (omega arith)) refl in
      record { moves = omega arith; ends = rw v w; shorter = λ s. digit_in q 10 (omega arith) (suc a) m (omega arith) (rw v at s) }

  exact_longest : {a m : ℕ} → Fits q exact_numeric_rule a m → Exact a m
  unfolding digit_of within
  exact_longest {a} {m} (left (join {m = p} f (join (one h) none))) =
      exact_left a m p (whole q 10 (omega arith) 46 f (eqb-true (byte_at q p) 46 h) (omega arith)) (digits_longest q 10 (omega arith) f).0 h (omega arith) (run_from (Digit 10) q (suc p))
  exact_longest {a} {m} (left (join {m = p} f (join (one h) (just g)))) =
      let k = digits_longest q 10 (omega arith) g in
      exact_left a m p (whole q 10 (omega arith) 46 f (eqb-true (byte_at q p) 46 h) (omega arith)) (digits_longest q 10 (omega arith) f).0 h (omega (arith, k.0)) k.1
  exact_longest {a} {m} (right (join (one h) f)) =
      let k = digits_longest q 10 (omega arith) f in exact_right a m h k.0 k.1

  moved_from : (a s e : ℕ) → a ≤ s → a ≤ moved a s e
  moved_from a s e l = go (ltb s e) refl
    where
      go : (t : Bool) → ltb s e ≡ t → a ≤ pick t e a
      go true h = omega (arith, ltb-true s e h)
      go false h = omega arith

  exponent_from : (a : ℕ) → a ≤ exponent_part q a
  unfolding exponent_part
  exponent_from a = go (one_of 69 101 (byte_at q a))
    where
      go : (t : Bool) → a ≤ pick t (moved a (a + 1) (decimal_literal q (a + 1))) a
      go true = moved_from a (a + 1) (decimal_literal q (a + 1)) (omega arith)
      go false = omega arith

  no_digit_E : (m : ℕ) → (byte_at q m ≡ 69) ⊎ (byte_at q m ≡ 101) → in_class (Digit 10) (byte_at q m) ≡ true → ⊥
  unfolding digit_of within
  no_digit_E m (inl x) h = other q 10 (omega arith) (byte_at q m) 69 x (omega arith) h
  no_digit_E m (inr x) h = other q 10 (omega arith) (byte_at q m) 101 x (omega arith) h

  after_E : (m e : ℕ) → one_of 69 101 (byte_at q m) ≡ true → suc m < e → e ≤ decimal_literal q (suc m) → e ≤ exponent_part q m
  unfolding exponent_part
  after_E m e h k l = rw (h, add-one m, lt-ltb (suc m) (decimal_literal q (suc m)) (omega arith)) l

  real_no_sign : {a e : ℕ} → Fits q (then exact_numeric_rule (maybe (then (either 69 101) decimal_literal_rule))) a e → one_of 43 45 (byte_at q a) ≡ false
  real_no_sign (join (left (join f g)) h) = digit_no_sign 10 (omega arith) f
  real_no_sign {a} (join (right (join (one x) g)) h) = rw (eqb-true (byte_at q a) 46 x) refl

  real_body_law : {a e : ℕ} → Fits q (then exact_numeric_rule (maybe (then (either 69 101) decimal_literal_rule))) a e → (a < e) × (e ≤ real_body q a)
  unfolding real_body
  real_body_law {a} {e} (join f none) =
      let g = exact_longest f in
      (g.moves, rw (lt-ltb a (exact_numeric q a) (omega (arith, g.moves, g.ends))) (omega (arith, g.ends, exponent_from (exact_numeric q a))))
  real_body_law {a} {e} (join {m = m} f (just (join (one h) d))) =
      let g = exact_longest f in
      let k = decimal_longest d in
      let z : m ≡ exact_numeric q a = ends_here a m g h in
      (omega (arith, g.moves, k.0), rw (lt-ltb a (exact_numeric q a) (omega (arith, g.moves, g.ends)), ← z) (last_part m e h k.0 k.1))
    where
      ends_here : (a m : ℕ) → Exact a m → one_of 69 101 (byte_at q m) ≡ true → m ≡ exact_numeric q a
      ends_here a m g h = two (eq-or-lt_of_le g.ends) (which 69 101 (byte_at q m) h)
        where
          two : (m ≡ exact_numeric q a) ⊎ (m < exact_numeric q a) → (byte_at q m ≡ 69) ⊎ (byte_at q m ≡ 101) → m ≡ exact_numeric q a
          two (inl y) w = y
          two (inr y) (inl x) = absurd (no_digit_E m (inl x) (g.shorter y))
          two (inr y) (inr x) = absurd (no_digit_E m (inr x) (g.shorter y))

      last_part : (m e : ℕ) → one_of 69 101 (byte_at q m) ≡ true → suc m < e → e ≤ decimal_literal q (suc m) → e ≤ exponent_part q m
      last_part m e h k l = after_E m e h k l

  pub real_longest : {a e : ℕ} → Fits q real_literal_rule a e → (a < e) × (e ≤ real_literal q a)
  unfolding real_literal
  real_longest f = signed_longest (then exact_numeric_rule (maybe (then (either 69 101) decimal_literal_rule))) (λ (a : ℕ). real_body q a) (λ a e g. real_body_law g) (λ a e g. real_no_sign g) f
