-- Number rules read alike in texts that are alike: what stands behind the byte that ends them does not matter, nor what stands before them.
use Prim.Native.Nat.{ℕ, suc, ◌+◌, ◌-◌, ◌≤◌, ◌<◌}
use mathlib.Core.Path.{◌≡◌, refl, sym, ap, ◌∙◌}
use mathlib.Core.List.{List}
use mathlib.Core.Bool.{Bool, true, false, ◌||◌, true≢false}
use native.Mathlib.Omega.{arith}
use lib.Dec.{ltb, eqb}
use borrow.Author.Tests.{ltb-true, ltb-false, le-ltb, eqb-true}
use Rattle.base.specs.Pick.{pick}
use Rattle.base.specs.Range.{within}
use Rattle.base.specs.Part.{byte_at}
use Rattle.base.specs.Digit.{digit_of}
use Rattle.scan.specs.Class.{run, in_class}
use Rattle.scan.specs.declared.Class.TheVariants.{Digit}
use Rattle.scan.proofs.Alike.{Alike, turn, stop, at_stops, NoStop, test_alike, before_stop}
use Rattle.numeral.specs.Numeral.{one_of, moved, signed, unsigned_integer, decimal_literal, binary_literal, hex_pairs, hex_body, hex_literal, exact_numeric, real_body, real_literal}
use Rattle.numeral.specs.Abnf.{Rule, set, then, or, maybe, many, Fits, one, join, left, right, none, just, last, more, digit, either, exactly, decimal_literal_rule, binary_literal_rule, hex_literal_rule, real_literal_rule}
use Rattle.numeral.proofs.Bounds.{decimal_ends, binary_ends, hex_ends, real_ends}
use Rattle.numeral.proofs.Fit.{decimal_fit, binary_fit, hex_fit, real_fit}
use Rattle.numeral.proofs.Longest.{decimal_longest, binary_longest, hex_longest, real_longest}

-- a rule none of whose bytes is one of a set
pub data Avoids (out : ℕ → Bool) : Rule → Type 0 where
  a_set : {p : ℕ → Bool} → ((b : ℕ) → out b ≡ true → p b ≡ false) → Avoids out (set p)
  a_then : {r s : Rule} → Avoids out r → Avoids out s → Avoids out (then r s)
  a_or : {r s : Rule} → Avoids out r → Avoids out s → Avoids out (or r s)
  a_maybe : {r : Rule} → Avoids out r → Avoids out (maybe r)
  a_many : {r : Rule} → Avoids out r → Avoids out (many r)

-- before a place or not
halves : {A : Type 0} (i m : ℕ) → (i < m → A) → (m ≤ i → A) → A
halves {A} i m f g = go (ltb i m) refl
  where
    go : (t : Bool) → ltb i m ≡ t → A
    go true u = f (ltb-true i m u)
    go false u = g (ltb-false i m u)

-- no byte of a match is one of the set
pub avoids : {q : List ℕ} {out : ℕ → Bool} {r : Rule} {a e : ℕ} → Fits q r a e → Avoids out r → (i : ℕ) → a ≤ i → i < e → out (byte_at q i) ≡ true → ⊥
avoids {q} {out} {r} {a} (one {p = p} h) (a_set f) i l k o =
    let z : i ≡ a = omega arith in
    true≢false (sym h ∙ f (byte_at q a) (rw z at o))
avoids (join {m = m} f g) (a_then x y) i l k o = halves i m (λ u. avoids f x i l u o) (λ u. avoids g y i u k o)
avoids (left f) (a_or x y) i l k o = avoids f x i l k o
avoids (right f) (a_or x y) i l k o = avoids f y i l k o
avoids none (a_maybe x) i l k o = omega arith
avoids (just f) (a_maybe x) i l k o = avoids f x i l k o
avoids (last f) (a_many x) i l k o = avoids f x i l k o
avoids (more {m = m} f g) (a_many x) i l k o = halves i m (λ u. avoids f x i l u o) (λ u. avoids g (a_many x) i u k o)

-- a match ends no earlier than it starts
fits_on : {q : List ℕ} {r : Rule} {a e : ℕ} → Fits q r a e → a ≤ e
fits_on (one h) = omega arith
fits_on (join f g) = omega (arith, fits_on f, fits_on g)
fits_on (left f) = fits_on f
fits_on (right f) = fits_on f
fits_on none = omega arith
fits_on (just f) = fits_on f
fits_on (last f) = fits_on f
fits_on (more f g) = omega (arith, fits_on f, fits_on g)

module _ {q r : List ℕ} {a b k l : ℕ} (A : Alike q r a b k l) where
  -- a match before the stop is one in the other text
  fits_alike : {rule : Rule} {i e : ℕ} → Fits q rule i e → a ≤ i → e ≤ k → (j d : ℕ) → i + b ≡ j + a → e + b ≡ d + a → Fits r rule j d
  fits_alike {rule} {i} (one {p = p} h) s w j d x y =
      let z : d ≡ suc j = omega arith in
      rw z (one {p = p} {a = j} (rw (← A.same i j s (omega arith) x) h))
  fits_alike (join {m = m} f g) s w j d x y =
      let n = fits_on f in
      let o = fits_on g in
      join (fits_alike f s (omega arith) j (m + b - a) x (omega arith)) (fits_alike g (omega arith) w (m + b - a) d (omega arith) y)
  fits_alike (left f) s w j d x y = left (fits_alike f s w j d x y)
  fits_alike (right f) s w j d x y = right (fits_alike f s w j d x y)
  fits_alike none s w j d x y = let z : d ≡ j = omega arith in rw z none
  fits_alike (just f) s w j d x y = just (fits_alike f s w j d x y)
  fits_alike (last f) s w j d x y = last (fits_alike f s w j d x y)
  fits_alike (more {m = m} f g) s w j d x y =
      let n = fits_on f in
      let o = fits_on g in
      more (fits_alike f s (omega arith) j (m + b - a) x (omega arith)) (fits_alike g (omega arith) w (m + b - a) d (omega arith) y)

-- bytes that stand in no number: those that stop it, and the quote
unfoldable pub outside : ℕ → Bool
outside b = eqb b 39 || stop b

stop_outside : (b : ℕ) → stop b ≡ true → outside b ≡ true
unfolding outside
stop_outside b h = rw h (go (eqb b 39))
  where
    go : (t : Bool) → (t || true) ≡ true
    go true = refl
    go false = refl

at_outside : (P : ℕ → Type 0) → P 39 → P 0 → P 41 → P 9 → P 13 → P 10 → P 32 → (b : ℕ) → outside b ≡ true → P b
unfolding outside
at_outside P x o c t r f s b h = go (eqb b 39) refl h
  where
    go : (u : Bool) → eqb b 39 ≡ u → (u || stop b) ≡ true → P b
    go true e h = rw (eqb-true b 39 e) x
    go false e h = at_stops P o c t r f s b h

-- a rule by its longest match
pub record Reader (rule : Rule) (end : List ℕ → ℕ → ℕ) : Type 0 where
  pub from : (q : List ℕ) (a : ℕ) → a ≤ end q a
  pub fit : (q : List ℕ) (a : ℕ) → a < end q a → Fits q rule a (end q a)
  pub longest : (q : List ℕ) (a e : ℕ) → Fits q rule a e → (a < e) × (e ≤ end q a)
  pub stops : Avoids outside rule

module _ {rule : Rule} {end : List ℕ → ℕ → ℕ} (R : Reader rule end) where
  half : {q r : List ℕ} {a b k l : ℕ} → Alike q r a b k l → (i j : ℕ) → a ≤ i → i ≤ k → i + b ≡ j + a → end q i + b ≤ end r j + a
  half {q} {r} {a} {b} {k} {l} A i j s w x = halves i (end q i) (λ u. moved u) (λ u. omega (arith, R.from r j))
    where
      before : i < end q i → end q i ≤ k
      before u = halves k (end q i) (λ v. absurd (avoids (R.fit q i u) R.stops k w v (stop_outside (byte_at q k) A.first_stop))) (λ v. v)

      moved : i < end q i → end q i + b ≤ end r j + a
      moved u =
          let f = fits_alike A (R.fit q i u) s (before u) j (end q i + b - a) x (omega arith) in
          omega (arith, (R.longest r j (end q i + b - a) f).1)

  pub end_alike : {q r : List ℕ} {a b k l : ℕ} → Alike q r a b k l → (i j : ℕ) → a ≤ i → i ≤ k → i + b ≡ j + a → end q i + b ≡ end r j + a
  end_alike A i j s w x =
      let p = half A i j s w x in
      let o = half (turn A) j i (omega (arith, A.starts, A.ends)) (omega (arith, A.ends)) (omega arith) in
      omega arith

  -- no number starts at a quote
  pub no_quote : {q : List ℕ} {a e : ℕ} → Fits q rule a e → byte_at q a ≡ 39 → ⊥
  unfolding outside
  no_quote {q} {a} {e} f z = let w = R.longest q a e f in avoids f R.stops a (omega arith) (omega arith) (rw z)

-- the bytes of the rules
set_stops : (p : ℕ → Bool) → p 0 ≡ false → p 41 ≡ false → p 9 ≡ false → p 13 ≡ false → p 10 ≡ false → p 32 ≡ false → p 39 ≡ false → Avoids outside (set p)
set_stops p o c t r f s x = a_set (at_outside (λ (b : ℕ). p b ≡ false) x o c t r f s)

digit_stops : (base : ℕ) → base ≤ 16 → Avoids outside (digit base)
unfolding in_class digit_of within
digit_stops base h = let z = le-ltb 16 base h in set_stops (λ (b : ℕ). in_class (Digit base) b) z z z z z z z

sign_stops : Avoids outside (maybe (either 43 45))
sign_stops = a_maybe (set_stops (λ (b : ℕ). one_of 43 45 b) refl refl refl refl refl refl refl)

decimal_stops : Avoids outside decimal_literal_rule
decimal_stops = a_then sign_stops (a_many (digit_stops 10 (omega arith)))

pub decimal_reader : Reader decimal_literal_rule decimal_literal
decimal_reader =
    record { from = λ q a. (decimal_ends q a).from; fit = decimal_fit; longest = λ q a e f. decimal_longest q f; stops = decimal_stops }

pub binary_reader : Reader binary_literal_rule binary_literal
binary_reader =
    record {
      from = λ q a. (binary_ends q a).from;
      fit = binary_fit;
      longest = λ q a e f. binary_longest q f;
      stops = a_then sign_stops (a_then (a_many (digit_stops 2 (omega arith))) (set_stops (λ (b : ℕ). one_of 66 98 b) refl refl refl refl refl refl refl));
    }

pub hex_reader : Reader hex_literal_rule hex_literal
hex_reader =
    record {
      from = λ q a. (hex_ends q a).from;
      fit = hex_fit;
      longest = λ q a e f. hex_longest q f;
      stops =
          a_then sign_stops
          (a_then (set_stops (λ (b : ℕ). eqb b 48) refl refl refl refl refl refl refl)
          (a_then (set_stops (λ (b : ℕ). one_of 88 120 b) refl refl refl refl refl refl refl) (a_many (a_then (digit_stops 16 (omega arith)) (digit_stops 16 (omega arith))))));
    }

pub real_reader : Reader real_literal_rule real_literal
real_reader =
    record {
      from = λ q a. (real_ends q a).from;
      fit = real_fit;
      longest = λ q a e f. real_longest q f;
      stops =
          a_then sign_stops
          (a_then (a_or (a_then digits (a_then point (a_maybe digits))) (a_then point digits))
          (a_maybe (a_then (set_stops (λ (b : ℕ). one_of 69 101 b) refl refl refl refl refl refl refl) decimal_stops)));
    }
  where
    digits : Avoids outside (many (digit 10))
    digits = a_many (digit_stops 10 (omega arith))

    point : Avoids outside (exactly 46)
    point = set_stops (λ (b : ℕ). eqb b 46) refl refl refl refl refl refl refl

-- each number rule's end, as far on in both texts
pub record Numbers (q r : List ℕ) (a b i j : ℕ) : Type 0 where
  pub decimal : decimal_literal q i + b ≡ decimal_literal r j + a
  pub binary : binary_literal q i + b ≡ binary_literal r j + a
  pub hex : hex_literal q i + b ≡ hex_literal r j + a
  pub real : real_literal q i + b ≡ real_literal r j + a

pub numbers_alike : {q r : List ℕ} {a b k l : ℕ} → Alike q r a b k l → (i j : ℕ) → a ≤ i → i ≤ k → i + b ≡ j + a → Numbers q r a b i j
numbers_alike A i j s w x =
    record {
      decimal = end_alike decimal_reader A i j s w x;
      binary = end_alike binary_reader A i j s w x;
      hex = end_alike hex_reader A i j s w x;
      real = end_alike real_reader A i j s w x;
    }

-- a rule that stays where its sign ends has not moved
never_moved : (at s : ℕ) → moved at s s ≡ at
never_moved at s = rw (le-ltb s s (omega arith)) refl

-- "0X" stands in a hex literal, behind its sign
hex_lead : (q : List ℕ) (at : ℕ) → at < hex_literal q at → (eqb (byte_at q (signed q at)) 48 ≡ true) × (one_of 88 120 (byte_at q (signed q at + 1)) ≡ true)
unfolding hex_literal hex_body
hex_lead q at h = go (eqb (byte_at q (signed q at)) 48) (one_of 88 120 (byte_at q (signed q at + 1))) h
  where
    go : (t u : Bool) → at < moved at (signed q at) (pick t (pick u (moved (signed q at) (signed q at + 2) (hex_pairs q (signed q at + 2))) (signed q at)) (signed q at)) → (t ≡ true) × (u ≡ true)
    go true true h = (refl, refl)
    go true false h = absurd (omega (arith, never_moved at (signed q at)))
    go false u h = absurd (omega (arith, never_moved at (signed q at)))

-- and a point in a real literal, behind its first digits
pub real_point : (q : List ℕ) (at : ℕ) → at < real_literal q at → eqb (byte_at q (run (Digit 10) q (signed q at))) 46 ≡ true
unfolding real_literal real_body exact_numeric unsigned_integer
real_point q at h = go (eqb (byte_at q (run (Digit 10) q (signed q at))) 46) refl
  where
    go : (t : Bool) → eqb (byte_at q (run (Digit 10) q (signed q at))) 46 ≡ t → t ≡ true
    go true e = refl
    go false e =
        let z : exact_numeric q (signed q at) ≡ signed q at = rw e refl in
        let y : real_body q (signed q at) ≡ signed q at = rw (z, le-ltb (signed q at) (signed q at) (omega arith)) refl in
        absurd (omega (arith, never_moved at (signed q at), ap (moved at (signed q at)) y))

-- no stop is a sign
sign_stop : NoStop (one_of 43 45)
sign_stop = at_stops (λ (x : ℕ). one_of 43 45 x ≡ false) refl refl refl refl refl refl

module _ {q r : List ℕ} {a b k l : ℕ} (A : Alike q r a b k l) where
  -- [sign]
  pub signed_alike : (i j : ℕ) → a ≤ i → i ≤ k → i + b ≡ j + a → signed q i + b ≡ signed r j + a
  unfolding signed
  signed_alike i j s w x = rw (test_alike A (one_of 43 45) sign_stop i j s w x) (go (one_of 43 45 (byte_at r j)))
    where
      go : (t : Bool) → pick t (i + 1) i + b ≡ pick t (j + 1) j + a
      go true = omega arith
      go false = omega arith

  pub signed_within : (i : ℕ) → i ≤ k → (i ≤ signed q i) × (signed q i ≤ k)
  unfolding signed
  signed_within i w = go (one_of 43 45 (byte_at q i)) refl
    where
      go : (t : Bool) → one_of 43 45 (byte_at q i) ≡ t → (i ≤ pick t (i + 1) i) × (pick t (i + 1) i ≤ k)
      go true e = let h = before_stop A (one_of 43 45) sign_stop i w e in (omega arith, omega arith)
      go false e = (omega arith, omega arith)

  -- "0X" of a hex literal stands before the stop
  pub hex_lead_within : (i : ℕ) → i ≤ k → i < hex_literal q i → signed q i + 2 ≤ k
  hex_lead_within i w h =
      let o = signed_within i w in
      let d = hex_lead q i h in
      let m = before_stop A (λ (x : ℕ). eqb x 48) (at_stops (λ (x : ℕ). eqb x 48 ≡ false) refl refl refl refl refl refl) (signed q i) o.1 d.0 in
      let n = before_stop A (one_of 88 120) (at_stops (λ (x : ℕ). one_of 88 120 x ≡ false) refl refl refl refl refl refl) (signed q i + 1) (omega arith) d.1 in
      omega arith
