-- Exponents as directions and indices: e from its parts, and back.
use Rattle.std.proofs.Common.{◌≡◌, ℕ, zero, suc, ◌+◌, ◌-◌, ◌^◌, ◌<◌, ◌≤◌, Bool, true, false, ◌&&◌, leb, ℤ, pos, negsuc, ◌-ℤ◌, neg_ℤ, sym, refl, ap, arith, le-ltb, lt-ltb, le-leb, leb-false, leb-true}
use lib.IntN.{neg_ℤ-+ℤ}
use borrow.Author.Tests.{lt-leb}
use Rattle.base.specs.Pick.{pick}
use Rattle.real.specs.Real.{exponent_of, in_range}
use Rattle.real.specs.Scale.{scale_of}
use Rattle.real.specs.declared.scale.Scale.{Scale}
use Rattle.real.specs.declared.scale.Scale.TheVariants.{Up, Down}
use Rattle.std.specs.Prelude.{Option, Some, None}

pub below_sum : (a b : ℕ) → neg_ℤ (pos a) -ℤ pos b ≡ neg_ℤ (pos (a + b))
below_sum a b = sym (neg_ℤ-+ℤ (pos a) (pos b))

pub above_rest : (a b : ℕ) → b ≤ a → pos a -ℤ pos b ≡ pos (a - b)
above_rest a zero h = ap pos (omega arith)
above_rest a (suc b) h = rw (le-ltb a (suc b) h)

pub below_rest : (a b : ℕ) → a < b → pos a -ℤ pos b ≡ neg_ℤ (pos (b - a))
below_rest a (suc b) h = rw (lt-ltb a (suc b) h, sym (one_less h))
  where
    one_less : a < suc b → suc (suc b - suc a) ≡ suc b - a
    one_less l = omega arith
below_rest a zero h = absurd (no h)
  where
    no : a < 0 → ⊥
    no l = omega arith

-- the scales of exponents out of range and in range
pub up_beyond : (k : ℕ) → 22 < k → None ≡ scale_of (pos k)
unfolding scale_of
up_beyond k h = rw (lt-leb k 22 h)

pub up_within : (k : ℕ) → k ≤ 22 → Some (Up k) ≡ scale_of (pos k)
unfolding scale_of
up_within k h = rw (le-leb k 22 h)

pub down_none : (k : ℕ) → k ≡ 0 → Some (Up 0) ≡ scale_of (neg_ℤ (pos k))
unfolding scale_of
down_none k h = rw h

pub down_beyond : (k : ℕ) → 22 < k → None ≡ scale_of (neg_ℤ (pos k))
unfolding scale_of
down_beyond zero h = absurd (no h)
  where
    no : 22 < 0 → ⊥
    no l = omega arith
down_beyond (suc k) h = rw (lt-leb (suc k) 22 h)

pub down_within : (k : ℕ) → (k ≡ 0 → ⊥) → k ≤ 22 → Some (Down k) ≡ scale_of (neg_ℤ (pos k))
unfolding scale_of
down_within zero n h = absurd (n refl)
down_within (suc k) n h = rw (le-leb (suc k) 22 h)

-- the scale of an exponent as written, less the digits after the point
module _ (negative : Bool) (size after : ℕ) where
  module _ (below : negative ≡ true) where
    pub size_beyond : 22 < size → None ≡ scale_of (exponent_of negative size after)
    size_beyond h = rw (below, below_sum) (down_beyond (size + after) (omega arith))

    pub after_beyond : 22 < after → None ≡ scale_of (exponent_of negative size after)
    after_beyond h = rw (below, below_sum) (down_beyond (size + after) (omega arith))

    pub both_below : {r : Option Scale} → r ≡ scale_of (neg_ℤ (pos (size + after))) → r ≡ scale_of (exponent_of negative size after)
    both_below e = rw (below, below_sum) e

  module _ (above : negative ≡ false) where
    pub more_after : {r : Option Scale} → size < after → r ≡ scale_of (neg_ℤ (pos (after - size))) → r ≡ scale_of (exponent_of negative size after)
    more_after h e = rw (above, below_rest size after h) e

    pub more_size : {r : Option Scale} → after ≤ size → r ≡ scale_of (pos (size - after)) → r ≡ scale_of (exponent_of negative size after)
    more_size h e = rw (above, above_rest size after h) e

-- what a scale tells of its exponent
pub record IsUp (e : ℤ) (k : ℕ) : Type 0 where
  pub is : e ≡ pos k
  pub most : k ≤ 22

pub record IsDown (e : ℤ) (k : ℕ) : Type 0 where
  pub is : e ≡ neg_ℤ (pos k)
  pub some : 0 < k
  pub most : k ≤ 22

pub up_is : (e : ℤ) (k : ℕ) → scale_of e ≡ Some (Up k) → IsUp e k
unfolding scale_of
up_is (pos n) k h = go (leb n 22) refl h
  where
    go : (b : Bool) → leb n 22 ≡ b → pick b (Some (Up n)) None ≡ Some (Up k) → IsUp (pos n) k
    go true e s = let z : n ≡ k = cc in record { is = ap pos z; most = rw (← z) (leb-true n 22 e) }
    go false e s = let z : ◌≡◌ {A = ℕ} 0 1 = cc in absurd (no z)
      where
        no : ◌≡◌ {A = ℕ} 0 1 → ⊥
        no l = omega arith
up_is (negsuc n) k h = go (leb (suc n) 22) h
  where
    no : ◌≡◌ {A = ℕ} 0 1 → ⊥
    no l = omega arith

    go : (b : Bool) → pick b (Some (Down (suc n))) None ≡ Some (Up k) → IsUp (negsuc n) k
    go true s = let z : ◌≡◌ {A = ℕ} 0 1 = cc in absurd (no z)
    go false s = let z : ◌≡◌ {A = ℕ} 0 1 = cc in absurd (no z)

pub down_is : (e : ℤ) (k : ℕ) → scale_of e ≡ Some (Down k) → IsDown e k
unfolding scale_of
down_is (negsuc n) k h = go (leb (suc n) 22) refl h
  where
    no : ◌≡◌ {A = ℕ} 0 1 → ⊥
    no l = omega arith

    go : (b : Bool) → leb (suc n) 22 ≡ b → pick b (Some (Down (suc n))) None ≡ Some (Down k) → IsDown (negsuc n) k
    go true e s = let z : suc n ≡ k = cc in record { is = ap (λ (m : ℕ). neg_ℤ (pos m)) z; some = rw (← z) (omega arith); most = rw (← z) (leb-true (suc n) 22 e) }
    go false e s = let z : ◌≡◌ {A = ℕ} 0 1 = cc in absurd (no z)
down_is (pos n) k h = go (leb n 22) h
  where
    no : ◌≡◌ {A = ℕ} 0 1 → ⊥
    no l = omega arith

    go : (b : Bool) → pick b (Some (Up n)) None ≡ Some (Down k) → IsDown (pos n) k
    go true s = let z : ◌≡◌ {A = ℕ} 0 1 = cc in absurd (no z)
    go false s = let z : ◌≡◌ {A = ℕ} 0 1 = cc in absurd (no z)

pub beyond_is : (d : ℕ) (e : ℤ) → d < 10 ^ 15 → scale_of e ≡ None → in_range d e ≡ false
unfolding scale_of
beyond_is d (pos n) l h = rw (lt-ltb d (10 ^ 15) l) (go (leb n 22) refl h)
  where
    go : (b : Bool) → leb n 22 ≡ b → pick b (Some (Up n)) None ≡ None → leb n 22 ≡ false
    go true e s = cc
    go false e s = e
beyond_is d (negsuc n) l h = rw (lt-ltb d (10 ^ 15) l) (go (leb (suc n) 22) refl h)
  where
    go : (b : Bool) → leb (suc n) 22 ≡ b → pick b (Some (Down (suc n))) None ≡ None → (leb n 21 && true) ≡ false
    go true e s = cc
    go false e s = rw (lt-leb n 21 (omega (arith, leb-false (suc n) 22 e)))
