-- Tests of the numbers below another. Assumes nothing.
use mathlib.Core.Path.{◌≡◌, refl, ap, ap₂, sym as inv, ◌∙◌}
use mathlib.Core.Bool.{Bool, true, false, ◌&&◌, ◌||◌, and-true, or-false, or-true}
use Prim.Native.Nat.{ℕ, zero, suc, ◌<◌}
use native.Mathlib.Omega.{arith}
use native.Mathlib.Decide.{ℕ_discrete}
use Rattle.base.proofs.Says.{and_false}
use Rattle.pattern.specs.Links.{any_below}

pub any_same : (n : ℕ) (f g : ℕ → Bool) → ((j : ℕ) → j < n → f j ≡ g j) → any_below n f ≡ any_below n g
unfolding any_below
any_same zero f g e = refl
any_same (suc n) f g e = ap₂ ◌||◌ (e n (omega arith)) (any_same n f g (λ j h. e j (omega arith)))

pub any_none : (n : ℕ) (f : ℕ → Bool) → ((j : ℕ) → f j ≡ false) → any_below n f ≡ false
unfolding any_below
any_none zero f e = refl
any_none (suc n) f e = rw (e n) (any_none n f e)

swap_or : (x y u v : Bool) → ((x || y) || (u || v)) ≡ ((x || u) || (y || v))
swap_or true y u v = refl
swap_or false true true v = refl
swap_or false true false v = refl
swap_or false false u v = refl

pub any_or : (n : ℕ) (f g : ℕ → Bool) → any_below n (λ j. f j || g j) ≡ (any_below n f || any_below n g)
unfolding any_below
any_or zero f g = refl
any_or (suc n) f g = ap (λ (b : Bool). (f n || g n) || b) (any_or n f g) ∙ swap_or (f n) (g n) (any_below n f) (any_below n g)

or_and : (x y b : Bool) → ((x && b) || (y && b)) ≡ ((x || y) && b)
or_and x y true = rw (and-true x, and-true y, and-true (x || y))
or_and x y false = rw (and_false x, and_false y, and_false (x || y))

pub any_and : (n : ℕ) (f : ℕ → Bool) (b : Bool) → any_below n (λ j. f j && b) ≡ (any_below n f && b)
unfolding any_below
any_and zero f b = refl
any_and (suc n) f b = ap (λ (x : Bool). (f n && b) || x) (any_and n f b) ∙ or_and (f n) (any_below n f) b

pub any_one : (n k : ℕ) (f : ℕ → Bool) → k < n → ((j : ℕ) → (j ≡ k → ⊥) → f j ≡ false) → any_below n f ≡ f k
unfolding any_below
any_one zero k f h e = absurd (omega arith)
any_one (suc n) k f h e = go (ℕ_discrete k n) (λ l. any_one n k f l e)
  where
    go : Dec (k ≡ n) → (k < n → any_below n f ≡ f k) → (f n || any_below n f) ≡ f k
    go (yes q) one =
        ap₂ ◌||◌ (ap f (inv q)) (any_same n f (λ j. false) (λ j l. e j (λ d. omega (arith, q, d))) ∙ any_none n (λ j. false) (λ j. refl))
        ∙ or-false (f k)
    go (no q) one = ap₂ ◌||◌ (e n (λ d. q (inv d))) (one (omega arith))

pub any_true : (n k : ℕ) (f : ℕ → Bool) → k < n → f k ≡ true → any_below n f ≡ true
unfolding any_below
any_true zero k f h e = absurd (omega arith)
any_true (suc n) k f h e = go (ℕ_discrete k n) (λ l. any_true n k f l e)
  where
    go : Dec (k ≡ n) → (k < n → any_below n f ≡ true) → (f n || any_below n f) ≡ true
    go (yes q) more = ap (λ (b : Bool). b || any_below n f) (ap f (inv q) ∙ e)
    go (no q) more = ap (λ (b : Bool). f n || b) (more (omega arith)) ∙ or-true (f n)

turn : (x y z : Bool) → (x || (y || z)) ≡ (y || (x || z))
turn true true z = refl
turn true false z = refl
turn false y z = refl

-- one number is tried apart from the others
pub any_but : (n k : ℕ) (f g : ℕ → Bool) → k < n → g k ≡ false → ((j : ℕ) → (j ≡ k → ⊥) → g j ≡ f j) → any_below n f ≡ (f k || any_below n g)
unfolding any_below
any_but zero k f g h z e = absurd (omega arith)
any_but (suc n) k f g h z e = go (ℕ_discrete k n) (λ l. any_but n k f g l z e)
  where
    go : Dec (k ≡ n) → (k < n → any_below n f ≡ (f k || any_below n g)) → (f n || any_below n f) ≡ (f k || (g n || any_below n g))
    go (yes q) but =
        ap₂ ◌||◌ (ap f (inv q)) (any_same n f g (λ j l. inv (e j (omega (arith, q)))))
        ∙ ap (λ (b : Bool). f k || (b || any_below n g)) (inv (ap g (inv q) ∙ z))
    go (no q) but =
        ap₂ ◌||◌ (inv (e n (λ r. q (inv r)))) (but (omega arith))
        ∙ turn (g n) (f k) (any_below n g)
