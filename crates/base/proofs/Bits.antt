-- Laws of numbers as sets: the empty set, a set of one, the union, the intersection, the difference; sets with the same members are the same.
use mathlib.Core.Path.{◌≡◌, refl, ap, ap₂, subst, sym as inv, ◌∙◌}
use mathlib.Core.Bool.{Bool, true, false, not, ◌&&◌, ◌||◌}
use Prim.Native.Nat.{ℕ, zero, suc, ◌<◌, ◌+◌, ◌*◌, ◌-◌, ◌/◌, ◌%◌, ◌^◌}
use native.Mathlib.Omega.{arith}
use native.Mathlib.Decide.{dec_lt}
use native.Mathlib.Nat.{one-mul, mod-lt, div-eq_of_lt, div-add-mod', div-one}
use lib.Arith.{bin_ind}
use lib.Pow.{pow-add, pow-lt, pow_pos, shl-shr, shr-shr}
use lib.Bits.{bit_or, bit_and, bit_xor, or_shr, or_mod, and_shr, and_mod, xor_shr, xor_mod, shifted_even}
use lib.Dec.{eqb}
use Rattle.base.specs.Bits.{bit}

or_digit : (u v : ℕ) → u < 2 → v < 2 → eqb (bit_or u v) 1 ≡ (eqb u 1 || eqb v 1)
or_digit zero zero hu hv = refl
or_digit zero (suc zero) hu hv = refl
or_digit zero (suc (suc v)) hu hv = absurd (omega arith)
or_digit (suc zero) zero hu hv = refl
or_digit (suc zero) (suc zero) hu hv = refl
or_digit (suc zero) (suc (suc v)) hu hv = absurd (omega arith)
or_digit (suc (suc u)) v hu hv = absurd (omega arith)

-- the union
pub bit_or_law : (a b i : ℕ) → bit (bit_or a b) i ≡ (bit a i || bit b i)
bit_or_law a b i =
    ap (λ (x : ℕ). eqb (x % 2) 1) (or_shr a b i)
    ∙ ap (λ (x : ℕ). eqb x 1) (or_mod (a / 2 ^ i) (b / 2 ^ i) 1)
    ∙ or_digit (a / 2 ^ i % 2) (b / 2 ^ i % 2) (mod-lt (a / 2 ^ i) (omega arith)) (mod-lt (b / 2 ^ i) (omega arith))

and_digit : (u v : ℕ) → u < 2 → v < 2 → eqb (bit_and u v) 1 ≡ (eqb u 1 && eqb v 1)
and_digit zero v hu hv = refl
and_digit (suc zero) zero hu hv = refl
and_digit (suc zero) (suc zero) hu hv = refl
and_digit (suc zero) (suc (suc v)) hu hv = absurd (omega arith)
and_digit (suc (suc u)) v hu hv = absurd (omega arith)

-- the intersection
pub bit_and_law : (a b i : ℕ) → bit (bit_and a b) i ≡ (bit a i && bit b i)
bit_and_law a b i =
    ap (λ (x : ℕ). eqb (x % 2) 1) (and_shr a b i)
    ∙ ap (λ (x : ℕ). eqb x 1) (and_mod (a / 2 ^ i) (b / 2 ^ i) 1)
    ∙ and_digit (a / 2 ^ i % 2) (b / 2 ^ i % 2) (mod-lt (a / 2 ^ i) (omega arith)) (mod-lt (b / 2 ^ i) (omega arith))

-- in one set and not in the other
abbrev pub either : Bool → Bool → Bool
either true b = not b
either false b = b

xor_digit : (u v : ℕ) → u < 2 → v < 2 → eqb (bit_xor u v) 1 ≡ either (eqb u 1) (eqb v 1)
xor_digit zero zero hu hv = refl
xor_digit zero (suc zero) hu hv = refl
xor_digit zero (suc (suc v)) hu hv = absurd (omega arith)
xor_digit (suc zero) zero hu hv = refl
xor_digit (suc zero) (suc zero) hu hv = refl
xor_digit (suc zero) (suc (suc v)) hu hv = absurd (omega arith)
xor_digit (suc (suc u)) v hu hv = absurd (omega arith)

pub bit_xor_law : (a b i : ℕ) → bit (bit_xor a b) i ≡ either (bit a i) (bit b i)
bit_xor_law a b i =
    ap (λ (x : ℕ). eqb (x % 2) 1) (xor_shr a b i)
    ∙ ap (λ (x : ℕ). eqb x 1) (xor_mod (a / 2 ^ i) (b / 2 ^ i) 1)
    ∙ xor_digit (a / 2 ^ i % 2) (b / 2 ^ i % 2) (mod-lt (a / 2 ^ i) (omega arith)) (mod-lt (b / 2 ^ i) (omega arith))

-- the empty set
pub bit_zero : (i : ℕ) → bit 0 i ≡ false
bit_zero i = ap (λ (x : ℕ). eqb (x % 2) 1) (div-eq_of_lt (pow_pos i))

-- the set of one number
pub bit_same : (n : ℕ) → bit (2 ^ n) n ≡ true
bit_same n = ap (λ (x : ℕ). eqb (x % 2) 1) (ap (λ (y : ℕ). y / 2 ^ n) (inv (one-mul (2 ^ n))) ∙ shl-shr 1 n)

bit_below : (t i : ℕ) → bit (2 ^ (suc t + i)) i ≡ false
bit_below t i =
    ap (λ (x : ℕ). eqb (x % 2) 1) (ap (λ (y : ℕ). y / 2 ^ i) (pow-add 2 (suc t) i) ∙ shl-shr (2 ^ suc t) i)
    ∙ ap (λ (x : ℕ). eqb x 1) (ap (λ (y : ℕ). y % 2) (inv (one-mul (2 ^ suc t))) ∙ shifted_even 1 t)

pub bit_low : (n i : ℕ) → i < n → bit (2 ^ n) i ≡ false
bit_low n i h = subst (λ (x : ℕ). bit (2 ^ x) i ≡ false) (omega arith) (bit_below (n - i - 1) i)

pub bit_high : (n i : ℕ) → n < i → bit (2 ^ n) i ≡ false
bit_high n i h = ap (λ (x : ℕ). eqb (x % 2) 1) (div-eq_of_lt (pow-lt h))

pub bit_other : (n i : ℕ) → (i ≡ n → ⊥) → bit (2 ^ n) i ≡ false
bit_other n i h = go (dec_lt i n)
  where
    go : Dec (i < n) → bit (2 ^ n) i ≡ false
    go (yes l) = bit_low n i l
    go (no l) = bit_high n i (omega arith)

-- ---- sets with the same members

same_digit : (u v : ℕ) → u < 2 → v < 2 → eqb u 1 ≡ eqb v 1 → u ≡ v
same_digit zero zero hu hv e = refl
same_digit zero (suc zero) hu hv e = absurd (let z : ◌≡◌ {A = ℕ} 0 1 = cc in omega arith)
same_digit zero (suc (suc v)) hu hv e = absurd (omega arith)
same_digit (suc zero) zero hu hv e = absurd (let z : ◌≡◌ {A = ℕ} 0 1 = cc in omega arith)
same_digit (suc zero) (suc zero) hu hv e = refl
same_digit (suc zero) (suc (suc v)) hu hv e = absurd (omega arith)
same_digit (suc (suc u)) v hu hv e = absurd (omega arith)

-- the members of the half are the members but for 0, each less one
pub half_bit : (a i : ℕ) → bit (a / 2) i ≡ bit a (1 + i)
half_bit a i = ap (λ (x : ℕ). eqb (x % 2) 1) (shr-shr a 1 i)

pub digit_zero : (a : ℕ) → bit a 0 ≡ eqb (a % 2) 1
digit_zero a = ap (λ (x : ℕ). eqb (x % 2) 1) (div-one a)

module _ (a b : ℕ) (e : (i : ℕ) → bit a i ≡ bit b i) where
  same_halves : (i : ℕ) → bit (a / 2) i ≡ bit (b / 2) i
  same_halves i = half_bit a i ∙ e (1 + i) ∙ inv (half_bit b i)

  joined : a / 2 ≡ b / 2 → a ≡ b
  joined h =
      inv (div-add-mod' a 2)
      ∙ ap₂ (λ (x y : ℕ). x * 2 + y) h (same_digit (a % 2) (b % 2) (mod-lt a (omega arith)) (mod-lt b (omega arith)) (inv (digit_zero a) ∙ e 0 ∙ digit_zero b))
      ∙ div-add-mod' b 2

no_members : (b : ℕ) → ((i : ℕ) → bit 0 i ≡ bit b i) → 0 ≡ b
no_members = bin_ind (λ (b : ℕ). ((i : ℕ) → bit 0 i ≡ bit b i) → 0 ≡ b) (λ e. refl) (λ b ih e. joined 0 b e (ih (same_halves 0 b e)))

pub same_members : (a b : ℕ) → ((i : ℕ) → bit a i ≡ bit b i) → a ≡ b
same_members = bin_ind (λ (a : ℕ). (b : ℕ) → ((i : ℕ) → bit a i ≡ bit b i) → a ≡ b) (λ b e. no_members b e) (λ a ih b e. joined a b e (ih (b / 2) (same_halves a b e)))

or_assoc_digit : (x y z : Bool) → ((x || y) || z) ≡ (x || (y || z))
or_assoc_digit true y z = refl
or_assoc_digit false y z = refl

pub or_assoc : (a b c : ℕ) → bit_or (bit_or a b) c ≡ bit_or a (bit_or b c)
or_assoc a b c =
    same_members (bit_or (bit_or a b) c) (bit_or a (bit_or b c))
    (λ i.
    bit_or_law (bit_or a b) c i
    ∙ ap (λ (x : Bool). x || bit c i) (bit_or_law a b i)
    ∙ or_assoc_digit (bit a i) (bit b i) (bit c i)
    ∙ inv (bit_or_law a (bit_or b c) i ∙ ap (λ (x : Bool). bit a i || x) (bit_or_law b c i)))
