-- A literal's value is the real64 nearest to D × 10^e: both operands are held exactly, so the one rounding is all there is.
use Rattle.std.proofs.Common.{◌≡◌, ℕ, zero, suc, ◌+◌, ◌-◌, ◌*◌, ◌/◌, ◌%◌, ◌^◌, ◌<◌, Bool, true, false, cond, T, eqb, ltb, leb, ℤ, pos, negsuc, sym, refl, ap, ◌∙◌, mul_comm, mul-pos, zero-mul, mul-one, arith, eqb→eq, ltb-true, ne_eqb, leb-true}
use Prim.Native.Nat.{compare}
use native.Mathlib.Nat.{mul-mul-mul_comm, one-le-pow}
use lib.Ieee.{Float, Format, nan, inf, fin, binary64, up, down, unlike, neg, mul, div, of_int, round, odd, units, size, nearest, low, prec, emax}
use lib.Ieee.Fits.{up_pos, down_pos}
use lib.Ieee.Exact.{HasValue}
use lib.Ieee.Back.{round_whole}
use lib.Ieee.Scale.{round_same}
use Rattle.base.proofs.Tabulate.{all_at}
use Rattle.base.proofs.Says.{and_both}
use Rattle.real.specs.Real.{power_of_ten, magnitude, in_range, real_with}

-- a product of two values, by any fractions that they equal
pub mul_value : (f : Format) (x y : Float) (s t : Bool) (a c b d : ℕ) → 0 < c → 0 < d → HasValue x s a c → HasValue y t b d → mul f x y ≡ round f (unlike s t) (a * b) (c * d)
unfolding mul
mul_value f nan y s t a c b d C D h k = absurd h
mul_value f (inf u) y s t a c b d C D h k = absurd h
mul_value f (fin u m e) nan s t a c b d C D h k = absurd k
mul_value f (fin u m e) (inf v) s t a c b d C D h k = absurd k
mul_value f (fin u m e) (fin v n g) s t a c b d C D (p, h) (q, k) =
    ap (λ (z : Bool). round f (unlike z v) (m * up e * (n * up g)) (down e * down g)) p
    ∙ ap (λ (z : Bool). round f (unlike s z) (m * up e * (n * up g)) (down e * down g)) q
    ∙ round_same f (unlike s t) (m * up e * (n * up g)) (down e * down g) (a * b) (c * d) (mul-pos (down_pos e) (down_pos g)) (mul-pos C D)
    (mul-mul-mul_comm (m * up e) (n * up g) c d ∙ ap (λ (z : ℕ). z * (n * up g * d)) h ∙ ap (λ (z : ℕ). a * down e * z) k ∙ mul-mul-mul_comm a (down e) b (down g))

-- a quotient of two values, the second above 0
pub div_value : (f : Format) (x y : Float) (s t : Bool) (a c b d : ℕ) → 0 < c → 0 < d → 0 < b → HasValue x s a c → HasValue y t b d → div f x y ≡ round f (unlike s t) (a * d) (b * c)
unfolding div
div_value f nan y s t a c b d C D B h k = absurd h
div_value f (inf u) y s t a c b d C D B h k = absurd h
div_value f (fin u m e) nan s t a c b d C D B h k = absurd k
div_value f (fin u m e) (inf v) s t a c b d C D B h k = absurd k
div_value f (fin u m e) (fin v n g) s t a c b d C D B (p, h) (q, k) =
    let M = m * up e in
    let N = n * up g in
    let some : n ≡ 0 → ⊥ = λ z. no (sym k ∙ ap (λ (w : ℕ). w * up g * d) z ∙ ap (λ (w : ℕ). w * d) (zero-mul (up g)) ∙ zero-mul d) (mul-pos B (down_pos g)) in
    ap (λ (z : Bool). cond z (cond (eqb m 0) nan (inf (unlike u v))) (round f (unlike u v) (M * down g) (N * down e))) (ne_eqb n 0 some)
    ∙ ap (λ (z : Bool). round f (unlike z v) (M * down g) (N * down e)) p
    ∙ ap (λ (z : Bool). round f (unlike s z) (M * down g) (N * down e)) q
    ∙ round_same f (unlike s t) (M * down g) (N * down e) (a * d) (b * c) (mul-pos (num_pos some) (down_pos e)) (mul-pos B C)
    (ap (λ (z : ℕ). M * down g * z) (mul_comm b c)
    ∙ mul-mul-mul_comm M (down g) c b
    ∙ ap (λ (z : ℕ). z * (down g * b)) h
    ∙ ap (λ (z : ℕ). a * down e * z) (mul_comm (down g) b ∙ sym k ∙ mul_comm N d)
    ∙ mul-mul-mul_comm a (down e) d N
    ∙ ap (λ (z : ℕ). a * d * z) (mul_comm (down e) N))
  where
    no : {w : ℕ} → w ≡ 0 → 0 < w → ⊥
    no z l = omega arith

    above : (n ≡ 0 → ⊥) → 0 < n
    above z = omega arith

    num_pos : (n ≡ 0 → ⊥) → 0 < n * up g
    num_pos z = mul-pos (above z) (up_pos g)

held : ℕ → Float → Bool
held v nan = false
held v (inf s) = false
held v (fin true m e) = false
held v (fin false m e) = eqb (m * up e * 1) (v * down e)

held_value : (v : ℕ) (x : Float) → T (held v x) → HasValue x false v 1
unfolding held
held_value v nan h = absurd h
held_value v (inf s) h = absurd h
held_value v (fin true m e) h = absurd h
held_value v (fin false m e) h = (refl, eqb→eq (m * up e * 1) (v * down e) h)

-- 10 ^ k is held exactly up to k = 22: one computed test
pub power_value : (k : ℕ) → k < 23 → HasValue (power_of_ten k) false (10 ^ k) 1
unfolding held of_int
power_value k h = held_value (10 ^ k) (power_of_ten k) (all_at (λ (i : ℕ). held (10 ^ i) (power_of_ten i)) 23 tt k h)

pub digits_value : (d : ℕ) → d < 10 ^ 15 → HasValue (of_int binary64 (pos d)) false d 1
unfolding of_int
digits_value d h = round_whole binary64 false d (omega arith)

-- the decimal D × 10^e as a fraction
abbrev pub numerator : ℕ → ℤ → ℕ
numerator d (pos k) = d * 10 ^ k
numerator d (negsuc k) = d

abbrev pub denominator : ℤ → ℕ
denominator (pos k) = 1
denominator (negsuc k) = 10 ^ suc k

-- in range, the operation's result is that fraction, correctly rounded
pub magnitude_nearest : (d : ℕ) (e : ℤ) → in_range d e ≡ true → magnitude d e ≡ round binary64 false (numerator d e) (denominator e)
unfolding magnitude
magnitude_nearest d (pos k) h =
    let p = and_both (ltb d (10 ^ 15)) _ h in
    mul_value binary64 (of_int binary64 (pos d)) (power_of_ten k) false false d 1 (10 ^ k) 1 (omega arith) (omega arith) (digits_value d (ltb-true d (10 ^ 15) p.0)) (power_value k (omega (arith, leb-true k 22 p.1)))
magnitude_nearest d (negsuc k) h =
    let p = and_both (ltb d (10 ^ 15)) _ h in
    let q = and_both (leb k 21) true p.1 in
    div_value binary64 (of_int binary64 (pos d)) (power_of_ten (suc k)) false false d 1 (10 ^ suc k) 1 (omega arith) (omega arith) (one-le-pow (suc k) 10 (omega arith)) (digits_value d (ltb-true d (10 ^ 15) p.0)) (power_value (suc k) (omega (arith, leb-true k 21 q.0)))
    ∙ rw (mul-one d, mul-one (10 ^ suc k))

-- the sign is applied exactly
neg_odd : (d q k l : ℕ) → neg (odd d false q k l) ≡ odd d true q k l
unfolding neg odd
neg_odd d zero k l = refl
neg_odd d (suc q) k l = refl

neg_units : (f : Format) (q k : ℕ) → neg (units f false q k) ≡ units f true q k
unfolding neg units
neg_units f q k = go (ltb (q * 2 ^ k) (2 ^ (low f + suc (emax f))))
  where
    go : (b : Bool) → neg (cond b (odd (suc (prec f)) false q k (low f)) (inf false)) ≡ cond b (odd (suc (prec f)) true q k (low f)) (inf true)
    go true = neg_odd (suc (prec f)) q k (low f)
    go false = refl

neg_round : (f : Format) (a b : ℕ) → neg (round f false a b) ≡ round f true a b
unfolding round
neg_round f a b =
    let n = a * 2 ^ low f in
    let k = size (n / b) - prec f in
    neg_units f (nearest (n / (b * 2 ^ k)) (compare (n % (b * 2 ^ k) * 2) (b * 2 ^ k))) k

-- a literal's value is D × 10^e with its sign, correctly rounded
pub value_nearest : (negative : Bool) (d : ℕ) (e : ℤ) → in_range d e ≡ true → (real_with negative d e).value ≡ round binary64 negative (numerator d e) (denominator e)
value_nearest true d e h = ap neg (magnitude_nearest d e h) ∙ neg_round binary64 (numerator d e) (denominator e)
value_nearest false d e h = magnitude_nearest d e h
