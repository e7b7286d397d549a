-- What the operators say of two reals: just what IEEE 754's comparisons say.
use Rattle.std.proofs.Common.{◌≡◌, ℕ, ◌+◌, ◌*◌, Bool, true, false, not, ◌&&◌, ◌||◌, eqb, pos, sym, refl, ap, ◌∙◌, arith, ltb-true, le-ltb, eq-eqb, ne_eqb, eqb-true}
use mathlib.Core.Bool.{beq}
use lib.Ieee.{Float, nan, inf, fin, lt, eq, le, ne, below, level, up, down}
use Rattle.base.specs.Pick.{pick}
use Rattle.base.specs.Order.{holds}
use Rattle.base.specs.declared.order.Order.TheVariants.{Before, Same, After, Undecided}
use Rattle.base.specs.declared.order.Operator.{Operator}
use Rattle.base.specs.declared.order.Operator.TheVariants.{Equal, Unequal, Less, AtMost, Greater, AtLeast}
use Rattle.base.proofs.Says.{apart}
use Rattle.base.proofs.Orders.{unequal_is, at_most_is, at_least_is}
use Rattle.real.specs.Order.{order_of_reals}

-- IEEE 754's comparison for each operator
abbrev pub compares : Operator → Float → Float → Bool
compares Equal a b = eq a b
compares Unequal a b = ne a b
compares Less a b = lt a b
compares AtMost a b = le a b
compares Greater a b = lt b a
compares AtLeast a b = le b a

-- below, level and above exclude each other
below_only : (s t : Bool) (a b : ℕ) → below s a t b ≡ true → (level s a t b ≡ false) × (below t b s a ≡ false)
below_only false false a b h = (rw (ne_eqb a b (λ e. omega (arith, ltb-true a b h))), le-ltb b a (omega (arith, ltb-true a b h)))
below_only false true a b h = absurd (apart h)
below_only true false a b h = (go (eqb a b) refl, refl)
  where
    go : (p : Bool) → eqb a b ≡ p → (p && eqb a 0) ≡ false
    go true e = ne_eqb a 0 (λ z. omega (arith, ltb-true 0 (a + b) h, eqb-true a b e))
    go false e = refl
below_only true true a b h = (rw (ne_eqb a b (λ e. omega (arith, ltb-true b a h))), le-ltb a b (omega (arith, ltb-true b a h)))

lt_only : (x y : Float) → lt x y ≡ true → (eq x y ≡ false) × (lt y x ≡ false)
unfolding lt eq
lt_only nan y h = absurd (apart h)
lt_only (inf s) nan h = absurd (apart h)
lt_only (inf true) (inf false) h = (refl, refl)
lt_only (inf true) (inf true) h = absurd (apart h)
lt_only (inf false) (inf t) h = absurd (apart h)
lt_only (inf true) (fin t n d) h = (refl, refl)
lt_only (inf false) (fin t n d) h = absurd (apart h)
lt_only (fin s m e) nan h = absurd (apart h)
lt_only (fin s m e) (inf true) h = absurd (apart h)
lt_only (fin s m e) (inf false) h = (refl, refl)
lt_only (fin s m e) (fin t n d) h = below_only s t (m * up e * down d) (n * up d * down e) h

beq_sym : (s t : Bool) → beq s t ≡ beq t s
beq_sym true true = refl
beq_sym true false = refl
beq_sym false true = refl
beq_sym false false = refl

level_sym : (s t : Bool) (a b : ℕ) → level s a t b ≡ level t b s a
level_sym s t a b = go (eqb a b) refl
  where
    go : (p : Bool) → eqb a b ≡ p → (p && (beq s t || eqb a 0)) ≡ (eqb b a && (beq t s || eqb b 0))
    go true e = let z = eqb-true a b e in rw (beq_sym s t, eq-eqb b a (sym z), z)
    go false e = rw (ne_eqb b a (λ z. apart (sym e ∙ eq-eqb a b (sym z))))

eq_sym : (x y : Float) → eq x y ≡ eq y x
unfolding eq
eq_sym nan nan = refl
eq_sym nan (inf t) = refl
eq_sym nan (fin t n d) = refl
eq_sym (inf s) nan = refl
eq_sym (inf s) (inf t) = beq_sym s t
eq_sym (inf s) (fin t n d) = refl
eq_sym (fin s m e) nan = refl
eq_sym (fin s m e) (inf t) = refl
eq_sym (fin s m e) (fin t n d) = level_sym s t (m * up e * down d) (n * up d * down e)

less_told : (p q r : Bool) → holds Less (pick p Before (pick q Same (pick r After Undecided))) ≡ p
less_told true q r = refl
less_told false true r = refl
less_told false false true = refl
less_told false false false = refl

equal_told : (p q r : Bool) → (p ≡ true → q ≡ false) → holds Equal (pick p Before (pick q Same (pick r After Undecided))) ≡ q
equal_told true q r h = sym (h refl)
equal_told false true r h = refl
equal_told false false true h = refl
equal_told false false false h = refl

greater_told : (p q r : Bool) → (r ≡ true → (q ≡ false) × (p ≡ false)) → holds Greater (pick p Before (pick q Same (pick r After Undecided))) ≡ r
greater_told p q true h = rw ((h refl).1, (h refl).0)
greater_told true q false h = refl
greater_told false true false h = refl
greater_told false false false h = refl

module _ (a b : Float) where
  less_is : holds Less (order_of_reals a b) ≡ lt a b
  less_is = less_told (lt a b) (eq a b) (lt b a)

  equal_is : holds Equal (order_of_reals a b) ≡ eq a b
  equal_is = equal_told (lt a b) (eq a b) (lt b a) (λ h. (lt_only a b h).0)

  greater_is : holds Greater (order_of_reals a b) ≡ lt b a
  greater_is = greater_told (lt a b) (eq a b) (lt b a) (λ h. (eq_sym a b ∙ (lt_only b a h).0, (lt_only b a h).1))

  -- an operator holds of two reals exactly where IEEE 754's comparison does
  pub reals_hold : (op : Operator) → holds op (order_of_reals a b) ≡ compares op a b
  unfolding ne le
  reals_hold Equal = equal_is
  reals_hold Unequal = sym (unequal_is (order_of_reals a b)) ∙ ap not equal_is
  reals_hold Less = less_is
  reals_hold AtMost = sym (at_most_is (order_of_reals a b)) ∙ rw (less_is, equal_is)
  reals_hold Greater = greater_is
  reals_hold AtLeast = sym (at_least_is (order_of_reals a b)) ∙ rw (greater_is, equal_is, eq_sym a b)

-- a NaN is in no order with anything, itself included; −0 equals 0
pub nan_undecided : (x : Float) → (order_of_reals nan x ≡ Undecided) × (order_of_reals x nan ≡ Undecided)
unfolding lt eq
nan_undecided nan = (refl, refl)
nan_undecided (inf s) = (refl, refl)
nan_undecided (fin s m e) = (refl, refl)

pub zeros_same : order_of_reals (fin true 0 (pos 0)) (fin false 0 (pos 0)) ≡ Same
unfolding lt eq
zeros_same = refl
