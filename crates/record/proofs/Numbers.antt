-- What a type's number says, case by case: what holds of every type that it may be holds of whatever it says, and any other number says nothing.
use Prim.Native.Nat.{ℕ, ◌+◌, ◌-◌, ◌*◌, ◌/◌, ◌%◌, ◌≤◌}
use mathlib.Core.List.{List, [], ◌∷◌}
use mathlib.Core.Bool.{Bool, true, false, ◌||◌}
use mathlib.Core.Path.{◌≡◌, refl, sym, ap, ◌∙◌}
use mathlib.Core.Logic.{◌⊎◌, inl, inr}
use native.Mathlib.Omega.{arith}
use native.Mathlib.Nat.{mod-add-div}
use lib.Dec.{ltb, eqb}
use borrow.Author.Tests.{eqb-true, ne_eqb, lt-ltb, le-ltb}
use Rattle.base.specs.Pick.{pick}
use Rattle.record.specs.declared.kind.Family.TheVariants.{Integer}
use Rattle.record.specs.declared.kind.ValueType.{ValueType}
use Rattle.record.specs.declared.kind.Kind.{Kind}
use Rattle.record.specs.declared.kind.Kind.TheVariants.{Unknown, Scalar, Array}
use Rattle.record.specs.Kind.{scalar_of, Numbered, types, find, is_width, integer_of, integer_kind, scalar_kind, array_of, kind_of}

-- ---- the widths of integers
abbrev pub IsWidth : ℕ → Type 0
IsWidth w = (w ≡ 1) ⊎ ((w ≡ 2) ⊎ ((w ≡ 4) ⊎ (w ≡ 8)))

widths : (w : ℕ) → is_width w ≡ true → IsWidth w
widths w h = go (eqb w 1) refl (eqb w 2) refl (eqb w 4) refl h
  where
    go : (a : Bool) → eqb w 1 ≡ a → (b : Bool) → eqb w 2 ≡ b → (c : Bool) → eqb w 4 ≡ c → (a || (b || (c || eqb w 8))) ≡ true → IsWidth w
    go true e b f c g h = inl (eqb-true w 1 e)
    go false e true f c g h = inr (inl (eqb-true w 2 f))
    go false e false f true g h = inr (inr (inl (eqb-true w 4 g)))
    go false e false f false g h = inr (inr (inr (eqb-true w 8 h)))

-- ---- what holds of every type
module _ (P : Kind → Type 0) (unknown : P Unknown) (n : ℕ) where
  abbrev pub Each : List Numbered → Type 0
  Each [] = Unit
  Each (m ∷ ms) = (n ≡ m.number → P m.says) × Each ms

  abbrev pub Integers : Type 0
  Integers = IsWidth (n % 16) → (n / 16 ≡ 1 → P (scalar_of Integer (n % 16) false)) × (n / 16 ≡ 2 → P (scalar_of Integer (n % 16) true))

  found : (ms : List Numbered) → Each ms → P (find n ms)
  found [] h = unknown
  found (m ∷ ms) h = go (eqb n m.number) refl (found ms h.1)
    where
      go : (b : Bool) → eqb n m.number ≡ b → P (find n ms) → P (pick b m.says (find n ms))
      go true e r = h.0 (eqb-true n m.number e)
      go false e r = r

  integer : Integers → P (integer_kind (n / 16) (n % 16))
  unfolding integer_kind
  integer i = go (is_width (n % 16)) refl
    where
      with_sign_law : (b : Bool) → eqb (n / 16) 2 ≡ b → IsWidth (n % 16) → P (pick b (scalar_of Integer (n % 16) true) Unknown)
      with_sign_law true f w = (i w).1 (eqb-true (n / 16) 2 f)
      with_sign_law false f w = unknown

      any_sign : (b : Bool) → eqb (n / 16) 1 ≡ b → IsWidth (n % 16)
          → P (pick b (scalar_of Integer (n % 16) false) (pick (eqb (n / 16) 2) (scalar_of Integer (n % 16) true) Unknown))
      any_sign true f w = (i w).0 (eqb-true (n / 16) 1 f)
      any_sign false f w = with_sign_law (eqb (n / 16) 2) refl w

      go : (b : Bool) → is_width (n % 16) ≡ b → P (pick b (integer_of (n / 16) (n % 16)) Unknown)
      go true e = any_sign (eqb (n / 16) 1) refl (widths (n % 16) e)
      go false e = unknown

  pub each_scalar : Each types → Integers → P (scalar_kind n)
  unfolding scalar_kind
  each_scalar h i = go (ltb n 0x0010)
    where
      go : (b : Bool) → P (pick b (find n types) (integer_kind (n / 16) (n % 16)))
      go true = found types h
      go false = integer i

-- ---- a number that is no type's
abbrev pub NoneOf : List ℕ → ℕ → Type 0
NoneOf [] n = Unit
NoneOf (m ∷ ms) n = NoneOf ms n × (n ≡ m → ⊥)

-- the types' numbers, the last first
abbrev pub plain : List ℕ
plain = 10 ∷ 9 ∷ 8 ∷ 7 ∷ 6 ∷ 5 ∷ 4 ∷ 1 ∷ []

abbrev pub numbers : List ℕ
numbers = 0x0028 ∷ 0x0024 ∷ 0x0022 ∷ 0x0021 ∷ 0x0018 ∷ 0x0014 ∷ 0x0012 ∷ 0x0011 ∷ plain

module _ (n : ℕ) (h : NoneOf numbers n) where
  no_width : (d : ℕ) → n / 16 ≡ d → (16 * d + 1 ≡ n → ⊥) → (16 * d + 2 ≡ n → ⊥) → (16 * d + 4 ≡ n → ⊥) → (16 * d + 8 ≡ n → ⊥) → IsWidth (n % 16) → ⊥
  no_width d e a b f g (inl w) = a (omega (arith, mod-add-div n 16))
  no_width d e a b f g (inr (inl w)) = b (omega (arith, mod-add-div n 16))
  no_width d e a b f g (inr (inr (inl w))) = f (omega (arith, mod-add-div n 16))
  no_width d e a b f g (inr (inr (inr w))) = g (omega (arith, mod-add-div n 16))

  pub unknown_number : Unknown ≡ scalar_kind n
  unknown_number = each_scalar (λ k. Unknown ≡ k) refl n others integers
    where
      u : NoneOf (0x0018 ∷ 0x0014 ∷ 0x0012 ∷ 0x0011 ∷ plain) n
      u = h.0.0.0.0

      p : NoneOf plain n
      p = u.0.0.0.0

      others : Each (λ k. Unknown ≡ k) refl n types
      others = (
        λ e. absurd (p.0.0.0.0.0.0.0.1 e),
        (
          λ e. absurd (p.0.0.0.0.0.0.1 e),
          (
            λ e. absurd (p.0.0.0.0.0.1 e),
            (
              λ e. absurd (p.0.0.0.0.1 e),
              (
                λ e. absurd (p.0.0.0.1 e),
                (
                  λ e. absurd (p.0.0.1 e),
                  (
                    λ e. absurd (p.0.1 e),
                    (λ e. absurd (p.1 e), tt),
                  ),
                ),
              ),
            ),
          ),
        ),
      )

      integers : Integers (λ k. Unknown ≡ k) refl n
      integers w = (
        λ d. absurd (no_width 1 d (λ e. u.0.0.0.1 (sym e)) (λ e. u.0.0.1 (sym e)) (λ e. u.0.1 (sym e)) (λ e. u.1 (sym e)) w),
        λ d. absurd (no_width 2 d (λ e. h.0.0.0.1 (sym e)) (λ e. h.0.0.1 (sym e)) (λ e. h.0.1 (sym e)) (λ e. h.1 (sym e)) w),
      )

-- a number of more than two hex digits
far : (n : ℕ) → 0x0100 ≤ n → Unknown ≡ scalar_kind n
unfolding scalar_kind integer_kind
far n h = rw (le-ltb n 0x0010 (omega arith), ne_eqb (n / 16) 1 (λ e. omega (arith, mod-add-div n 16)), ne_eqb (n / 16) 2 (λ e. omega (arith, mod-add-div n 16))) (go (is_width (n % 16)))
  where
    go : (b : Bool) → Unknown ≡ pick b Unknown Unknown
    go true = refl
    go false = refl

-- a type's number says no array
abbrev pub NoArray : Kind → Type 0
NoArray Unknown = Unit
NoArray (Scalar t) = Unit
NoArray (Array e t) = ⊥

pub no_array : (n : ℕ) → NoArray (scalar_kind n)
no_array n =
    each_scalar NoArray tt n (λ e. tt, (λ e. tt, (λ e. tt, (λ e. tt, (λ e. tt, (λ e. tt, (λ e. tt, (λ e. tt, tt)))))))) (λ w. (λ d. tt, λ d. tt))

-- ---- one law for each exit of `kind_of`
module _ (n : ℕ) where
  digits : n % 0x0100 + 0x0100 * (n / 0x0100) ≡ n
  digits = mod-add-div n 0x0100

  as_array_law : n / 0x0100 ≡ 1 → array_of (n % 0x0100) (scalar_kind (n % 0x0100)) ≡ kind_of n
  unfolding kind_of
  as_array_law e =
      let o : n % 0x0100 ≡ n - 0x0100 = omega (arith, digits) in
      rw (le-ltb n 0x0100 (omega (arith, digits)), o)

  pub kind_none : (n / 0x0100 ≡ 0 → ⊥) → (n / 0x0100 ≡ 1 → ⊥) → Unknown ≡ kind_of n
  unfolding kind_of
  kind_none a b =
      let l : 0x0200 ≤ n = omega (arith, digits) in
      rw (le-ltb n 0x0100 (omega arith), ← far (n - 0x0100) (omega arith)) refl

  module _ {k : Kind} (says : k ≡ scalar_kind (n % 0x0100)) where
    pub kind_scalar : n / 0x0100 ≡ 0 → k ≡ kind_of n
    unfolding kind_of
    kind_scalar e = says ∙ rw (lt-ltb n 0x0100 (omega (arith, digits))) (ap scalar_kind (omega (arith, digits)))

    pub kind_array : {t : ValueType} → k ≡ Scalar t → n / 0x0100 ≡ 1 → Array (n % 0x0100) t ≡ kind_of n
    kind_array i e = ap (array_of (n % 0x0100)) (sym i ∙ says) ∙ as_array_law e

    pub kind_unknown : ((t : ValueType) → k ≡ Scalar t → ⊥) → n / 0x0100 ≡ 1 → Unknown ≡ kind_of n
    kind_unknown f e = go k says f ∙ as_array_law e
      where
        go : (k : Kind) → k ≡ scalar_kind (n % 0x0100) → ((t : ValueType) → k ≡ Scalar t → ⊥) → Unknown ≡ array_of (n % 0x0100) (scalar_kind (n % 0x0100))
        go Unknown s f = ap (array_of (n % 0x0100)) s
        go (Scalar t) s f = absurd (f t refl)
        go (Array e t) s f = ap (array_of (n % 0x0100)) s
