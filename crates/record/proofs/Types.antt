-- What a kind says of its type: so integers are of 1 to 8 bytes, and reals of 4 or 8.
use Prim.Native.Nat.{ℕ, ◌+◌, ◌-◌, ◌%◌, ◌≤◌}
use mathlib.Core.Bool.{Bool, true, false}
use mathlib.Core.Path.{◌≡◌, refl, ap}
use mathlib.Core.Logic.{◌⊎◌, inl, inr}
use native.Mathlib.Omega.{arith}
use native.Mathlib.Nat.{mod-add-div}
use lib.Dec.{ltb, eqb}
use borrow.Author.Tests.{eqb-false}
use Rattle.base.specs.Pick.{pick}
use Rattle.record.specs.declared.kind.Family.{Family}
use Rattle.record.specs.declared.kind.Family.TheVariants.{Boolean, Integer, Real, Text, Char16, Octets, Datetime, Reference}
use Rattle.record.specs.declared.kind.ValueType.{ValueType}
use Rattle.record.specs.declared.kind.Kind.{Kind}
use Rattle.record.specs.declared.kind.Kind.TheVariants.{Unknown, Scalar, Array}
use Rattle.record.specs.Kind.{types, scalar_kind, array_of, kind_of, row}
use Rattle.record.proofs.Numbers.{IsWidth, Each, each_scalar, NoArray, no_array}

-- ---- arrays
abbrev pub OfElements : Kind → Type 0
OfElements Unknown = Unit
OfElements (Scalar t) = Unit
OfElements (Array e t) = scalar_kind e ≡ Scalar t

-- an array's elements have the kind that their type is
pub of_elements : (k : ℕ) → OfElements (kind_of k)
unfolding kind_of
of_elements k = go (ltb k 0x0100)
  where
    plain : (x : Kind) → NoArray x → OfElements x
    plain Unknown h = tt
    plain (Scalar t) h = tt
    plain (Array e t) h = absurd h

    array : (e : ℕ) (x : Kind) → scalar_kind e ≡ x → OfElements (array_of e x)
    array e Unknown h = tt
    array e (Scalar t) h = h
    array e (Array f t) h = tt

    go : (b : Bool) → OfElements (pick b (scalar_kind k) (array_of (k - 0x0100) (scalar_kind (k - 0x0100))))
    go true = plain (scalar_kind k) (no_array k)
    go false = array (k - 0x0100) (scalar_kind (k - 0x0100)) refl

-- ---- a property of the type that a kind is about, if it says any
abbrev pub Said : (ValueType → Type 0) → Kind → Type 0
Said P Unknown = Unit
Said P (Scalar t) = P t
Said P (Array element t) = P t

said_array : (P : ValueType → Type 0) (e : ℕ) (k : Kind) → Said P k → Said P (array_of e k)
said_array P e Unknown h = h
said_array P e (Scalar t) h = h
said_array P e (Array f t) h = tt

pub said_kind : (P : ValueType → Type 0) → ((n : ℕ) → Said P (scalar_kind n)) → (k : ℕ) → Said P (kind_of k)
unfolding kind_of
said_kind P h k = go (ltb k 0x0100)
  where
    go : (b : Bool) → Said P (pick b (scalar_kind k) (array_of (k - 0x0100) (scalar_kind (k - 0x0100))))
    go true = h k
    go false = said_array P (k - 0x0100) (scalar_kind (k - 0x0100)) (h (k - 0x0100))

-- the widths of numbers
abbrev pub SizedBy : Family → ℕ → Type 0
SizedBy Boolean w = Unit
SizedBy Integer w = (1 ≤ w) × (w ≤ 8)
SizedBy Real w = (w ≡ 4) ⊎ (w ≡ 8)
SizedBy Text w = Unit
SizedBy Char16 w = Unit
SizedBy Octets w = Unit
SizedBy Datetime w = Unit
SizedBy Reference w = Unit

abbrev pub Sized : ValueType → Type 0
Sized t = SizedBy t.family t.width

width_sized : (w : ℕ) → IsWidth w → (1 ≤ w) × (w ≤ 8)
width_sized w (inl e) = (omega arith, omega arith)
width_sized w (inr (inl e)) = (omega arith, omega arith)
width_sized w (inr (inr (inl e))) = (omega arith, omega arith)
width_sized w (inr (inr (inr e))) = (omega arith, omega arith)

pub sized : (k : ℕ) → Said Sized (kind_of k)
sized = said_kind Sized (λ n. each_scalar (Said Sized) tt n others (λ w. (λ d. width_sized (n % 16) w, λ d. width_sized (n % 16) w)))
  where
    others : {n : ℕ} → Each (Said Sized) tt n types
    others = (λ e. tt, (λ e. inl refl, (λ e. inr refl, (λ e. tt, (λ e. tt, (λ e. tt, (λ e. tt, (λ e. tt, tt))))))))

-- 02 Q-2 "the last hex digit is the body's bytes": so no other numbers than its eight are integers'
abbrev pub Digits : (number : ℕ) → ValueType → Type 0
Digits n t = t.family ≡ Integer → (n ≡ pick t.signed 0x0020 0x0010 + t.width) × IsWidth t.width

apart : (f : Family) → eqb (row f) (row Integer) ≡ false → f ≡ Integer → ⊥
apart f n e = eqb-false (row f) (row Integer) n (ap row e)

pub integer_digits : (n : ℕ) → Said (Digits n) (scalar_kind n)
integer_digits n =
    each_scalar (Said (Digits n)) tt n (
      λ m e. absurd (apart Boolean refl e),
      (
        λ m e. absurd (apart Real refl e),
        (
          λ m e. absurd (apart Real refl e),
          (
            λ m e. absurd (apart Text refl e),
            (
              λ m e. absurd (apart Char16 refl e),
              (
                λ m e. absurd (apart Octets refl e),
                (
                  λ m e. absurd (apart Datetime refl e),
                  (λ m e. absurd (apart Reference refl e), tt),
                ),
              ),
            ),
          ),
        ),
      ),
    )
    (λ w. (λ d e. (omega (arith, mod-add-div n 16), w), λ d e. (omega (arith, mod-add-div n 16), w)))
