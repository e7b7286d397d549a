-- 01 "Records" (types and value bodies) and "Kinds" (rows), 02 Q-2 (integers): the definition that knows the types' numbers.
use Rattle.std.specs.Prelude.{ℕ, ◌-◌, ◌/◌, ◌%◌, List, [], ◌∷◌, Bool, true, false, ◌||◌, ltb, eqb}
use Rattle.base.specs.Pick.{pick}
use Rattle.record.specs.declared.kind.Family.{Family}
use Rattle.record.specs.declared.kind.Family.TheVariants.{Boolean, Integer, Real, Text, Char16, Octets, Datetime, Reference}
use Rattle.record.specs.declared.kind.Kind.{Kind}
use Rattle.record.specs.declared.kind.Kind.TheVariants.{Unknown, Scalar, Array}

abbrev pub scalar_of : Family → (width : ℕ) → (signed : Bool) → Kind
scalar_of f w g = Scalar (record { family = f; width = w; signed = g })

pub record Numbered : Type 0 where
  pub number : ℕ
  pub says : Kind

abbrev type : ℕ → Family → (width : ℕ) → (signed : Bool) → Numbered
type n f w g = record { number = n; says = scalar_of f w g }

-- the types but the integers: number, family, bytes of a body (0 where any number), whether there is a sign
abbrev pub types : List Numbered
types =
    type 1 Boolean 1 false
    ∷ type 4 Real 4 false
    ∷ type 5 Real 8 false
    ∷ type 6 Text 0 false
    ∷ type 7 Char16 2 false
    ∷ type 8 Octets 0 false
    ∷ type 9 Datetime 25 false
    ∷ type 10 Reference 0 false
    ∷ []

abbrev pub find : ℕ → List Numbered → Kind
find n [] = Unknown
find n (t ∷ ts) = pick (eqb n t.number) t.says (find n ts)

-- 02 Q-2: "Unsigned kinds are 0x0011, 0x0012, 0x0014 and 0x0018, signed 0x0021, 0x0022, 0x0024 and 0x0028; the last hex digit is the body's bytes."
abbrev pub is_width : ℕ → Bool
is_width w = eqb w 1 || (eqb w 2 || (eqb w 4 || eqb w 8))

-- the digit before it: 1 is without a sign, 2 with one
abbrev pub integer_of : (digit width : ℕ) → Kind
integer_of d w = pick (eqb d 1) (scalar_of Integer w false) (pick (eqb d 2) (scalar_of Integer w true) Unknown)

unfoldable pub integer_kind : (digit width : ℕ) → Kind
integer_kind d w = pick (is_width w) (integer_of d w) Unknown

-- what a type's number says
unfoldable pub scalar_kind : ℕ → Kind
scalar_kind n = pick (ltb n 0x0010) (find n types) (integer_kind (n / 16) (n % 16))

abbrev pub array_of : (element : ℕ) → Kind → Kind
array_of e Unknown = Unknown
array_of e (Scalar t) = Array e t
array_of e (Array f t) = Unknown

-- what a property's kind says: it is the type, plus 0x0100 for an array
unfoldable pub kind_of : ℕ → Kind
kind_of k = pick (ltb k 0x0100) (scalar_kind k) (array_of (k - 0x0100) (scalar_kind (k - 0x0100)))

-- the rows of Table 1, {1} {2,3} {4,5} {6,7} {8} {9} {10}, numbered in this order; of the integers that stand for {2,3}, 02 Q-2: "All eight share one row"
abbrev pub row : Family → ℕ
row Boolean = 1
row Integer = 2
row Real = 3
row Text = 4
row Char16 = 4
row Octets = 5
row Datetime = 6
row Reference = 7

abbrev pub same_row : Family → Family → Bool
same_row a b = eqb (row a) (row b)
