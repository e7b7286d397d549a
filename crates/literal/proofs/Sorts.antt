-- A token's sort is that of its literal: the value is of that sort, only numbers are out of range, and there is no literal exactly of no sort.
use Rattle.std.specs.Prelude.{ℤ, None, Option, Some, Err, Ok, Result}
use Prim.Native.Nat.{ℕ, ◌-◌}
use mathlib.Core.Path.{◌≡◌, refl}
use mathlib.Core.List.{List}
use mathlib.Core.Bool.{Bool, true, false, ◌&&◌}
use lib.Dec.{eqb}
use Rattle.base.specs.Pick.{pick}
use Rattle.base.specs.Digit.{size_under}
use Rattle.numeral.specs.Numeral.{signed}
use Rattle.real.specs.declared.Real.{Real}
use Rattle.real.specs.Real.{real_of, exponent_of}
use Rattle.token.specs.declared.Form.{Form}
use Rattle.token.specs.declared.Form.TheVariants as Form
use Rattle.token.specs.declared.Reserved.{Reserved}
use Rattle.token.specs.declared.Reserved.TheVariants.{And, Any, Every, False, Like, Not, Null, Or, True}
use Rattle.token.specs.declared.TokenKind.{TokenKind}
use Rattle.token.specs.declared.TokenKind.TheVariants as Kind
use Rattle.token.specs.declared.Token.{Token}
use Rattle.literal.specs.Integer.{negative, magnitude, integer_by, integer_of}
use Rattle.literal.specs.RealLiteral.{fraction_from, fraction_end, digits_of, exponent_size, exponent_below, decoded_real, real_from, real_literal_of}
use Rattle.literal.specs.Literal.{word_literal, hex_literal_of, number_literal, literal_by, literal_of}
use Rattle.literal.specs.Sort.{word_sort, form_sort, sort_of}
use Rattle.literal.specs.declared.sort.Sort.{Sort}
use Rattle.literal.specs.declared.sort.Sort.TheVariants as Sort
use Rattle.literal.specs.declared.Literal.{Literal}
use Rattle.literal.specs.declared.Literal.TheVariants as Literal
use Rattle.literal.specs.declared.LiteralFault.TheVariants.{OutOfRange, NoLiteral}
use Rattle.literal.specs.declared.LiteralFault.{LiteralFault}

-- a value of a sort; hex digits make an integer or octets
pub data OfSort : Sort → Literal → Type 0 where
  truth : {b : Bool} → OfSort Sort.Truth (Literal.Truth b)
  integer : {w : ℤ} → OfSort Sort.Integer (Literal.Integer w)
  hex : {w : ℤ} → OfSort Sort.Hex (Literal.Integer w)
  octets : {s e : ℕ} → OfSort Sort.Hex (Literal.Octets s e)
  real : {x : Real} → OfSort Sort.Real (Literal.Real x)
  text : {s e : ℕ} → OfSort Sort.Text (Literal.Text s e)
  null : OfSort Sort.Null Literal.Null

-- the sorts that have a range
pub data Ranging : Sort → Type 0 where
  integer : Ranging Sort.Integer
  hex : Ranging Sort.Hex
  real : Ranging Sort.Real

abbrev pub Sorted : Option Sort → Result Literal LiteralFault → Type 0
Sorted s (Err NoLiteral) = s ≡ None
Sorted (Some s) (Ok v) = OfSort s v
Sorted (Some s) (Err OutOfRange) = Ranging s
Sorted None (Ok v) = ⊥
Sorted None (Err OutOfRange) = ⊥

module _ (octets-asked : Bool) (q : List ℕ) where
  integer_sorted : (s : Sort) → ((w : ℤ) → OfSort s (Literal.Integer w)) → Ranging s → (n : Bool) (m : Option ℕ) → Sorted (Some s) (integer_by n m)
  unfolding integer_by
  integer_sorted s f r n (Some m) = f _
  integer_sorted s f r n None = r

  real_sorted : (x : Option Real) → Sorted (Some Sort.Real) (decoded_real x)
  real_sorted (Some x) = real
  real_sorted None = real

  real_from_sorted : (n : Bool) (s : ℕ) → Sorted (Some Sort.Real) (real_from q n s)
  unfolding real_from
  real_from_sorted n s =
      real_sorted (real_of n (digits_of q s) (exponent_of (exponent_below q (fraction_end q s)) (exponent_size q (fraction_end q s)) (fraction_end q s - fraction_from q s)))

  number_sorted : (f : Form) (start end : ℕ) → Sorted (Some (form_sort f)) (number_literal octets-asked q f start end)
  unfolding form_sort number_literal integer_of hex_literal_of real_literal_of
  number_sorted Form.Decimal start end = integer_sorted Sort.Integer (λ w. integer) integer (negative q start) (size_under 18446744073709551615 (magnitude Form.Decimal q start))
  number_sorted Form.Binary start end = integer_sorted Sort.Integer (λ w. integer) integer (negative q start) (size_under 18446744073709551615 (magnitude Form.Binary q start))
  number_sorted Form.Hex start end = go (octets-asked && eqb (signed q start) start)
    where
      go : (t : Bool) → Sorted (Some Sort.Hex) (pick t (Ok (Literal.Octets start end)) (integer_of q Form.Hex start))
      go true = octets
      go false = integer_sorted Sort.Hex (λ w. hex) hex (negative q start) (size_under 18446744073709551615 (magnitude Form.Hex q start))
  number_sorted Form.Real start end = real_from_sorted (negative q start) (signed q start)

  word_sorted : (w : Reserved) → Sorted (word_sort w) (word_literal w)
  unfolding word_sort word_literal
  word_sorted And = refl
  word_sorted Any = refl
  word_sorted Every = refl
  word_sorted False = truth
  word_sorted Like = refl
  word_sorted Not = refl
  word_sorted Null = null
  word_sorted Or = refl
  word_sorted True = truth

  by_kind : (k : TokenKind) (start end : ℕ) → Sorted (sort_of k) (literal_by octets-asked q k start end)
  unfolding sort_of
  by_kind Kind.End start end = refl
  by_kind Kind.NoToken start end = refl
  by_kind Kind.Name start end = refl
  by_kind (Kind.Word w) start end = word_sorted w
  by_kind (Kind.Number f) start end = number_sorted f start end
  by_kind Kind.Text start end = text
  by_kind (Kind.Compare o) start end = refl
  by_kind (Kind.Symbol m) start end = refl

  pub sort_right : (t : Token) → Sorted (sort_of t.kind) (literal_of octets-asked q t)
  unfolding literal_of
  sort_right t = by_kind t.kind t.start t.end
