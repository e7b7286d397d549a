-- Beside one family the literals that fit go wrong in one way at most: those of a datetime are never out of range, and those of no other are malformed.
use Rattle.std.specs.Prelude.{None, Option, Some, Err, Ok, Result}
use Prim.Native.Nat.{ℕ}
use mathlib.Core.List.{List}
use mathlib.Core.Logic.{◌⊎◌, inl, inr}
use mathlib.Core.Bool.{Bool, true, false, false≢true}
use mathlib.Core.Path.{◌≡◌, refl}
use mathlib.Core.Option.{some}
use lib.ListN.{length}
use lib.Dec.{ltb}
use Rattle.record.specs.Kind.{same_row}
use Rattle.record.specs.declared.kind.Family.{Family}
use Rattle.record.specs.declared.kind.Family.TheVariants.{Boolean, Integer, Real, Text, Char16, Octets, Datetime, Reference}
use Rattle.string_literal.proofs.Bounds.{both_ways}
use Rattle.token.specs.declared.Token.{Token}
use Rattle.literal.specs.Literal.{literal_of}
use Rattle.literal.specs.Sort.{sort_of, unsigned_hex}
use Rattle.literal.specs.declared.sort.Sort.{Sort}
use Rattle.literal.specs.declared.Literal.{Literal}
use Rattle.literal.specs.declared.Literal.TheVariants as literal
use Rattle.literal.specs.declared.LiteralFault.TheVariants.{OutOfRange, NoLiteral}
use Rattle.literal.proofs.Sorts.{Sorted, Ranging, integer, hex, real, sort_right}
use Rattle.value_literal.specs.LiteralValue.{text_value, literal_value}
use Rattle.operand.specs.LiteralReading.{LiteralReading, misfit, out_of_range, malformed, reads, fits, no_datetime, read_decoded, read_fitting, read_literal}
use Rattle.literal.specs.declared.LiteralFault.{LiteralFault}

-- a property of what is read where nothing fits and of what is decoded is one of what is read
module _ (P : LiteralReading → Type 0) (f : Family) (q : List ℕ) (t : Token) (not-fitting : P misfit) where
  by_decoded : (fits f (unsigned_hex q t) (sort_of t.kind) ≡ true → P (read_decoded f q (literal_of (same_row f Octets) q t))) → P (read_literal f q t)
  unfolding read_literal
  by_decoded h =
      both_ways P (ltb (length q) t.start) misfit (read_fitting f q t) (λ e. not-fitting)
      (λ e. both_ways P (fits f (unsigned_hex q t) (sort_of t.kind)) (read_decoded f q (literal_of (same_row f Octets) q t)) misfit h (λ g. not-fitting))

abbrev InRange : LiteralReading → Type 0
InRange misfit = Unit
InRange out_of_range = ⊥
InRange malformed = Unit
InRange (reads v) = Unit

abbrev WellFormed : LiteralReading → Type 0
WellFormed misfit = Unit
WellFormed out_of_range = Unit
WellFormed malformed = ⊥
WellFormed (reads v) = Unit

-- no number fits a datetime
fits_no_number : (u : Bool) (s : Sort) → fits Datetime u (Some s) ≡ true → Ranging s → ⊥
unfolding fits
fits_no_number u s h integer = false≢true h
fits_no_number u s h hex = false≢true h
fits_no_number u s h real = false≢true h

datetime_in_range : (q : List ℕ) (u : Bool) (s : Option Sort) (d : Result Literal LiteralFault) → fits Datetime u s ≡ true → Sorted s d → InRange (read_decoded Datetime q d)
datetime_in_range q u s (Ok l) h o =
    both_ways InRange (no_datetime (literal_value Datetime q l)) malformed (reads (literal_value Datetime q l)) (λ e. tt) (λ e. tt)
datetime_in_range q u (Some s) (Err OutOfRange) h o = fits_no_number u s h o
datetime_in_range q u None (Err OutOfRange) h o = o
datetime_in_range q u s (Err NoLiteral) h o = tt

-- the literals of a family whose texts are no datetimes
module _ (f : Family) (others : (cs : List ℕ) → no_datetime (some (text_value f cs)) ≡ false) (q : List ℕ) where
  no_datetime_law : (l : Literal) → no_datetime (literal_value f q l) ≡ false
  unfolding no_datetime literal_value
  no_datetime_law (literal.Truth b) = refl
  no_datetime_law (literal.Integer n) = refl
  no_datetime_law (literal.Real x) = refl
  no_datetime_law (literal.Text start end) = others _
  no_datetime_law (literal.Octets start end) = refl
  no_datetime_law literal.Null = refl

  decoded_well_formed : (d : Result Literal LiteralFault) → WellFormed (read_decoded f q d)
  decoded_well_formed (Ok l) = rw (no_datetime_law l) tt
  decoded_well_formed (Err OutOfRange) = tt
  decoded_well_formed (Err NoLiteral) = tt

  never_malformed : (t : Token) → read_literal f q t ≡ malformed → ⊥
  never_malformed t e =
      let h : WellFormed (read_literal f q t) = by_decoded WellFormed f q t tt (λ g. decoded_well_formed (literal_of (same_row f Octets) q t)) in
      rw e at h

datetime_never_out : (q : List ℕ) (t : Token) → read_literal Datetime q t ≡ out_of_range → ⊥
datetime_never_out q t e =
    let h : InRange (read_literal Datetime q t) =
    by_decoded InRange Datetime q t tt
    (λ g. datetime_in_range q (unsigned_hex q t) (sort_of t.kind) (literal_of (same_row Datetime Octets) q t) g (sort_right (same_row Datetime Octets) q t)) in
    rw e at h

pub exclusive : (f : Family) (q : List ℕ) → ((t : Token) → read_literal f q t ≡ out_of_range → ⊥) ⊎ ((t : Token) → read_literal f q t ≡ malformed → ⊥)
unfolding no_datetime text_value
exclusive Boolean q = inr (never_malformed Boolean (λ cs. refl) q)
exclusive Integer q = inr (never_malformed Integer (λ cs. refl) q)
exclusive Real q = inr (never_malformed Real (λ cs. refl) q)
exclusive Text q = inr (never_malformed Text (λ cs. refl) q)
exclusive Char16 q = inr (never_malformed Char16 (λ cs. refl) q)
exclusive Octets q = inr (never_malformed Octets (λ cs. refl) q)
exclusive Datetime q = inl (datetime_never_out q)
exclusive Reference q = inr (never_malformed Reference (λ cs. refl) q)
