-- The order of two spans, one law for each exit of the code, which compares their ends as numbers of 64 bits.
use mathlib.Core.Path.{◌≡◌, refl, sym}
use mathlib.Core.Bool.{Bool, true, false, not, ◌&&◌}
use lib.IntN.{ℤ}
use Rattle.std.specs.Ordering.{int_eq, is_eq}
use Rattle.std.proofs.Common.{cond, Less, Equal, Greater}
use lib.Signed.{lt_z}
use mir.Syntax.{w64}
use mir.Val.{to_z, of_z, SFits}
use mir.Facts.{to_z-of_z}
use Rattle.base.specs.declared.order.Order.TheVariants.{Before, Same, After, Undecided}
use Rattle.datetime.specs.Order.{same_whole, order_of_spans}
use Rattle.datetime.specs.declared.Span.{Span}

abbrev pub Fits : Span → Type 0
Fits x = SFits w64 x.lowest × SFits w64 x.highest

-- a number as the code hands it on
abbrev pub passed : ℤ → ℤ
passed z = to_z w64 (of_z w64 z)

-- equal numbers, as the derived test tells them, are those of which neither is less
same_as_equal : (m n : ℤ) → int_eq m n ≡ same_whole m n
same_as_equal m n = told (lt_z m n) (lt_z n m)
  where
    told : (p q : Bool) → is_eq (cond p Less (cond q Greater Equal)) ≡ (not p && not q)
    told true q = refl
    told false true = refl
    told false false = refl

module _ (a b : Span) (f : Fits a) (g : Fits b) where
  before : {p : Bool} → lt_z (passed a.highest) (passed b.lowest) ≡ p → lt_z a.highest b.lowest ≡ p
  before h = rw (to_z-of_z f.1, to_z-of_z g.0) at h

  after : {p : Bool} → lt_z (passed b.highest) (passed a.lowest) ≡ p → lt_z b.highest a.lowest ≡ p
  after h = rw (to_z-of_z g.1, to_z-of_z f.0) at h

  pub spans_before : lt_z (passed a.highest) (passed b.lowest) ≡ true → Before ≡ order_of_spans a b
  unfolding order_of_spans
  spans_before h = rw (before h)

  module _ (left : lt_z (passed a.highest) (passed b.lowest) ≡ false) where
    pub spans_after : lt_z (passed b.highest) (passed a.lowest) ≡ true → After ≡ order_of_spans a b
    unfolding order_of_spans
    spans_after h = rw (before left, after h)

    module _ (stays : lt_z (passed b.highest) (passed a.lowest) ≡ false) {p : Bool} (equal : p ≡ (int_eq a.lowest b.lowest && int_eq a.highest b.highest)) where
      ends : (same_whole a.lowest b.lowest && same_whole a.highest b.highest) ≡ p
      ends = rw (← same_as_equal a.lowest b.lowest, ← same_as_equal a.highest b.highest) (sym equal)

      pub spans_same : p ≡ true → Same ≡ order_of_spans a b
      unfolding order_of_spans
      spans_same h = rw (before left, after stays, ends, h)

      pub spans_undecided : p ≡ false → Undecided ≡ order_of_spans a b
      unfolding order_of_spans
      spans_undecided h = rw (before left, after stays, ends, h)
