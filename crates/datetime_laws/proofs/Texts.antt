-- Two texts compared: what 02 Q-6 says of two timestamps and of two intervals, the other way round, a timestamp beside an interval, and a text with a star beside one
-- without.
use Prim.Native.Nat.{ℕ, ◌<◌}
use mathlib.Core.Path.{◌≡◌, refl, sym, ap, ◌∙◌, subst}
use mathlib.Core.List.{List}
use mathlib.Core.Logic.{◌⊎◌, inl, inr}
use native.Mathlib.Nat.{eq-or-lt_of_le}
use lib.IntN.{ℤ}
use lib.Signed.{◌<ℤ◌, ◌≤ℤ◌, ≤ℤ_refl, clash_ℤ}
use Rattle.base.specs.Part.{byte_at}
use Rattle.base.specs.Order.{holds}
use Rattle.base.specs.declared.order.Order.TheVariants.{Same, Undecided}
use Rattle.base.specs.declared.order.Operator.{Operator}
use Rattle.base.specs.declared.order.Operator.TheVariants.{Equal}
use Rattle.base.proofs.Says.{Says, apart}
use Rattle.datetime.specs.Exact.{Exact, timestamp, interval, malformed, exact_of}
use Rattle.datetime.specs.Unknown.{known, Starless}
use Rattle.datetime.specs.Datetime.{datetime_of}
use Rattle.datetime.specs.Order.{order_of_spans, order_of_datetimes}
use Rattle.datetime.specs.declared.Span.{Span}
use Rattle.datetime.specs.declared.Datetime.{Datetime}
use Rattle.datetime.specs.declared.Datetime.TheVariants.{Timestamp, Interval, Malformed}
use Rattle.datetime.proofs.Known.{all_known, known_most}
use Rattle.datetime_laws.specs.Relation.{InOrder, SpansRelate, reversed, Ordered, Apart}
use Rattle.datetime_laws.specs.Point.{point, pointed}
use Rattle.datetime_laws.proofs.Relate.{spans_hold, same_exactly}
use Rattle.datetime_laws.proofs.Mirror.{mirror}
use Rattle.datetime_laws.proofs.Starless.{without_stars}
use Rattle.datetime_laws.proofs.Spans.{span_ordered, span_apart}

module _ (s r : List ℕ) (a b : Span) where
  pub timestamps_hold : datetime_of s ≡ Timestamp a → datetime_of r ≡ Timestamp b → (op : Operator) → Says (holds op (order_of_datetimes (datetime_of s) (datetime_of r))) (SpansRelate op a b)
  timestamps_hold e f op =
      let u : InOrder a = subst Ordered e (span_ordered s) in
      let v : InOrder b = subst Ordered f (span_ordered r) in
      rw (e, f) (spans_hold a b u v op)

  pub intervals_hold : datetime_of s ≡ Interval a → datetime_of r ≡ Interval b → (op : Operator) → Says (holds op (order_of_datetimes (datetime_of s) (datetime_of r))) (SpansRelate op a b)
  intervals_hold e f op =
      let u : InOrder a = subst Ordered e (span_ordered s) in
      let v : InOrder b = subst Ordered f (span_ordered r) in
      rw (e, f) (spans_hold a b u v op)

pub texts_mirror : (s r : List ℕ) → order_of_datetimes (datetime_of r) (datetime_of s) ≡ reversed (order_of_datetimes (datetime_of s) (datetime_of r))
texts_mirror s r = go (datetime_of s) (datetime_of r) (span_ordered s) (span_ordered r)
  where
    go : (d e : Datetime) → Ordered d → Ordered e → order_of_datetimes e d ≡ reversed (order_of_datetimes d e)
    go (Timestamp a) (Timestamp b) u v = mirror a b u v
    go (Timestamp a) (Interval b) u v = refl
    go (Timestamp a) Malformed u v = refl
    go (Interval a) (Timestamp b) u v = refl
    go (Interval a) (Interval b) u v = mirror a b u v
    go (Interval a) Malformed u v = refl
    go Malformed (Timestamp b) u v = refl
    go Malformed (Interval b) u v = refl
    go Malformed Malformed u v = refl

-- either way round
pub mixed_undecided : (a b : Span) → (order_of_datetimes (Timestamp a) (Interval b) ≡ Undecided) × (order_of_datetimes (Interval b) (Timestamp a) ≡ Undecided)
mixed_undecided a b = (refl, refl)

-- ---- a text with a star never equals one without
star_unknown : (s : List ℕ) (i : ℕ) → i < 21 → byte_at s i ≡ 42 → known s < 21
star_unknown s i h e = go (eq-or-lt_of_le (known_most s))
  where
    go : (known s ≡ 21) ⊎ (known s < 21) → known s < 21
    go (inl f) = absurd ((all_known s).0 f i h e)
    go (inr l) = l

never_one : (a : Span) (m : ℤ) → a.lowest <ℤ a.highest → InOrder a → order_of_spans a (point m) ≡ Same → ⊥
never_one a m h u e =
    let z = (same_exactly a (point m) u (≤ℤ_refl m)).0 e in
    clash_ℤ h (subst (λ (i : ℤ). a.highest ≤ℤ i) (z.1 ∙ sym z.0) (≤ℤ_refl a.highest))

differs : Undecided ≡ Same → ⊥
differs e = apart (ap (holds Equal) e)

pub starred_apart : (s r : List ℕ) (i : ℕ) → i < 21 → byte_at s i ≡ 42 → Starless r → order_of_datetimes (datetime_of s) (datetime_of r) ≡ Same → ⊥
starred_apart s r i h e k f = go (datetime_of s) (exact_of r) (span_ordered s) (span_apart s (star_unknown s i h e)) (rw (without_stars r k) at f)
  where
    go : (d : Datetime) (x : Exact) → Ordered d → Apart d → order_of_datetimes d (pointed x) ≡ Same → ⊥
    go (Timestamp a) (timestamp m) u l g = never_one a m l u g
    go (Timestamp a) (interval m) u l g = differs g
    go (Timestamp a) malformed u l g = differs g
    go (Interval a) (timestamp m) u l g = differs g
    go (Interval a) (interval m) u l g = never_one a m l u g
    go (Interval a) malformed u l g = differs g
    go Malformed x u l g = differs g
