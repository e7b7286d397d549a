-- What a comparison means depends on its environment only at the paths that it names, and there only on the shape and the family of the kind and on the value.
use Rattle.std.specs.Prelude.{Option}
use Prim.Native.Nat.{ℕ}
use mathlib.Core.Path.{◌≡◌, refl, ap, ◌∙◌}
use mathlib.Core.List.{List}
use Rattle.record.specs.Kind.{kind_of, same_row}
use Rattle.record.specs.declared.kind.Family.{Family}
use Rattle.record.specs.declared.kind.ValueType.{ValueType}
use Rattle.record.specs.declared.kind.Kind.{Kind}
use Rattle.record.specs.declared.kind.Kind.TheVariants.{Unknown, Scalar, Array}
use Rattle.syntax.specs.declared.path.Path.{Path}
use Rattle.syntax.specs.declared.right_side.RightSide.{RightSide}
use Rattle.syntax.specs.declared.right_side.RightSide.TheVariants.{Literal, Elements, Property, Pattern}
use Rattle.syntax.specs.declared.comparison.Comparison.{Comparison}
use Rattle.instance.specs.Value.{Value, Entry, absent, property}
use Rattle.judge.specs.Meaning.{as_scalar, as_array, Left, left_scalar, left_array, right_scalar, right_array, right_kind, right_property, right_of, meet, meant_by, meant_as, meaning}
use Rattle.token.specs.declared.Token.{Token}

-- kinds of one shape and one family, whatever their numbers, widths and signs
pub data KindsAlike : Kind → Kind → Type 0 where
  unknown : KindsAlike Unknown Unknown
  scalars : {a b : ValueType} → a.family ≡ b.family → KindsAlike (Scalar a) (Scalar b)
  arrays : {e f : ℕ} {a b : ValueType} → a.family ≡ b.family → KindsAlike (Array e a) (Array f b)

pub data EntriesAlike : Entry → Entry → Type 0 where
  neither : EntriesAlike absent absent
  properties : {k l : ℕ} {v : Value} → KindsAlike (kind_of k) (kind_of l) → EntriesAlike (property k v) (property l v)

abbrev pub RightAlike : (env other : Path → Entry) → RightSide → Type 0
RightAlike env other (Literal x) = Unit
RightAlike env other (Elements start count end) = Unit
RightAlike env other (Property p i) = EntriesAlike (env p) (other p)
RightAlike env other (Pattern x) = Unit

pub kinds_same : (k : Kind) → KindsAlike k k
kinds_same Unknown = unknown
kinds_same (Scalar t) = scalars refl
kinds_same (Array e t) = arrays refl

pub entries_same : (x : Entry) → EntriesAlike x x
entries_same absent = neither
entries_same (property k v) = properties (kinds_same (kind_of k))

module _ (f : Family) (q : List ℕ) (place : ℕ) (i : Option Token) where
  right_kind_law : {k l : Kind} (v : Value) → KindsAlike k l → right_kind f q place i k v ≡ right_kind f q place i l v
  unfolding right_kind
  right_kind_law v unknown = refl
  right_kind_law v (scalars h) = ap (λ (g : Family). right_scalar (same_row f g) i (as_scalar v)) h
  right_kind_law v (arrays h) = ap (λ (g : Family). right_array q (same_row f g) i (as_array v)) h

  right_entry : {x y : Entry} → EntriesAlike x y → right_property f q place i x ≡ right_property f q place i y
  unfolding right_property
  right_entry neither = refl
  right_entry (properties {v = v} h) = right_kind_law v h

module _ (q : List ℕ) (env other : Path → Entry) where
  right_alike : (f : Family) (r : RightSide) → RightAlike env other r → right_of f q env r ≡ right_of f q other r
  unfolding right_of
  right_alike f (Literal x) h = refl
  right_alike f (Elements start count end) h = refl
  right_alike f (Property p i) h = right_entry f q p.first.start i h
  right_alike f (Pattern x) h = refl

  module _ (c : Comparison) (right : RightAlike env other c.right) where
    met : {f g : Family} → f ≡ g → (l : Left) → meet c.left c.operation f l (right_of f q env c.right) ≡ meet c.left c.operation g l (right_of g q other c.right)
    met {f} {g} e l =
        ap (meet c.left c.operation f l) (right_alike f c.right right)
        ∙ ap (λ (x : Family). meet c.left c.operation x l (right_of x q other c.right)) e

    by_kind : {k l : Kind} (v : Value) → KindsAlike k l → meant_by q env c k v ≡ meant_by q other c l v
    unfolding meant_by
    by_kind v unknown = refl
    by_kind v (scalars h) = met h (left_scalar c.left.quantifier c.left.index (as_scalar v))
    by_kind v (arrays h) = met h (left_array q c.left.quantifier c.left.index (as_array v))

    by_entry : {x y : Entry} → EntriesAlike x y → meant_as q env c x ≡ meant_as q other c y
    unfolding meant_as
    by_entry neither = refl
    by_entry (properties {v = v} h) = by_kind v h

    pub meaning_alike : EntriesAlike (env c.left.path) (other c.left.path) → meaning q env c ≡ meaning q other c
    unfolding meaning
    meaning_alike h = by_entry h
