-- The properties that a query names are the table's, and each stands once among them.
use Prim.Native.Nat.{ℕ, ◌<◌}
use mathlib.Core.Path.{◌≡◌, refl}
use mathlib.Core.List.{List}
use mathlib.Core.Logic.{inl, inr}
use lib.ListN.{length}
use Rattle.table.specs.Properties.{kinds_of}
use Rattle.std.specs.Prelude.{None, Option, Some}
use Rattle.table.specs.declared.lookup.Property as lookup
use Rattle.table.specs.Properties.{found}
use Rattle.table.proofs.Find.{found_at}
use Rattle.syntax.specs.declared.path.Path.{Path}
use Rattle.syntax.specs.declared.right_side.RightSide.{RightSide}
use Rattle.syntax.specs.declared.right_side.RightSide.TheVariants.{Literal, Elements, Property, Pattern}
use Rattle.syntax.specs.declared.comparison.Comparison.{Comparison}
use Rattle.query_text.specs.Query.{Comparisons, only, more}
use Rattle.operand.specs.Named.{named}
use Rattle.filter.specs.Refusal.{Call, refused, compares, call_of}
use Rattle.invariance.specs.NamedProperties.{property_of, named_right, named_by, named_in, named_call, named_properties, Member, Once}
use Rattle.judge.proofs.Named.{named_found}
use Rattle.invariance.proofs.Members.{all_joined, distinct_member, distinct_once}

module _ (q t : List ℕ) where
  path_within : (p : Path) (n k : ℕ) → named q t p ≡ found n k → n < length (kinds_of t)
  path_within p n k e = let f = named_found q t p n k e in (found_at t f.name n k f.is).within

  property_within : (p : Path) (n : ℕ) → Member n (property_of (named q t p)) → n < length (kinds_of t)
  property_within p n h = go (named q t p) refl h
    where
      go : (x : Option lookup.Property) → named q t p ≡ x → Member n (property_of x) → n < length (kinds_of t)
      go (Some x) e (inl d) = rw d (path_within p x.number x.kind e)
      go (Some x) e (inr w) = elim w [ ]
      go None e w = absurd w

  right_within : (r : RightSide) (n : ℕ) → Member n (named_right q t r) → n < length (kinds_of t)
  right_within (Literal x) n h = absurd h
  right_within (Elements start count end) n h = absurd h
  right_within (Property p i) n h = property_within p n h
  right_within (Pattern x) n h = absurd h

  comparison_within : (c : Comparison) (n : ℕ) → Member n (named_by q t c) → n < length (kinds_of t)
  unfolding named_by
  comparison_within c =
      all_joined (λ n. n < length (kinds_of t)) (property_of (named q t c.left.path)) (named_right q t c.right) (property_within c.left.path) (right_within c.right)

  comparisons_within : (l : Comparisons) (n : ℕ) → Member n (named_in q t l) → n < length (kinds_of t)
  unfolding named_in
  comparisons_within (only c) = comparison_within c
  comparisons_within (more c j r) = all_joined (λ n. n < length (kinds_of t)) (named_by q t c) (named_in q t r) (comparison_within c) (comparisons_within r)

  pub named_within : (n : ℕ) → Member n (named_properties q t) → n < length (kinds_of t)
  unfolding named_properties
  named_within n h = go (call_of q t) h
    where
      go : (x : Call) → Member n (named_call q t x) → n < length (kinds_of t)
      go (refused c p) w = absurd w
      go (compares l) w = comparisons_within l n (distinct_member n (named_in q t l) w)

  pub named_once : Once (named_properties q t)
  unfolding named_properties Once
  named_once = go (call_of q t)
    where
      go : (x : Call) → Once (named_call q t x)
      go (refused c p) = tt
      go (compares l) = distinct_once (named_in q t l)
