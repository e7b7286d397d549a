-- Two environments that agree on the properties that a query's comparisons name: the query means the same in both and takes as many steps.
use Prim.Native.Nat.{ℕ, ◌+◌}
use mathlib.Core.Path.{◌≡◌, refl, sym, ap, ap₂, ◌∙◌}
use mathlib.Core.List.{List}
use mathlib.Core.Bool.{◌&&◌}
use mathlib.Core.Logic.{inl}
use Rattle.std.specs.Prelude.{None, Option, Some}
use Rattle.table.specs.declared.lookup.Property as lookup
use Rattle.instance.specs.Value.{Entry}
use Rattle.syntax.specs.declared.path.Path.{Path}
use Rattle.syntax.specs.declared.right_side.RightSide.{RightSide}
use Rattle.syntax.specs.declared.right_side.RightSide.TheVariants.{Literal, Elements, Property, Pattern}
use Rattle.syntax.specs.declared.comparison.Comparison.{Comparison}
use Rattle.query_text.specs.Query.{Comparisons, only, more}
use Rattle.query_text.specs.Tree.{tree, holds, State, live, total, step}
use Rattle.short_circuit.specs.declared.Told.{Told}
use Rattle.short_circuit.specs.Walk.{told, initial, steps_if, walk, Joined}
use Rattle.short_circuit.proofs.Steps.{walk_right}
use Rattle.operand.specs.Named.{named}
use Rattle.judge.specs.Meaning.{Meant, meaning}
use Rattle.judge.specs.Environment.{entry_found}
use Rattle.filter.specs.Meaning.{truth_of, steps_of, QueryMeaning, truthful, failure, unless_failing, query_meaning, query_steps}
use Rattle.invariance.specs.NamedProperties.{Member, property_of, named_right, named_by, named_in}
use Rattle.invariance.proofs.Alike.{EntriesAlike, neither, entries_same, RightAlike, meaning_alike}
use Rattle.invariance.proofs.Members.{member_left, member_right}

-- ---- comparisons that each mean the same
module _ (m o : Comparison → Meant) where
  unfoldable Each : Comparisons → Type 0
  Each (only c) = m c ≡ o c
  Each (more c j r) = (m c ≡ o c) × Each r

  failing_same : (l : Comparisons) (w : QueryMeaning) → Each l → unless_failing m l w ≡ unless_failing o l w
  unfolding unless_failing Each
  failing_same (only c) w h = ap (λ (x : Meant). failure x w) h
  failing_same (more c j r) w h = ap₂ (λ (x : Meant) (y : QueryMeaning). failure x y) h.0 (failing_same r w h.1)

  -- along the text, since the tree has no list of the comparisons in it
  walk_same : (s : State) (k : ℕ) (l : Comparisons) → Each l
      → walk (λ c. truth_of (m c)) (λ c. steps_of (m c)) s k l ≡ walk (λ c. truth_of (o c)) (λ c. steps_of (o c)) s k l
  unfolding walk Each
  walk_same s k (only c) h = ap (λ (x : Meant). told (total s (live s && truth_of x)) (k + steps_if (live s) (steps_of x))) h
  walk_same s k (more c j r) h =
      ap (λ (x : Meant). walk (λ c. truth_of (m c)) (λ c. steps_of (m c)) (step j s (live s && truth_of x)) (k + steps_if (live s) (steps_of x)) r) h.0
      ∙ walk_same (step j s (live s && truth_of (o c))) (k + steps_if (live s) (steps_of (o c))) r h.1

  module _ (l : Comparisons) (e : Joined l) (h : Each l) where
    told_same : told (holds (λ c. truth_of (m c)) (tree l)) (query_steps m l) ≡ told (holds (λ c. truth_of (o c)) (tree l)) (query_steps o l)
    unfolding query_steps
    told_same = sym (walk_right _ _ l e) ∙ walk_same initial 0 l h ∙ walk_right _ _ l e

    steps_each : query_steps m l ≡ query_steps o l
    steps_each = ap (λ (x : Told). x.steps) told_same

    meaning_each : query_meaning m l ≡ query_meaning o l
    unfolding query_meaning
    meaning_each =
        ap (λ (x : Told). unless_failing m l (truthful x.holds)) told_same
        ∙ failing_same l (truthful (holds (λ c. truth_of (o c)) (tree l))) h

-- ---- environments that agree on what is named
module _ (q t : List ℕ) (env other : ℕ → Entry) where
  abbrev Agree : (numbers : List ℕ) → Type 0
  Agree ns = (n : ℕ) → Member n ns → env n ≡ other n

  entry_agrees : (x : Option lookup.Property) → Agree (property_of x) → EntriesAlike (entry_found env x) (entry_found other x)
  entry_agrees (Some x) h = rw (h x.number (inl refl)) (entries_same (other x.number))
  entry_agrees None h = neither

  abbrev under : (ℕ → Entry) → Path → Entry
  under e p = entry_found e (named q t p)

  right_agrees : (r : RightSide) → Agree (named_right q t r) → RightAlike (under env) (under other) r
  right_agrees (Literal x) h = tt
  right_agrees (Elements start count end) h = tt
  right_agrees (Property p i) h = entry_agrees (named q t p) h
  right_agrees (Pattern x) h = tt

  comparison_agrees : (c : Comparison) → Agree (named_by q t c) → meaning q (under env) c ≡ meaning q (under other) c
  unfolding named_by
  comparison_agrees c h =
      let left = property_of (named q t c.left.path) in
      meaning_alike q (under env) (under other) c
      (right_agrees c.right (λ n w. h n (member_right n left _ w)))
      (entry_agrees (named q t c.left.path) (λ n w. h n (member_left n left _ w)))

  each_agrees : (l : Comparisons) → Agree (named_in q t l) → Each (meaning q (under env)) (meaning q (under other)) l
  unfolding named_in Each
  each_agrees (only c) h = comparison_agrees c h
  each_agrees (more c j r) h =
      (comparison_agrees c (λ n w. h n (member_left n (named_by q t c) _ w)), each_agrees r (λ n w. h n (member_right n (named_by q t c) _ w)))

  module _ (l : Comparisons) (e : Joined l) (h : Agree (named_in q t l)) where
    pub meaning_same : query_meaning (meaning q (under env)) l ≡ query_meaning (meaning q (under other)) l
    meaning_same = meaning_each (meaning q (under env)) (meaning q (under other)) l e (each_agrees l h)

    pub steps_same : query_steps (meaning q (under env)) l ≡ query_steps (meaning q (under other)) l
    steps_same = steps_each (meaning q (under env)) (meaning q (under other)) l e (each_agrees l h)
