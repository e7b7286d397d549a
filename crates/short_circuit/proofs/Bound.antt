-- A query's steps are at most those of all of its comparisons.
use Prim.Native.Nat.{ℕ, ◌+◌, ◌≤◌}
use mathlib.Core.Path.{◌≡◌, refl, ap}
use mathlib.Core.Bool.{Bool, true, false, ◌&&◌}
use native.Mathlib.Omega.{arith}
use Rattle.syntax.specs.declared.comparison.Comparison.{Comparison}
use Rattle.query_text.specs.declared.join.Join.{Join}
use Rattle.query_text.specs.declared.join.Join.TheVariants.{Last, Inner, Outer}
use Rattle.query_text.specs.Query.{Comparisons, only, more, last_join}
use Rattle.query_text.specs.Tree.{Tree, tree, join, State, live, step}
use Rattle.short_circuit.specs.declared.Told.{Told}
use Rattle.short_circuit.specs.Count.{tree_steps, sum_of}
use Rattle.short_circuit.specs.Walk.{initial, steps_if}
use Rattle.short_circuit.proofs.Rest.{add, rest_of, rest_last, rest_more, rest_all}

steps_if_law : (b : Bool) (k : ℕ) → steps_if b k ≤ k
steps_if_law true k = omega arith
steps_if_law false k = omega arith

module _ (v : Comparison → Bool) (n m : Comparison → ℕ) (e : (c : Comparison) → n c ≤ m c) where
  below_more : (s : State) (c : Comparison) (j : Join) (t : Tree) (k : ℕ) → ((x : State) → (rest_of v n x t).steps ≤ k) → last_join j ≡ false
      → (rest_of v n s (join c j t)).steps ≤ m c + k
  unfolding add
  below_more s c j t k h f =
      omega (arith, e c, steps_if_law (live s) (n c), h (step j s (live s && v c)), ap (λ (x : Told). x.steps) (rest_more v n c s j t f))

  below : (l : Comparisons) (s : State) → (rest_of v n s (tree l)).steps ≤ sum_of m l
  unfolding add tree sum_of
  below (only c) s = omega (arith, e c, steps_if_law (live s) (n c), ap (λ (x : Told). x.steps) (rest_last v n c s))
  below (more c Last r) s = omega (arith, below r s)
  below (more c (Inner o) r) s = below_more s c (Inner o) (tree r) (sum_of m r) (below r) refl
  below (more c (Outer o) r) s = below_more s c (Outer o) (tree r) (sum_of m r) (below r) refl

  pub steps_below : (l : Comparisons) → tree_steps v n (tree l) ≤ sum_of m l
  steps_below l = omega (arith, below l initial, ap (λ (x : Told). x.steps) (rest_all v n (tree l)))
