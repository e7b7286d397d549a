-- The walk from left to right comes to the tree's truth and steps.
use Prim.Native.Nat.{ℕ, ◌+◌}
use mathlib.Core.Path.{◌≡◌, sym, ap, ap₂, ◌∙◌, fun_ext}
use mathlib.Core.Bool.{Bool, ◌&&◌}
use native.Mathlib.Omega.{arith}
use Rattle.syntax.specs.declared.comparison.Comparison.{Comparison}
use Rattle.query_text.specs.Query.{Comparisons, only, more, Query}
use Rattle.query_text.specs.Tree.{Tree, tree, holds, State, live, total, step}
use Rattle.short_circuit.specs.Count.{tree_steps}
use Rattle.short_circuit.specs.Walk.{told, initial, steps_if, walk, Joined, walk_query}
use Rattle.short_circuit.proofs.Rest.{add, add_zero, add_add, rest_of, rest_last, rest_more, rest_all}

module _ (v : Comparison → Bool) (n : Comparison → ℕ) where
  walk_rest : (s : State) (k : ℕ) (l : Comparisons) → Joined l → walk v n s k l ≡ add k (rest_of v n s (tree l))
  unfolding walk Joined tree add
  walk_rest s k (only c) e = ap (told (total s (live s && v c))) (omega arith) ∙ ap (add k) (sym (rest_last v n c s))
  walk_rest s k (more c j r) e =
      walk_rest (step j s (live s && v c)) (k + steps_if (live s) (n c)) r e.1
      ∙ add_add k (steps_if (live s) (n c)) _
      ∙ ap (add k) (sym (rest_more v n c s j (tree r) e.0))

  pub walk_right : (l : Comparisons) → Joined l → walk v n initial 0 l ≡ told (holds v (tree l)) (tree_steps v n (tree l))
  walk_right l e = walk_rest initial 0 l e ∙ sym (add_zero _) ∙ rest_all v n (tree l)

-- what comparisons come to and count is all that matters
module _ {v w : Comparison → Bool} (e : (c : Comparison) → v c ≡ w c) where
  pub holds_cong : (t : Tree) → holds v t ≡ holds w t
  holds_cong t = ap (λ (x : Comparison → Bool). holds x t) (fun_ext e)

  module _ {n m : Comparison → ℕ} (f : (c : Comparison) → n c ≡ m c) where
    pub steps_cong : (t : Tree) → tree_steps v n t ≡ tree_steps w m t
    steps_cong t = ap₂ (λ (x : Comparison → Bool) (y : Comparison → ℕ). tree_steps x y t) (fun_ext e) (fun_ext f)

    pub walk_cong : (s : State) (k : ℕ) (l : Comparisons) → walk v n s k l ≡ walk w m s k l
    walk_cong s k l = ap₂ (λ (x : Comparison → Bool) (y : Comparison → ℕ). walk x y s k l) (fun_ext e) (fun_ext f)

    pub walk_query_cong : (s : State) (k : ℕ) (r : Query) → walk_query v n s k r ≡ walk_query w m s k r
    walk_query_cong s k r = ap₂ (λ (x : Comparison → Bool) (y : Comparison → ℕ). walk_query x y s k r) (fun_ext e) (fun_ext f)
