-- 01 "Steps": "A comparison that is judged counts 1"; "The rest of an AND chain is skipped after a false part, the rest of an OR after a true one." Over the tree of
-- query_text/specs/Tree, which binds AND before OR in a group and between groups; `v` is what a comparison comes to, `n` the steps that it counts if it is judged.
use Rattle.std.specs.Prelude.{ℕ, ◌+◌, Bool}
use Rattle.base.specs.Pick.{pick}
use Rattle.syntax.specs.declared.comparison.Comparison.{Comparison}
use Rattle.query_text.specs.Query.{Comparisons, only, more}
use Rattle.query_text.specs.Tree.{Chain, one, then, Tree, every, some}

-- the steps of an AND chain and of an OR chain, whose parts come to v and count n
unfoldable pub every_steps : {A : Type 0} → (A → Bool) → (A → ℕ) → Chain A → ℕ
every_steps v n (one a) = n a
every_steps v n (then a r) = n a + pick (v a) (every_steps v n r) 0

unfoldable pub some_steps : {A : Type 0} → (A → Bool) → (A → ℕ) → Chain A → ℕ
some_steps v n (one a) = n a
some_steps v n (then a r) = n a + pick (v a) 0 (some_steps v n r)

-- the steps of a query
unfoldable pub tree_steps : (Comparison → Bool) → (Comparison → ℕ) → Tree → ℕ
tree_steps v n t = some_steps (every (some (every v))) (every_steps (some (every v)) (some_steps (every v) (every_steps v n))) t

-- a sum over all comparisons of a query, skipped ones included
unfoldable pub sum_of : (Comparison → ℕ) → Comparisons → ℕ
sum_of n (only c) = n c
sum_of n (more c j r) = n c + sum_of n r
