-- The query from left to right, as the code goes: with what its chains have come to so far (query_text/specs/Tree) and the steps so far. proofs/Steps shows that it
-- comes to the tree's truth and steps.
use Rattle.std.specs.Prelude.{ℕ, ◌+◌, ◌≡◌, Bool, true, false, ◌&&◌}
use Rattle.base.specs.Pick.{pick}
use Rattle.syntax.specs.declared.comparison.Comparison.{Comparison}
use Rattle.query_text.specs.Query.{Comparisons, only, more, Query, bad, good, last_join}
use Rattle.query_text.specs.Tree as tree
use Rattle.query_text.specs.Tree.{state, live, total, step}
use Rattle.short_circuit.specs.declared.Chains.{Chains}
use Rattle.short_circuit.specs.declared.Told.{Told}

-- the code's state as the definition's
abbrev pub state_of : Chains → tree.State
state_of c = state c.ors c.ands c.group_ors c.group_ands

abbrev pub told : Bool → ℕ → Told
told b n = record { holds = b; steps = n }

-- nothing has been judged
abbrev pub initial : tree.State
initial = state false true false true

-- the steps of a comparison, if it is judged
abbrev pub steps_if : Bool → ℕ → ℕ
steps_if judged n = pick judged n 0

unfoldable pub walk : (Comparison → Bool) → (Comparison → ℕ) → tree.State → (steps : ℕ) → Comparisons → Told
walk v n s k (only c) = told (total s (live s && v c)) (k + steps_if (live s) (n c))
walk v n s k (more c j r) = walk v n (step j s (live s && v c)) (k + steps_if (live s) (n c)) r

-- only the last comparison has nothing after it, as in every query of the grammar (proofs/Loop)
unfoldable pub Joined : Comparisons → Type 0
Joined (only c) = Unit
Joined (more c j r) = (last_join j ≡ false) × Joined r

-- of a text that is no query, nothing
unfoldable pub walk_query : (Comparison → Bool) → (Comparison → ℕ) → tree.State → (steps : ℕ) → Query → Told
walk_query v n s k (bad f) = told false 0
walk_query v n s k (good l) = walk v n s k l
