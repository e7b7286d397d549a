-- 01 "Meaning" and "Steps", of a whole query: `m` is what each of its comparisons means. "A query fails if any of its comparisons does, skipped ones included."
-- "AND binds before OR, in a group and between groups": query_text/specs/Tree.
use Rattle.std.specs.Prelude.{ℕ, ◌+◌, Bool, false}
use Rattle.syntax.specs.declared.comparison.Comparison.{Comparison}
use Rattle.query_text.specs.Query.{Comparisons, only, more}
use Rattle.query_text.specs.Tree.{tree, holds}
use Rattle.short_circuit.specs.Count.{tree_steps, sum_of}
use Rattle.operand.specs.declared.cause.Cause.{Cause}
use Rattle.predicate.specs.Test.{truth, steps, reads}
use Rattle.judge.specs.Meaning.{Meant, fails, means}

-- of a comparison that doesn't fail: its truth, its steps if it is judged, what it reads
unfoldable pub truth_of : Meant → Bool
truth_of (fails c p) = false
truth_of (means x) = truth x

unfoldable pub steps_of : Meant → ℕ
steps_of (fails c p) = 0
steps_of (means x) = steps x

unfoldable pub reads_of : Meant → ℕ
reads_of (fails c p) = 0
reads_of (means x) = reads x

-- a query fails, with cause and place, or is true or false
pub data QueryMeaning : Type 0 where
  failing : Cause → (place : ℕ) → QueryMeaning
  truthful : Bool → QueryMeaning

-- the first comparison that fails, if there is one
abbrev pub failure : Meant → QueryMeaning → QueryMeaning
failure (fails c p) w = failing c p
failure (means x) w = w

unfoldable pub unless_failing : (Comparison → Meant) → Comparisons → QueryMeaning → QueryMeaning
unless_failing m (only c) w = failure (m c) w
unless_failing m (more c j r) w = failure (m c) (unless_failing m r w)

unfoldable pub query_meaning : (Comparison → Meant) → Comparisons → QueryMeaning
query_meaning m l = unless_failing m l (truthful (holds (λ c. truth_of (m c)) (tree l)))

-- "The rest of an AND chain is skipped after a false part, the rest of an OR after a true one"
unfoldable pub query_steps : (Comparison → Meant) → Comparisons → ℕ
query_steps m l = tree_steps (λ c. truth_of (m c)) (λ c. steps_of (m c)) (tree l)

-- demand 3's bound: one and what it reads for each comparison; "skipped ones are summed too"
unfoldable pub query_bound : (Comparison → Meant) → Comparisons → ℕ
query_bound m l = sum_of (λ c. 1 + reads_of (m c)) l
