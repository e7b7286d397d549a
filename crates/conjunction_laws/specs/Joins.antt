-- 02 Q-7, of the text that two queries are made into.
use Rattle.std.specs.Prelude.{ℕ, ◌≤◌, ◌<◌, ◌≡◌, List, ◌&&◌, length, take, drop, Ok}
use Rattle.instance.specs.Conforms.{Conforms}
use Rattle.syntax.specs.Scan.{scan}
use Rattle.query_text.specs.Query.{Query, query_start, query_from}
use Rattle.filter.specs.Check.{check}
use Rattle.filter.specs.Evaluate.{evaluate}
use Rattle.conjunction.specs.Conjunction.{conjunction, comparisons, comparisons_of}
use Rattle.conjunction.specs.Conjoin.{buffer_after}
use Rattle.run.specs.Totals.{is_included}

-- "What is written is accepted by the check against the same table and holds exactly where both do."
pub record Joins (q p table : List ℕ) : Type 0 where
  pub accepted : check (conjunction q p) table ≡ Ok tt
  pub includes : (i : List ℕ) → Conforms table i → is_included (evaluate (conjunction q p) table i) ≡ (is_included (evaluate q table i) && is_included (evaluate p table i))

-- a text as a query of at most so many comparisons; `query` has 64
abbrev pub query_within : (limit : ℕ) (text : List ℕ) → Query
query_within n q = query_from n (scan q) (query_start (scan q)).grouped (query_start (scan q)).token

-- "43 when the result would have over 64 comparisons": it has as many as `comparisons_of` says, and is no query where fewer are allowed
pub record Counts (q p : List ℕ) : Type 0 where
  pub enough : (limit : ℕ) → comparisons_of q p ≤ limit → comparisons (query_within limit (conjunction q p)) ≡ comparisons_of q p
  pub too_few : (limit : ℕ) → limit < comparisons_of q p → comparisons (query_within limit (conjunction q p)) ≡ 0

-- "The text goes into a lent buffer, bytes beyond it untouched, and its length is returned": what conjoin leaves in a buffer where it returns a length
pub record Leaves (q p table buffer : List ℕ) (returned : ℕ) : Type 0 where
  pub joins : Joins q p table
  pub measured : returned ≡ length (conjunction q p)
  pub room : returned ≤ length buffer
  pub text : take returned (buffer_after q p table buffer) ≡ conjunction q p
  pub beyond : drop returned (buffer_after q p table buffer) ≡ drop returned buffer
