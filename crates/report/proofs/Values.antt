-- The numbers in a line are small: refusal numbers, and the steps of 64 comparisons that each read at most their instance.
use Rattle.std.specs.Prelude.{Err, Ok, Result}
use Prim.Native.Nat.{ℕ, zero, suc, ◌+◌, ◌*◌, ◌≤◌}
use mathlib.Core.List.{List}
use mathlib.Core.Bool.{Bool, true, false}
use mathlib.Core.Path.{◌≡◌, refl}
use native.Mathlib.Omega.{arith}
use lib.ListN.{length}
use Rattle.table.specs.Table.{Reading, table_reading}
use Rattle.table.specs.declared.validate.TableFault.TheVariants as table
use Rattle.instance.specs.Fault.{Conformity, conformity}
use Rattle.instance.specs.declared.conform.InstanceFault.TheVariants as instance
use Rattle.token.specs.declared.Token.{Token}
use Rattle.syntax.specs.declared.comparison.Comparison.{Comparison}
use Rattle.syntax.specs.declared.fault.Cause.TheVariants as text
use Rattle.syntax.specs.declared.fault.Fault.{Fault}
use Rattle.syntax.specs.Scan.{Scan, scan}
use Rattle.query_text.specs.declared.join.Join.{Join}
use Rattle.query_text.specs.Query.{Comparisons, only, Query, bad, good, before, last_join, next_comparison, query_from, query_start, query}
use Rattle.query_text.specs.Text.{text_verdict}
use Rattle.short_circuit.specs.Count.{sum_of}
use Rattle.short_circuit.proofs.Bound.{steps_below}
use Rattle.operand.specs.declared.cause.Cause.TheVariants as comparison
use Rattle.filter.specs.Refusal.{number_of, call_query, call_text, call_under, call_of}
use Rattle.filter.specs.Check.{check}
use Rattle.filter.specs.Meaning.{truth_of, steps_of, query_steps}
use Rattle.filter.specs.Evaluate.{meant_in, answer, answer_if, evaluate, steps_call, steps}
use Rattle.filter.specs.declared.refusal.Cause.{Cause}
use Rattle.filter.specs.declared.refusal.Cause.TheVariants as cause
use Rattle.filter.proofs.QueryAgree.{truth_call}
use Rattle.filter.proofs.Laws.{short, evaluates}
use Rattle.filter.proofs.Size.{steps_few}
use Rattle.judge.specs.Environment.{entry_named}
use Rattle.judge.proofs.Named.{named_placed}
use Rattle.report.specs.Line.{value_of}

pub number_small : (c : Cause) → number_of c ≤ 31
number_small (cause.Table table.Malformed) = omega arith
number_small (cause.Table table.NameTwice) = omega arith
number_small (cause.Text text.Length) = omega arith
number_small (cause.Text text.Encoding) = omega arith
number_small (cause.Text text.Grammar) = omega arith
number_small (cause.Text text.Limit) = omega arith
number_small (cause.Comparison comparison.Name) = omega arith
number_small (cause.Comparison comparison.Shape) = omega arith
number_small (cause.Comparison comparison.Row) = omega arith
number_small (cause.Comparison comparison.Range) = omega arith
number_small (cause.Comparison comparison.Pattern) = omega arith
number_small (cause.Comparison comparison.Datetime) = omega arith
number_small (cause.Instance instance.TooLong) = omega arith
number_small (cause.Instance instance.Nonconforming) = omega arith

-- ---- a query has at most 64 comparisons
-- a sum over its comparisons, of `m` at most for each
abbrev Sums : (m k : ℕ) → Query → Type 0
Sums m k (bad f) = 0 ≤ k
Sums m k (good l) = sum_of (λ c. m) l ≤ k * m

module _ (m : ℕ) (s : Scan) (grouped : Bool) where
  sums_more : (k : ℕ) (c : Comparison) (j : Join) (r : Query) → Sums m k r → Sums m (suc k) (before c j r)
  unfolding before sum_of
  sums_more k c j (bad f) h = omega arith
  sums_more k c j (good l) h = let e : suc k * m ≡ m + k * m = omega arith in omega arith

  sums_join : (k : ℕ) (c : Comparison) (j : Join) (b : Bool) (r : Query) → Sums m k r → Sums m (suc k) (elim b [ true ↦ good (only c) | false ↦ before c j r ])
  unfolding sum_of
  sums_join k c j true r h = omega arith
  sums_join k c j false r h = sums_more k c j r h

  sums_next : (k : ℕ) (x : Result (Comparison × Join × Token) Fault) → ((u : Token) → Sums m k (query_from k s grouped u))
      → Sums m (suc k) (elim x [ Err f ↦ bad f | Ok (c, j, u) ↦ elim (last_join j) [ true ↦ good (only c) | false ↦ before c j (query_from k s grouped u) ] ])
  sums_next k (Err f) h = omega arith
  sums_next k (Ok (c, j, u)) h = sums_join k c j (last_join j) (query_from k s grouped u) (h u)

  sums_from : (k : ℕ) (t : Token) → Sums m k (query_from k s grouped t)
  unfolding query_from
  sums_from zero t = omega arith
  sums_from (suc k) t = sums_next k (next_comparison s grouped t) (sums_from k)

sums_query : (m : ℕ) (q : List ℕ) (l : Comparisons) → query q ≡ good l → sum_of (λ c. m) l ≤ 64 * m
unfolding query
sums_query m q l e = rw e at (sums_from m (scan q) (query_start (scan q)).grouped 64 (query_start (scan q)).token)

-- ---- the steps of an accepted query
module _ (q t i : List ℕ) (fits : length i ≤ 65535) where
  query_steps_law : (l : Comparisons) → query q ≡ good l → query_steps (meant_in q t i) l ≤ 4194304
  unfolding query_steps
  query_steps_law l e =
      let b = steps_below (λ c. truth_of (meant_in q t i c)) (λ c. steps_of (meant_in q t i c)) (λ c. 1 + length i) (λ c. steps_few q t i (entry_named q t i) (named_placed q t i) c) l in
      let s = sums_query (1 + length i) q l e in
      omega arith

  -- none where the call is refused before its comparisons
  reading_steps : (r : Query) → query q ≡ r → steps_call (meant_in q t i) (call_query r) ≤ 4194304
  reading_steps (bad f) e = omega arith
  reading_steps (good l) e = query_steps_law l e

  text_steps : (v : Result (Unit {0}) Fault) → steps_call (meant_in q t i) (call_text q v) ≤ 4194304
  text_steps (Err f) = omega arith
  text_steps (Ok tt) = reading_steps (query q) refl

  table_steps : (r : Reading) → steps_call (meant_in q t i) (call_under q r) ≤ 4194304
  table_steps (Err f) = omega arith
  table_steps (Ok n) = text_steps (text_verdict q)

  steps_small : steps q t i ≤ 4194304
  unfolding steps call_of
  steps_small = table_steps (table_reading t)

answer_small : (b : Bool) (n : ℕ) → n ≤ 4194304 → value_of (Ok (answer b n)) ≤ 4194304
answer_small true n h = h
answer_small false n h = h

module _ (q t i : List ℕ) (accepted : check q t ≡ Ok tt) where
  value_by : (b : Bool) (k : Conformity) → k ≡ conformity t i → value_of (answer_if k b (steps q t i)) ≤ 4194304
  value_by b (Err r) e = omega (arith, number_small (cause.Instance r.cause))
  value_by b (Ok all) e = answer_small b (steps q t i) (steps_small q t i (short t i e refl))

  pub value_small : value_of (evaluate q t i) ≤ 4194304
  value_small = rw (evaluates q t i accepted) (value_by (truth_call (meant_in q t i) (call_of q t)) (conformity t i) refl)
