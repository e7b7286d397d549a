-- The check of a whole query and its meaning agree: an induction over the comparisons, from the agreement of one (proofs/Agree).
use Rattle.std.specs.Prelude.{Err, Ok, Result}
use Prim.Native.Nat.{ℕ, ◌+◌, ◌≤◌}
use mathlib.Core.Path.{◌≡◌, refl, ap, subst}
use mathlib.Core.List.{List}
use mathlib.Core.Bool.{Bool, false}
use native.Mathlib.Omega.{arith}
use Rattle.instance.specs.Fault.{Conformity, conforming, conformity}
use Rattle.syntax.specs.declared.comparison.Comparison.{Comparison}
use Rattle.query_text.specs.Query.{Comparisons, only, more}
use Rattle.query_text.specs.Tree.{tree, holds}
use Rattle.short_circuit.proofs.Bound.{steps_below}
use Rattle.judge.specs.Meaning.{Meant, fails, means}
use Rattle.filter.specs.Refusal.{Call, refused, compares, call_of}
use Rattle.filter.specs.Check.{Verdict, passes, breaks, first, check_comparison, check_all, as_checked, check_call, check}
use Rattle.filter.specs.Meaning.{truth_of, steps_of, reads_of, QueryMeaning, failing, truthful, failure, unless_failing, query_meaning, query_steps, query_bound}
use Rattle.filter.specs.Evaluate.{meant_in, answer_if, answer_of, evaluate_call, evaluate, steps_call, steps, bound_call, bound}
use Rattle.filter.specs.Noted.{meant_noted, answer_call, evaluate_noted}
use Rattle.filter.specs.declared.refusal.Answer.{Answer}
use Rattle.filter.proofs.Agree.{Agrees, comparison_agrees, noted_agrees}
use Rattle.filter.proofs.Size.{steps_reads}
use Rattle.filter.specs.declared.refusal.Refusal.{Refusal}

-- a query: the check passes and nothing fails, so that `w` stands; or the query fails with the check's cause and place
abbrev pub QueryAgrees : Verdict → (r w : QueryMeaning) → Type 0
QueryAgrees passes r w = r ≡ w
QueryAgrees (breaks c p) r w = r ≡ failing c p

one_agrees : (v u : Verdict) (m : Meant) (r w : QueryMeaning) → Agrees v m → QueryAgrees u r w → QueryAgrees (first v u) (failure m r) w
unfolding first
one_agrees passes u (means x) r w a b = b
one_agrees passes u (fails c p) r w a b = absurd a
one_agrees (breaks c p) u (means x) r w a b = absurd a
one_agrees (breaks c p) u (fails d o) r w a b = rw (a.0, a.1) refl

last_agrees : (v : Verdict) (m : Meant) (w : QueryMeaning) → Agrees v m → QueryAgrees v (failure m w) w
last_agrees passes (means x) w a = refl
last_agrees passes (fails c p) w a = absurd a
last_agrees (breaks c p) (means x) w a = absurd a
last_agrees (breaks c p) (fails d o) w a = rw (a.0, a.1) refl

-- what a call comes to: its refusal by the check, or what a conformity makes of a truth value and the steps
abbrev pub Tied : Conformity → Result (Unit {0}) Refusal → Result Answer Refusal → Bool → ℕ → Type 0
Tied k (Ok tt) a b n = a ≡ answer_if k b n
Tied k (Err r) a b n = a ≡ Err r

-- the truth of a call's comparisons
abbrev pub truth_call : (Comparison → Meant) → Call → Bool
truth_call m (refused c p) = false
truth_call m (compares l) = holds (λ c. truth_of (m c)) (tree l)

-- of comparisons whose meaning agrees with the check
module _ (q t : List ℕ) (m : Comparison → Meant) (agree : (c : Comparison) → Agrees (check_comparison q t c) (m c)) where
  all_agree : (l : Comparisons) (w : QueryMeaning) → QueryAgrees (check_all q t l) (unless_failing m l w) w
  unfolding check_all unless_failing
  all_agree (only c) w = last_agrees (check_comparison q t c) (m c) w (agree c)
  all_agree (more c j r) w = one_agrees (check_comparison q t c) (check_all q t r) (m c) (unless_failing m r w) w (agree c) (all_agree r w)

  verdict_tied : (k : Conformity) (v : Verdict) (r : QueryMeaning) (b : Bool) (n : ℕ) → QueryAgrees v r (truthful b) → Tied k (as_checked v) (answer_of k r n) b n
  verdict_tied k passes r b n e = ap (λ (x : QueryMeaning). answer_of k x n) e
  verdict_tied k (breaks c p) r b n e = ap (λ (x : QueryMeaning). answer_of k x n) e

  call_tied : (k : Conformity) (c : Call) → Tied k (check_call q t c) (answer_call k m c) (truth_call m c) (steps_call m c)
  unfolding query_meaning
  call_tied k (refused c p) = refl
  call_tied k (compares l) = verdict_tied k (check_all q t l) _ (holds (λ c. truth_of (m c)) (tree l)) (query_steps m l) (all_agree l _)

module _ (q t i : List ℕ) where
  evaluate_call_law : (c : Call) → answer_call (conformity t i) (meant_in q t i) c ≡ evaluate_call q t i c
  evaluate_call_law (refused c p) = refl
  evaluate_call_law (compares l) = refl

  pub evaluate_answer : answer_call (conformity t i) (meant_in q t i) (call_of q t) ≡ evaluate q t i
  unfolding evaluate
  evaluate_answer = evaluate_call_law (call_of q t)

  pub tied : Tied (conformity t i) (check q t) (evaluate q t i) (truth_call (meant_in q t i) (call_of q t)) (steps q t i)
  unfolding check steps
  tied =
      subst (λ (a : Result Answer Refusal). Tied (conformity t i) (check_call q t (call_of q t)) a (truth_call (meant_in q t i) (call_of q t)) (steps_call (meant_in q t i) (call_of q t))) evaluate_answer
      (call_tied q t (meant_in q t i) (comparison_agrees q t i) (conformity t i) (call_of q t))

  pub noted_tied : (notes : List ℕ)
      → Tied conforming (check q t) (evaluate_noted q t i notes) (truth_call (meant_noted q t i notes) (call_of q t)) (steps_call (meant_noted q t i notes) (call_of q t))
  unfolding check evaluate_noted
  noted_tied notes = call_tied q t (meant_noted q t i notes) (noted_agrees q t i notes) conforming (call_of q t)

  -- the steps are at most the bound, conforming or not
  call_below : (c : Call) → steps_call (meant_in q t i) c ≤ bound_call (meant_in q t i) c
  unfolding query_steps query_bound
  call_below (refused c p) = omega arith
  call_below (compares l) =
      steps_below (λ c. truth_of (meant_in q t i c)) (λ c. steps_of (meant_in q t i c)) (λ c. 1 + reads_of (meant_in q t i c)) (λ c. steps_reads (meant_in q t i c)) l

  pub steps_within : steps q t i ≤ bound q t i
  unfolding steps bound
  steps_within = call_below (call_of q t)
