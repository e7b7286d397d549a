-- evaluate (query, table, instance): 01 "What can go wrong with a call" and "Meaning". A query that fails is refused with its failure; else an instance that is
-- too long or doesn't conform is (30, 31); else the instance is included or excluded, with the steps.
use Rattle.std.specs.Prelude.{ℕ, List, Bool, true, false, Err, Ok, Result}
use Rattle.syntax.specs.declared.comparison.Comparison.{Comparison}
use Rattle.instance.specs.Fault.{Conformity, conformity}
use Rattle.judge.specs.Meaning.{Meant, meaning}
use Rattle.judge.specs.Environment.{entry_named}
use Rattle.filter.specs.Refusal.{Call, refused, compares, call_of}
use Rattle.filter.specs.Meaning.{QueryMeaning, failing, truthful, query_meaning, query_steps, query_bound}
use Rattle.filter.specs.declared.refusal.Cause.TheVariants as cause
use Rattle.filter.specs.declared.refusal.Answer.{Answer}
use Rattle.filter.specs.declared.refusal.Answer.TheVariants.{Included, Excluded}
use Rattle.filter.specs.declared.refusal.Refusal.{Refusal}

-- what each comparison of the query means in the instance
abbrev pub meant_in : (query table instance : List ℕ) → Comparison → Meant
meant_in q t i c = meaning q (entry_named q t i) c

abbrev pub answer : Bool → (steps : ℕ) → Answer
answer true n = Included n
answer false n = Excluded n

abbrev pub answer_if : Conformity → Bool → (steps : ℕ) → Result Answer Refusal
answer_if (Err r) b n = Err (record { cause = cause.Instance r.cause; place = r.place })
answer_if (Ok all) b n = Ok (answer b n)

abbrev pub answer_of : Conformity → QueryMeaning → (steps : ℕ) → Result Answer Refusal
answer_of k (failing c p) n = Err (record { cause = cause.Comparison c; place = p })
answer_of k (truthful b) n = answer_if k b n

abbrev pub evaluate_call : (query table instance : List ℕ) → Call → Result Answer Refusal
evaluate_call q t i (refused c p) = Err (record { cause = c; place = p })
evaluate_call q t i (compares l) = answer_of (conformity t i) (query_meaning (meant_in q t i) l) (query_steps (meant_in q t i) l)

unfoldable pub evaluate : (query table instance : List ℕ) → Result Answer Refusal
evaluate q t i = evaluate_call q t i (call_of q t)

-- 01 "Steps": the steps of an evaluation, and demand 3's bound; none where the call is refused before its comparisons
abbrev pub steps_call : (Comparison → Meant) → Call → ℕ
steps_call m (refused c p) = 0
steps_call m (compares l) = query_steps m l

unfoldable pub steps : (query table instance : List ℕ) → ℕ
steps q t i = steps_call (meant_in q t i) (call_of q t)

abbrev pub bound_call : (Comparison → Meant) → Call → ℕ
bound_call m (refused c p) = 0
bound_call m (compares l) = query_bound m l

unfoldable pub bound : (query table instance : List ℕ) → ℕ
bound q t i = bound_call (meant_in q t i) (call_of q t)
