-- 02 Q-5, for whoever has many filters: a query's answer over an instance that is already walked. Each property's record is read at the place noted for it, whatever is
-- noted, and no conformance is asked again. With the notes of a walk over an instance that conforms it is what `evaluate` gives (proofs/Noted).
use Rattle.std.specs.Prelude.{ℕ, List, Err, Result}
use Rattle.instance.specs.Fault.{Conformity, conforming}
use Rattle.syntax.specs.declared.comparison.Comparison.{Comparison}
use Rattle.judge.specs.Meaning.{Meant, meaning}
use Rattle.judge.specs.Environment.{entry_noted}
use Rattle.filter.specs.Refusal.{Call, refused, compares, call_of}
use Rattle.filter.specs.Meaning.{query_meaning, query_steps}
use Rattle.filter.specs.Evaluate.{answer_of}
use Rattle.filter.specs.declared.refusal.Answer.{Answer}
use Rattle.filter.specs.declared.refusal.Refusal.{Refusal}

-- what each comparison of the query means by the notes
abbrev pub meant_noted : (query table instance notes : List ℕ) → Comparison → Meant
meant_noted q t i notes c = meaning q (entry_noted q t i notes) c

-- what a call comes to, by a conformity and by the meaning of its comparisons
abbrev pub answer_call : Conformity → (Comparison → Meant) → Call → Result Answer Refusal
answer_call k m (refused c p) = Err (record { cause = c; place = p })
answer_call k m (compares l) = answer_of k (query_meaning m l) (query_steps m l)

unfoldable pub evaluate_noted : (query table instance notes : List ℕ) → Result Answer Refusal
evaluate_noted q t i notes = answer_call conforming (meant_noted q t i notes) (call_of q t)
