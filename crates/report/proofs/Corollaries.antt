-- What follows for the printed text: its lines; the totals of a run that divides; one line for a refused call, and the numbers that it can have.
use Rattle.std.specs.Prelude.{Err, Ok, Result}
use Prim.Native.Nat.{ℕ, ◌+◌, ◌≤◌, ◌<◌}
use mathlib.Core.List.{List, [], ◌∷◌}
use mathlib.Core.Bool.{Bool, true, false}
use mathlib.Core.Path.{◌≡◌, refl, sym, ap, ◌∙◌}
use native.Mathlib.Omega.{arith}
use lib.ListN.{length, length-append, length-map}
use lib.Dec.{ltb}
use borrow.Author.Tests.{lt-ltb, le-ltb}
use Rattle.base.specs.Pick.{pick}
use Rattle.record.specs.Record.{records, ended}
use Rattle.record.proofs.Records.{at_end_law, records_end}
use Rattle.filter.specs.Refusal.{number_of}
use Rattle.filter.specs.Check.{check}
use Rattle.filter.specs.Evaluate.{evaluate}
use Rattle.filter.specs.declared.refusal.Refusal.{Refusal}
use Rattle.filter.specs.declared.refusal.Answer.{Answer}
use Rattle.run.specs.Run.{reading_from, run_reading, bodies_of, instances_of}
use Rattle.run.specs.Totals.{answers_of, count, totals_of}
use Rattle.run.proofs.Counting.{totals, sum}
use Rattle.run.proofs.Corollaries.{totals_sum}
use Rattle.run.proofs.Laws.{divides}
use Rattle.report.specs.Line.{refused_line, total_line, answer_lines, run_lines}
use Rattle.report.specs.Text.{text, lines_of}
use Rattle.report.specs.Output.{indivisible, run_limit, lines_read, lines_checked, output_lines, output}
use Rattle.report.specs.Totalled.{Totalled}
use Rattle.report.proofs.Values.{number_small}
use Rattle.report.proofs.Lines.{Plain, read_back, refused_plain, run_plain}
use Rattle.report.proofs.Words.{totals_said}

-- ---- the program's refusals are numbered to 40: it lends no marks, so there is no 41
pub data Reported (q t s : List ℕ) : List (List ℕ) → Type 0 where
  refusal : (number place : ℕ) → number ≤ 40 → Reported q t s (refused_line number place ∷ [])
  answers : Reported q t s (run_lines (answers_of q t s))

module _ (q t s : List ℕ) where
  read_reported : (r : Result ℕ ℕ) → Reported q t s (lines_read q t s r)
  read_reported (Err p) = refusal indivisible p (omega arith)
  read_reported (Ok n) = answers

  run_reported : (b : Bool) → Reported q t s (pick b (refused_line indivisible run_limit ∷ []) (lines_read q t s (run_reading s)))
  run_reported true = refusal indivisible run_limit (omega arith)
  run_reported false = read_reported (run_reading s)

  checked_reported : (v : Result (Unit {0}) Refusal) → Reported q t s (lines_checked q t s v)
  checked_reported (Err r) = refusal (number_of r.cause) r.place (omega (arith, number_small r.cause))
  checked_reported (Ok tt) = run_reported (ltb run_limit (length s))

  pub never_41 : Reported q t s (output_lines q t s)
  unfolding output_lines
  never_41 = checked_reported (check q t)

  reported_plain : (ls : List (List ℕ)) → Reported q t s ls → Plain ls
  reported_plain ls (refusal number place h) = refused_plain number place
  reported_plain ls answers = run_plain 1 _ _ (answers_of q t s)

  pub printed_lines : lines_of (output q t s) ≡ output_lines q t s
  printed_lines = read_back (output_lines q t s) (reported_plain (output_lines q t s) never_41)

  -- each of them ends in a line feed, the last one too
  pub all_terminated : text (lines_of (output q t s)) ≡ output q t s
  all_terminated = ap text printed_lines

-- ---- a refused call
module _ (q t s : List ℕ) where
  pub refused_alone : (r : Refusal) → check q t ≡ Err r → lines_of (output q t s) ≡ refused_line (number_of r.cause) r.place ∷ []
  unfolding output_lines
  refused_alone r e = printed_lines q t s ∙ rw e refl

  module _ (accepted : check q t ≡ Ok tt) where
    pub long_alone : run_limit < length s → lines_of (output q t s) ≡ refused_line indivisible run_limit ∷ []
    unfolding output_lines
    long_alone h = printed_lines q t s ∙ rw (accepted, lt-ltb _ _ h) refl

    pub broken_alone : length s ≤ run_limit → (p : ℕ) → run_reading s ≡ Err p → lines_of (output q t s) ≡ refused_line indivisible p ∷ []
    unfolding output_lines
    broken_alone h p e = printed_lines q t s ∙ rw (accepted, le-ltb _ _ h, e) refl

-- ---- a run that divides
lines_count : (number : ℕ) (l : List (Result Answer Refusal)) → length (answer_lines number l) ≡ length l
unfolding answer_lines
lines_count number [] = refl
lines_count number (a ∷ l) = omega (arith, lines_count (number + 1) l)

module _ (q t s : List ℕ) (accepted : check q t ≡ Ok tt) (h : length s ≤ run_limit) (n : ℕ) (e : run_reading s ≡ Ok n) where
  pub output_lines_law : lines_of (output q t s) ≡ run_lines (answers_of q t s)
  unfolding output_lines
  output_lines_law = printed_lines q t s ∙ rw (accepted, le-ltb _ _ h, e) refl

  answers_count : length (answers_of q t s) ≡ n
  answers_count = length-map (instances_of s) (evaluate q t) ∙ sym (divides s n e)

  pub totalled : Totalled n (output q t s)
  totalled =
      let l = answer_lines 1 (answers_of q t s) in
      let last = total_line (length (answers_of q t s)) (totals_of (answers_of q t s)) in
      record {
        above = l;
        lines = output_lines_law ∙ rw (answers_count, totals_said (answers_of q t s)) refl;
        sums = ap sum (totals_said (answers_of q t s)) ∙ totals_sum q t s ∙ sym (divides s n e);
        size = ap length output_lines_law ∙ length-append l (last ∷ []) ∙ omega (arith, lines_count 1 (answers_of q t s), answers_count);
      }

-- an empty run prints the last line alone
no_records : records [] 0 ≡ ended
no_records = records_end [] 0 (at_end_law [] 0 (omega arith))

empty_divides : run_reading [] ≡ Ok 0
unfolding run_reading reading_from
empty_divides = rw no_records refl

no_lines : (q t : List ℕ) → run_lines (answers_of q t []) ≡ total_line 0 (totals 0 0 0) ∷ []
unfolding instances_of bodies_of answer_lines count
no_lines q t = rw no_records refl

pub empty_run : (q t : List ℕ) → check q t ≡ Ok tt → lines_of (output q t []) ≡ total_line 0 (totals 0 0 0) ∷ []
empty_run q t accepted = output_lines_law q t [] accepted (omega arith) 0 empty_divides ∙ no_lines q t
