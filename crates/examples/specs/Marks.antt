-- Calls of mark over the sample table, with what they return and the marks after them: 01 "A fan to try" and its instance, then an empty one.
use Rattle.std.specs.Prelude.{ℕ, List, [], ◌∷◌, ◌++◌, length, Err, Ok, Result}
use Rattle.base.specs.Ascii.{bytes}
use Rattle.record.specs.Write.{write}
use Rattle.table.specs.Sample.{sample_table}
use Rattle.instance.specs.Sample.{sample_instance}
use Rattle.mark.specs.Mark.{number_of, mark, marks_after}
use Rattle.run.specs.declared.totals.Totals.{Totals}
use Rattle.mark.specs.declared.refusal.MarkRefusal.{MarkRefusal}

-- in 01's words: the three totals, or a refusal by its number and place
pub data Outcome : Type 0 where
  totals : (included excluded failed : ℕ) → Outcome
  refused : (number place : ℕ) → Outcome

abbrev pub outcome_of : Result Totals MarkRefusal → Outcome
outcome_of (Ok x) = totals x.included x.excluded x.failed
outcome_of (Err r) = refused (number_of r.cause) r.place

pub record Call : Type 0 where
  pub query : List ℕ
  pub run : List ℕ
  pub marks : List ℕ

abbrev call : (query run marks : List ℕ) → Call
call q run m = record { query = q; run = run; marks = m }

abbrev pub outcome : Call → Outcome × List ℕ
outcome c = (outcome_of (mark c.query sample_table c.run (length c.marks)), marks_after c.query sample_table c.run c.marks)

-- 99 bytes, then 4
abbrev pub sample_run : List ℕ
sample_run = write 0x0300 sample_instance ++ write 0x0300 []

abbrev on : List ℕ
on = bytes "On = TRUE"

abbrev pub calls : List (Call × (Outcome × List ℕ))
calls =
    (call on sample_run (9 ∷ 9 ∷ []), (totals 1 0 1, 1 ∷ 255 ∷ []))
    ∷ (call (bytes "On <> TRUE") sample_run (9 ∷ 9 ∷ []), (totals 0 1 1, 0 ∷ 255 ∷ []))
    -- marks beyond the instances
    ∷ (call on sample_run (9 ∷ 8 ∷ 7 ∷ 6 ∷ []), (totals 1 0 1, 1 ∷ 255 ∷ 7 ∷ 6 ∷ []))
    -- a run without instances
    ∷ (call on [] (9 ∷ []), (totals 0 0 0, 9 ∷ []))
    ∷ (call on [] [], (totals 0 0 0, []))
    -- too few marks
    ∷ (call on sample_run (9 ∷ []), (refused 41 0, 9 ∷ []))
    -- a record that runs past the end, one of another kind; before the marks
    ∷ (call on (sample_run ++ (0 ∷ [])) (9 ∷ 9 ∷ []), (refused 40 103, 9 ∷ 9 ∷ []))
    ∷ (call on (write 0x0300 sample_instance ++ write 0x0301 []) [], (refused 40 99, []))
    -- the check before the run
    ∷ (call (bytes "On = TRUE AND") (0 ∷ []) (9 ∷ []), (refused 11 13, 9 ∷ []))
    ∷ []
