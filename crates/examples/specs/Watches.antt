-- Calls of watch over the sample table, with what they return and the marks after them: 02 Q-4 on 01's instance, one that doesn't conform, and 01's again.
use Rattle.std.specs.Prelude.{ℕ, List, [], ◌∷◌, ◌++◌, length, Err, Ok, Result}
use Rattle.base.specs.Ascii.{bytes}
use Rattle.record.specs.Write.{write}
use Rattle.table.specs.Sample.{sample_table}
use Rattle.instance.specs.Sample.{sample_instance}
use Rattle.watch.specs.Watch.{number_of, watch, marks_after}
use Rattle.watch.specs.declared.refusal.WatchTotals.{WatchTotals}
use Rattle.watch.specs.declared.refusal.WatchRefusal.{WatchRefusal}

-- in 02's words: the two totals, or a refusal by its number and place
pub data Outcome : Type 0 where
  totals : (ones zeros : ℕ) → Outcome
  refused : (number place : ℕ) → Outcome

abbrev pub outcome_of : Result WatchTotals WatchRefusal → Outcome
outcome_of (Ok x) = totals x.ones x.zeros
outcome_of (Err r) = refused (number_of r.cause) r.place

pub record Call : Type 0 where
  pub table : List ℕ
  pub run : List ℕ
  pub window : ℕ
  pub need : ℕ
  pub marks : List ℕ

abbrev call : (table run : List ℕ) (window need : ℕ) (marks : List ℕ) → Call
call t run n k m = record { table = t; run = run; window = n; need = k; marks = m }

abbrev on : List ℕ
on = bytes "On = TRUE"

abbrev pub outcome : Call → Outcome × List ℕ
outcome c = (
  outcome_of (watch on c.table c.run c.window c.need (length c.marks)),
  marks_after on c.table c.run c.window c.need c.marks,
)

-- the plain marks are 1, 255 and 1
abbrev pub sample_run : List ℕ
sample_run = write 0x0300 sample_instance ++ (write 0x0300 [] ++ write 0x0300 sample_instance)

abbrev over : (window need : ℕ) (marks : List ℕ) → Call
over n k m = call sample_table sample_run n k m

abbrev pub calls : List (Call × (Outcome × List ℕ))
calls =
    (over 1 1 (9 ∷ 9 ∷ 9 ∷ []), (totals 2 1, 1 ∷ 0 ∷ 1 ∷ []))
    ∷ (over 2 1 (9 ∷ 9 ∷ 9 ∷ []), (totals 3 0, 1 ∷ 1 ∷ 1 ∷ []))
    ∷ (over 2 2 (9 ∷ 9 ∷ 9 ∷ []), (totals 0 3, 0 ∷ 0 ∷ 0 ∷ []))
    ∷ (over 64 2 (9 ∷ 9 ∷ 9 ∷ []), (totals 1 2, 0 ∷ 0 ∷ 1 ∷ []))
    -- marks beyond the instances
    ∷ (over 3 2 (9 ∷ 8 ∷ 7 ∷ 255 ∷ 5 ∷ []), (totals 1 2, 0 ∷ 0 ∷ 1 ∷ 255 ∷ 5 ∷ []))
    -- a run without instances
    ∷ (call sample_table [] 64 64 (9 ∷ []), (totals 0 0, 9 ∷ []))
    -- out of range, each way
    ∷ (over 0 0 (9 ∷ 9 ∷ 9 ∷ []), (refused 42 0, 9 ∷ 9 ∷ 9 ∷ []))
    ∷ (over 65 1 (9 ∷ 9 ∷ 9 ∷ []), (refused 42 0, 9 ∷ 9 ∷ 9 ∷ []))
    ∷ (over 64 0 (9 ∷ 9 ∷ 9 ∷ []), (refused 42 0, 9 ∷ 9 ∷ 9 ∷ []))
    ∷ (over 3 4 (9 ∷ 9 ∷ 9 ∷ []), (refused 42 0, 9 ∷ 9 ∷ 9 ∷ []))
    -- the range before the table, the run and the marks
    ∷ (call [] (0 ∷ []) 3 4 [], (refused 42 0, []))
    ∷ (call [] (0 ∷ []) 3 3 [], (refused 2 0, []))
    -- and then as mark
    ∷ (call sample_table (sample_run ++ (0 ∷ [])) 1 1 (9 ∷ []), (refused 40 202, 9 ∷ []))
    ∷ (over 64 1 (9 ∷ 9 ∷ []), (refused 41 0, 9 ∷ 9 ∷ []))
    ∷ []
