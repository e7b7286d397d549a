-- What the program writes for its three files: 01 "A fan to try", "a run over 65,536 bytes is refused as 40 at 65536, in 40's turn. Per instance: its number from 1,
-- the word, then steps, or the refusal number after `failed`. A refused call prints one line `refused`, number, place." 02 Q-1: "Print one last line: `total`, .. A
-- refused call still prints its single line and no total."
use Rattle.std.specs.Prelude.{ℕ, List, [], ◌∷◌, length, ltb, Err, Ok, Result}
use Rattle.base.specs.Pick.{pick}
use Rattle.filter.specs.Refusal.{number_of}
use Rattle.filter.specs.Check.{check}
use Rattle.run.specs.Fault as fault
use Rattle.run.specs.Run.{run_reading}
use Rattle.run.specs.Totals.{answers_of}
use Rattle.run.specs.declared.fault.RunFault.TheVariants.{Indivisible}
use Rattle.report.specs.Line.{refused_line, run_lines}
use Rattle.report.specs.Text.{text}
use Rattle.filter.specs.declared.refusal.Refusal.{Refusal}

-- 40, also for a run over the limit
abbrev pub indivisible : ℕ
indivisible = fault.number_of Indivisible

abbrev pub run_limit : ℕ
run_limit = 65536

abbrev pub lines_read : (query table run : List ℕ) → Result ℕ ℕ → List (List ℕ)
lines_read q t run (Err p) = refused_line indivisible p ∷ []
lines_read q t run (Ok n) = run_lines (answers_of q t run)

abbrev pub lines_accepted : (query table run : List ℕ) → List (List ℕ)
lines_accepted q t run = pick (ltb run_limit (length run)) (refused_line indivisible run_limit ∷ []) (lines_read q t run (run_reading run))

-- the check before the run
abbrev pub lines_checked : (query table run : List ℕ) → Result (Unit {0}) Refusal → List (List ℕ)
lines_checked q t run (Err r) = refused_line (number_of r.cause) r.place ∷ []
lines_checked q t run (Ok tt) = lines_accepted q t run

unfoldable pub output_lines : (query table run : List ℕ) → List (List ℕ)
output_lines q t run = lines_checked q t run (check q t)

abbrev pub output : (query table run : List ℕ) → List ℕ
output q t run = text (output_lines q t run)
