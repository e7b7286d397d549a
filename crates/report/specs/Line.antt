-- The program's lines, without their line feeds. 01 "A fan to try": "Per instance: its number from 1, the word, then steps, or the refusal number after `failed`. A
-- refused call prints one line `refused`, number, place." 02 Q-1: "Print one last line: `total`, the instances, the included, the excluded, the failed, each after one
-- space."
use Rattle.std.specs.Prelude.{ℕ, ◌+◌, List, [], ◌∷◌, ◌++◌, length, Err, Ok, Result}
use Rattle.base.specs.Ascii.{bytes}
use Rattle.filter.specs.Refusal.{number_of}
use Rattle.filter.specs.declared.refusal.Answer.{Answer}
use Rattle.filter.specs.declared.refusal.Answer.TheVariants.{Included, Excluded}
use Rattle.run.specs.Totals.{totals_of}
use Rattle.run.specs.declared.totals.Totals.{Totals}
use Rattle.text_writer.specs.Decimal.{decimal}
use Rattle.filter.specs.declared.refusal.Refusal.{Refusal}

abbrev pub word_of : Result Answer Refusal → List ℕ
word_of (Ok (Included n)) = bytes "included"
word_of (Ok (Excluded n)) = bytes "excluded"
word_of (Err r) = bytes "failed"

-- the steps, or the refusal's number
abbrev pub value_of : Result Answer Refusal → ℕ
value_of (Ok (Included n)) = n
value_of (Ok (Excluded n)) = n
value_of (Err r) = number_of r.cause

-- a number after one blank
unfoldable pub spaced : (number : ℕ) → List ℕ
spaced n = bytes " " ++ decimal n

unfoldable pub line : (number : ℕ) (word : List ℕ) (value : ℕ) → List ℕ
line number word n = decimal number ++ bytes " " ++ word ++ spaced n

abbrev pub answer_line : (number : ℕ) → Result Answer Refusal → List ℕ
answer_line number a = line number (word_of a) (value_of a)

unfoldable pub refused_line : (number place : ℕ) → List ℕ
refused_line number place = bytes "refused" ++ spaced number ++ spaced place

unfoldable pub spaced_totals : Totals → List ℕ
spaced_totals x = spaced x.included ++ spaced x.excluded ++ spaced x.failed

unfoldable pub total_line : (instances : ℕ) → Totals → List ℕ
total_line n x = bytes "total" ++ spaced n ++ spaced_totals x

-- a line for each answer, numbered from `number` on
unfoldable pub answer_lines : (number : ℕ) → List (Result Answer Refusal) → List (List ℕ)
answer_lines number [] = []
answer_lines number (a ∷ rest) = answer_line number a ∷ answer_lines (number + 1) rest

abbrev pub run_lines : List (Result Answer Refusal) → List (List ℕ)
run_lines answers = answer_lines 1 answers ++ (total_line (length answers) (totals_of answers) ∷ [])
