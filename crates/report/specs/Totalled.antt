-- 02 Q-1, of the printed text: "Each of the last three equals the number of lines above of that word, and the first is their sum and the number of records in the run."
use Rattle.std.specs.Prelude.{ℕ, ◌+◌, List, [], ◌∷◌, ◌++◌, ◌≡◌, length}
use Rattle.base.specs.Ascii.{bytes}
use Rattle.run.specs.declared.totals.Totals.{Totals}
use Rattle.report.specs.Line.{total_line}
use Rattle.report.specs.Text.{lines_of, lines_with}

abbrev pub word_totals : (lines : List (List ℕ)) → Totals
word_totals lines = record { included = lines_with (bytes "included") lines; excluded = lines_with (bytes "excluded") lines; failed = lines_with (bytes "failed") lines }

-- what is printed for a run of `n` records
pub record Totalled (n : ℕ) (printed : List ℕ) : Type 0 where
  pub above : List (List ℕ)
  pub lines : lines_of printed ≡ above ++ (total_line n (word_totals above) ∷ [])
  pub sums : (word_totals above).included + (word_totals above).excluded + (word_totals above).failed ≡ n
  pub size : length (lines_of printed) ≡ n + 1
