-- The words of a run's lines: as many lines have a word as answers are of its sort.
use Rattle.std.specs.Prelude.{Err, Ok, Result}
use Prim.Native.Nat.{ℕ, ◌+◌}
use mathlib.Core.List.{List, [], ◌∷◌, ◌++◌, append_assoc}
use mathlib.Core.Bool.{Bool, true}
use mathlib.Core.Path.{◌≡◌, refl, ap, ◌∙◌}
use native.Mathlib.Omega.{arith}
use Rattle.base.specs.Ascii.{bytes}
use Rattle.base.specs.Part.{same_bytes}
use Rattle.filter.specs.declared.refusal.Answer.{Answer}
use Rattle.filter.specs.declared.refusal.Answer.TheVariants.{Included, Excluded}
use Rattle.run.specs.Totals.{is_included, is_excluded, is_failed, count, totals_of}
use Rattle.text_writer.specs.Decimal.{decimal}
use Rattle.report.specs.Line.{word_of, value_of, spaced, line, answer_line, answer_lines}
use Rattle.report.specs.Text.{blank, after_blank, until_blank, word_in, lines_with}
use Rattle.report.specs.Totalled.{word_totals}
use Rattle.report.proofs.Lines.{lacks, lacks_first, decimal_lacks}
use Rattle.filter.specs.declared.refusal.Refusal.{Refusal}

after_blank_law : (d s : List ℕ) → lacks blank d ≡ true → after_blank (d ++ (blank ∷ s)) ≡ s
unfolding after_blank
after_blank_law [] s h = refl
after_blank_law (b ∷ d) s h = let k = lacks_first blank b d h in rw k.0 (after_blank_law d s k.1)

until_blank_law : (w s : List ℕ) → lacks blank w ≡ true → until_blank (w ++ (blank ∷ s)) ≡ w
unfolding until_blank
until_blank_law [] s h = refl
until_blank_law (b ∷ w) s h = let k = lacks_first blank b w h in rw (k.0, until_blank_law w s k.1) refl

word_lacks : (a : Result Answer Refusal) → lacks blank (word_of a) ≡ true
unfolding lacks
word_lacks (Ok (Included n)) = refl
word_lacks (Ok (Excluded n)) = refl
word_lacks (Err r) = refl

line_parts : (number : ℕ) (word : List ℕ) (n : ℕ) → line number word n ≡ decimal number ++ (blank ∷ (word ++ (blank ∷ decimal n)))
unfolding line spaced
line_parts number word n = simp append_assoc refl

answer_word : (number : ℕ) (a : Result Answer Refusal) → word_in (answer_line number a) ≡ word_of a
answer_word number a =
    ap word_in (line_parts number (word_of a) (value_of a))
    ∙ ap until_blank (after_blank_law (decimal number) (word_of a ++ (blank ∷ decimal (value_of a))) (decimal_lacks blank (omega arith) number))
    ∙ until_blank_law (word_of a) (decimal (value_of a)) (word_lacks a)

module _ (word : List ℕ) (sort : Result Answer Refusal → Bool) (said : (a : Result Answer Refusal) → same_bytes (word_of a) word ≡ sort a) where
  pub word_lines : (number : ℕ) (l : List (Result Answer Refusal)) → lines_with word (answer_lines number l) ≡ count sort l
  unfolding answer_lines lines_with count
  word_lines number [] = refl
  word_lines number (a ∷ l) = rw (answer_word number a, said a, word_lines (number + 1) l) refl

said_included : (a : Result Answer Refusal) → same_bytes (word_of a) (bytes "included") ≡ is_included a
unfolding same_bytes
said_included (Ok (Included n)) = refl
said_included (Ok (Excluded n)) = refl
said_included (Err r) = refl

said_excluded : (a : Result Answer Refusal) → same_bytes (word_of a) (bytes "excluded") ≡ is_excluded a
unfolding same_bytes
said_excluded (Ok (Included n)) = refl
said_excluded (Ok (Excluded n)) = refl
said_excluded (Err r) = refl

said_failed : (a : Result Answer Refusal) → same_bytes (word_of a) (bytes "failed") ≡ is_failed a
unfolding same_bytes
said_failed (Ok (Included n)) = refl
said_failed (Ok (Excluded n)) = refl
said_failed (Err r) = refl

-- counted by their lines, the answers have the totals that the run has
pub totals_said : (l : List (Result Answer Refusal)) → word_totals (answer_lines 1 l) ≡ totals_of l
totals_said l =
    rw (
      word_lines (bytes "included") is_included said_included 1 l,
      word_lines (bytes "excluded") is_excluded said_excluded 1 l,
      word_lines (bytes "failed") is_failed said_failed 1 l,
    ) refl
