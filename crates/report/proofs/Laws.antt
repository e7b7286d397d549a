-- One law for each exit of `src/line.rt`.
use Rattle.std.specs.Prelude.{Err, Ok, Result}
use Prim.Native.Nat.{ℕ}
use mathlib.Core.List.{List, [], ◌∷◌, ◌++◌, append_assoc}
use mathlib.Core.Path.{◌≡◌}
use Rattle.base.specs.Ascii.{bytes}
use Rattle.filter.specs.Refusal.{number_of}
use Rattle.filter.specs.declared.refusal.Refusal.{Refusal}
use Rattle.filter.specs.declared.refusal.Answer.{Answer}
use Rattle.filter.specs.declared.refusal.Answer.TheVariants.{Included, Excluded}
use Rattle.run.specs.declared.totals.Totals.{Totals}
use Rattle.text_writer.specs.Decimal.{decimal}
use Rattle.text_writer.specs.Written.{Written}
use Rattle.text_writer.proofs.Written.{written_then}
use Rattle.report.specs.Line.{spaced, line, answer_line, refused_line, spaced_totals, total_line}
use Rattle.report.specs.Text.{line_feed, terminated}

module _ {b : List ℕ} {at : ℕ} where
  pub spaced_written : (n : ℕ) {r p : ℕ} {c d : List ℕ} → Written b at (bytes " ") r c → Written c r (decimal n) p d → Written b at (spaced n) p d
  unfolding spaced
  spaced_written n w v = written_then w v

  pub terminated_written : {l c d : List ℕ} {r p : ℕ} → Written b at l r c → Written c r (line_feed ∷ []) p d → Written b at (terminated l) p d
  unfolding terminated
  terminated_written w v = written_then w v

  -- the last part of a line, with the line feed
  terminated_after : (m : List ℕ) {l c d : List ℕ} {r p : ℕ} → Written b at l r c → Written c r (terminated m) p d → Written b at (terminated (l ++ m)) p d
  unfolding terminated
  terminated_after m {l} w v = rw (append_assoc l m (line_feed ∷ [])) (written_then w v)

  pub line_written : (number n : ℕ) {o p r s : ℕ} {word c d e f : List ℕ} → Written b at (decimal number) o c → Written c o (bytes " ") p d → Written d p word r e
      → Written e r (terminated (spaced n)) s f → Written b at (terminated (line number word n)) s f
  unfolding line
  line_written number n w v u t = terminated_after (spaced n) (written_then (written_then w v) u) t

  pub refused_written : (number place : ℕ) {o p r : ℕ} {c d e : List ℕ} → Written b at (bytes "refused") o c → Written c o (spaced number) p d → Written d p (terminated (spaced place)) r e
      → Written b at (terminated (refused_line number place)) r e
  unfolding refused_line
  refused_written number place w v u = terminated_after (spaced place) (written_then w v) u

  module _ (x : Totals) {o p r : ℕ} {c d e : List ℕ} where
    pub totals_written : Written b at (spaced x.included) o c → Written c o (spaced x.excluded) p d → Written d p (terminated (spaced x.failed)) r e → Written b at (terminated (spaced_totals x)) r e
    unfolding spaced_totals
    totals_written w v u = terminated_after (spaced x.failed) (written_then w v) u

    pub total_written : (n : ℕ) → Written b at (bytes "total") o c → Written c o (spaced n) p d → Written d p (terminated (spaced_totals x)) r e → Written b at (terminated (total_line n x)) r e
    unfolding total_line
    total_written n w v u = terminated_after (spaced_totals x) (written_then w v) u

  module _ (number : ℕ) (a : Result Answer Refusal) {r : ℕ} {c : List ℕ} where
    pub included_written : (n : ℕ) → a ≡ Ok (Included n) → Written b at (terminated (line number (bytes "included") n)) r c → Written b at (terminated (answer_line number a)) r c
    included_written n e w = rw e w

    pub excluded_written : (n : ℕ) → a ≡ Ok (Excluded n) → Written b at (terminated (line number (bytes "excluded") n)) r c → Written b at (terminated (answer_line number a)) r c
    excluded_written n e w = rw e w

    pub failed_written : (x : Refusal) → a ≡ Err x → {n : ℕ} → n ≡ number_of x.cause → Written b at (terminated (line number (bytes "failed") n)) r c → Written b at (terminated (answer_line number a)) r c
    failed_written x e f w = rw (e, ← f) w
