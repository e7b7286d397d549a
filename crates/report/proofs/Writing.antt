-- One law for each exit of `src/output.rt`.
use Rattle.std.specs.Prelude.{Err, Ok, Result}
use Prim.Native.Nat.{ℕ, ◌+◌, ◌≤◌, ◌<◌}
use mathlib.Core.List.{List, [], ◌∷◌, ◌++◌, map}
use mathlib.Core.Path.{◌≡◌, refl, ap, ◌∙◌}
use native.Mathlib.Omega.{arith}
use lib.ListN.{length}
use borrow.Author.Tests.{lt-ltb, le-ltb}
use Rattle.base.specs.Part.{part}
use Rattle.record.specs.Record.{Records, item, broken, ended, records}
use Rattle.filter.specs.Refusal.{number_of}
use Rattle.filter.specs.Check.{check}
use Rattle.filter.specs.Evaluate.{evaluate}
use Rattle.filter.specs.declared.refusal.Refusal.{Refusal}
use Rattle.filter.specs.declared.refusal.Answer.{Answer}
use Rattle.run.specs.Run.{run_reading, bodies_of, instances_of}
use Rattle.run.specs.Totals.{answers_of, totals_of, counted}
use Rattle.run.specs.declared.totals.Totals.{Totals}
use Rattle.run.proofs.Counting.{totals, sum, plus, plus_next, plus_none, none_plus, sum_next}
use Rattle.text_writer.specs.Written.{Written}
use Rattle.text_writer.proofs.Written.{written_none, written_then, written_length}
use Rattle.report.specs.Line.{answer_line, refused_line, total_line, answer_lines, run_lines}
use Rattle.report.specs.Text.{terminated, text}
use Rattle.report.specs.Output.{indivisible, run_limit, lines_accepted, output_lines, output}

-- a line that stands alone
text_one : {b c : List ℕ} {at n : ℕ} (l : List ℕ) → Written b at (terminated l) n c → Written b at (text (l ∷ [])) n c
unfolding text
text_one l w = written_then w written_none

-- ---- the answers of all instances, `all`, and of those that are left, `rest`
module _ (all : List (Result Answer Refusal)) where
  -- the lines that are left, the first of them with this number
  abbrev lines_from : (number : ℕ) (rest : List (Result Answer Refusal)) → List (List ℕ)
  lines_from number rest = answer_lines number rest ++ (total_line (length all) (totals_of all) ∷ [])

  -- `count` answers are written, up to `place`, and counted
  pub record Writing (first out : List ℕ) (place count : ℕ) (x : Totals) (rest : List (Result Answer Refusal)) : Type 0 where
    -- whoever writes the rest has written all
    pub completes : (next : ℕ) (after : List ℕ) → Written out place (text (lines_from (count + 1) rest)) next after → Written first 0 (text (run_lines all)) next after
    pub counts : totals_of all ≡ plus x (totals_of rest)
    pub sums : sum x ≡ count
    pub left : length all ≡ count + length rest
    pub same : length out ≡ length first

  begin : (out : List ℕ) → Writing out out 0 0 (totals 0 0 0) all
  begin out = record { completes = λ next after w. w; counts = none_plus (totals_of all); sums = refl; left = omega arith; same = refl }

  next_one : {first out : List ℕ} {place count : ℕ} {x : Totals} {rest : List (Result Answer Refusal)} (a : Result Answer Refusal) → Writing first out place count x (a ∷ rest)
      → {next : ℕ} {after : List ℕ} → Written out place (terminated (answer_line (count + 1) a)) next after → Writing first after next (count + 1) (counted x a) rest
  unfolding answer_lines text
  next_one {first} {out} {place} {count} {x} {rest} a w v =
      record {
        completes = λ n after u. w.completes n after (written_then v u);
        counts = w.counts ∙ plus_next x a rest;
        sums = omega (arith, w.sums, sum_next x a);
        left = omega (arith, w.left);
        same = written_length v ∙ w.same;
      }

  finish : {first out : List ℕ} {place count : ℕ} {x : Totals} → Writing first out place count x []
      → {next : ℕ} {after : List ℕ} → Written out place (terminated (total_line count x)) next after → Written first 0 (text (run_lines all)) next after
  unfolding answer_lines
  finish {first} {out} {place} {count} {x} w {next} {after} v =
      let n : length all ≡ count = omega (arith, w.left) in
      w.completes next after (rw (n, w.counts ∙ plus_none x) (text_one (total_line count x) v))

-- ---- as the code meets them
module _ (q t s : List ℕ) where
  -- of the records that are left
  abbrev pub answers_in : Records → List (Result Answer Refusal)
  answers_in rs = map (evaluate q t) (bodies_of s rs)

  pub writing_begins : (out : List ℕ) (rs : Records) → rs ≡ records s 0 → Writing (answers_of q t s) out out 0 0 (totals 0 0 0) (answers_in rs)
  unfolding instances_of
  writing_begins out rs e = rw e (begin (answers_of q t s) out)

  module _ (first out : List ℕ) (place count : ℕ) (x : Totals) (rs : Records) (w : Writing (answers_of q t s) first out place count x (answers_in rs)) where
    pub writing_same : {next : ℕ} {after l : List ℕ} → Written out place l next after → length after ≡ length first
    writing_same v = written_length v ∙ w.same

    module _ {next : ℕ} {after : List ℕ} (v : Written out place (terminated (total_line count x)) next after) where
      pub writing_broken : (at : ℕ) → rs ≡ broken at → Written first 0 (text (run_lines (answers_of q t s))) next after
      unfolding bodies_of
      writing_broken at f = finish (answers_of q t s) (rw f at w) v

      pub writing_end : rs ≡ ended → Written first 0 (text (run_lines (answers_of q t s))) next after
      unfolding bodies_of
      writing_end f = finish (answers_of q t s) (rw f at w) v

    module _ (at kind start len : ℕ) (rest : Records) (f : rs ≡ item at kind start len rest) where
      pub writing_next : {i : List ℕ} → i ≡ part s start len → {a : Result Answer Refusal} → a ≡ evaluate q t i → {p : ℕ} {d : List ℕ} → Written out place (terminated (answer_line (count + 1) a)) p d
          → {y : Totals} → y ≡ counted x a → Writing (answers_of q t s) first d p (count + 1) y (answers_in rest)
      unfolding bodies_of
      writing_next g h v ey = let k = h ∙ ap (evaluate q t) g in rw (ey, k) (next_one (answers_of q t s) (evaluate q t (part s start len)) (rw f at w) (rw k at v))

-- ---- which of them is written
pub indivisible_written : (p : ℕ) {b c : List ℕ} {n k : ℕ} → k ≡ indivisible → Written b 0 (terminated (refused_line k p)) n c → Written b 0 (terminated (refused_line indivisible p)) n c
indivisible_written p e w = rw (← e) w

module _ (q t s : List ℕ) {b c : List ℕ} {n : ℕ} where
  pub long_written : run_limit < length s → Written b 0 (terminated (refused_line indivisible run_limit)) n c → Written b 0 (text (lines_accepted q t s)) n c
  long_written h w = rw (lt-ltb _ _ h) (text_one (refused_line indivisible run_limit) w)

  module _ (h : length s ≤ run_limit) {r : Result ℕ ℕ} (e : r ≡ run_reading s) where
    pub broken_written : {p : ℕ} → r ≡ Err p → Written b 0 (terminated (refused_line indivisible p)) n c → Written b 0 (text (lines_accepted q t s)) n c
    broken_written {p} f w = rw (le-ltb _ _ h, ← e, f) (text_one (refused_line indivisible p) w)

    pub answers_written : {k : ℕ} → r ≡ Ok k → Written b 0 (text (run_lines (answers_of q t s))) n c → Written b 0 (text (lines_accepted q t s)) n c
    answers_written f w = rw (le-ltb _ _ h, ← e, f) w

  module _ {v : Result (Unit {0}) Refusal} (e : v ≡ check q t) where
    pub refused_written : {x : Refusal} → v ≡ Err x → {k : ℕ} → k ≡ number_of x.cause → Written b 0 (terminated (refused_line k x.place)) n c → Written b 0 (output q t s) n c
    unfolding output_lines
    refused_written {x} f {k} g w = rw (← e, f, ← g) (text_one (refused_line k x.place) w)

    pub accepted_written : v ≡ Ok tt → Written b 0 (text (lines_accepted q t s)) n c → Written b 0 (output q t s) n c
    unfolding output_lines
    accepted_written f w = rw (← e, f) w
