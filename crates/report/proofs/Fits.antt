-- A buffer of OUTPUT_LIMIT bytes (`src/output.rt`) holds every output.
use Rattle.std.specs.Prelude.{Err, Ok, Result}
use Prim.Native.Nat.{ℕ, zero, suc, ◌+◌, ◌-◌, ◌*◌, ◌≤◌, ◌<◌}
use mathlib.Core.List.{List, [], ◌∷◌, ◌++◌, map}
use mathlib.Core.Bool.{Bool, true, false}
use mathlib.Core.Path.{◌≡◌, refl, sym, ◌∙◌}
use native.Mathlib.Omega.{arith}
use lib.ListN.{length, length-append, length-map}
use lib.Dec.{ltb, eqb}
use borrow.Author.Tests.{ltb-false}
use Rattle.base.specs.Pick.{pick}
use Rattle.record.specs.Record.{record_at, Records, records}
use Rattle.record.specs.declared.read.RecordAt.{RecordAt}
use Rattle.record.specs.declared.read.RecordAt.TheVariants.{Whole, Broken, End}
use Rattle.record.proofs.Records.{records_whole, records_broken, records_end}
use Rattle.record.proofs.Reach.{step_in}
use Rattle.filter.specs.Refusal.{number_of}
use Rattle.filter.specs.Check.{check}
use Rattle.filter.specs.Evaluate.{evaluate}
use Rattle.filter.specs.declared.refusal.Refusal.{Refusal}
use Rattle.filter.specs.declared.refusal.Answer.{Answer}
use Rattle.filter.specs.declared.refusal.Answer.TheVariants.{Included, Excluded}
use Rattle.run.specs.Run.{reading_from, run_reading, bodies_of, instances_of}
use Rattle.run.specs.Totals.{answers_of, totals_of}
use Rattle.run.specs.declared.totals.Totals.{Totals}
use Rattle.run.proofs.Counting.{sum}
use Rattle.run.proofs.Corollaries.{totals_sum}
use Rattle.text_writer.proofs.Digits.{decimal_short}
use Rattle.report.specs.Line.{word_of, value_of, spaced, line, answer_line, refused_line, spaced_totals, total_line, answer_lines, run_lines}
use Rattle.report.specs.Text.{terminated, text}
use Rattle.report.specs.Output.{indivisible, run_limit, lines_read, lines_accepted, output_lines, output}
use Rattle.report.proofs.Values.{number_small, value_small}

-- what `usize` holds
abbrev pub Held : ℕ → Type 0
Held n = n ≤ 0xffffffffffffffff

-- ---- a line
spaced_short : (n : ℕ) → Held n → length (spaced n) ≤ 21
unfolding spaced
spaced_short n h = simp length-append (omega (arith, decimal_short n h))

line_short : (number n : ℕ) (word : List ℕ) → Held number → Held n → length word ≤ 8 → length (line number word n) ≤ 50
unfolding line
line_short number n word h k l = simp length-append (omega (arith, decimal_short number h, spaced_short n k))

word_short : (a : Result Answer Refusal) → length (word_of a) ≤ 8
word_short (Ok (Included n)) = omega arith
word_short (Ok (Excluded n)) = omega arith
word_short (Err r) = omega arith

answer_short : (number : ℕ) (a : Result Answer Refusal) → Held number → Held (value_of a) → length (answer_line number a) ≤ 50
answer_short number a h k = line_short number (value_of a) (word_of a) h k (word_short a)

refused_short : (number place : ℕ) → Held number → Held place → length (text (refused_line number place ∷ [])) ≤ 50
unfolding refused_line terminated text
refused_short number place h k = simp length-append (omega (arith, spaced_short number h, spaced_short place k))

total_short : (n : ℕ) (x : Totals) → Held n → sum x ≡ n → length (total_line n x) ≤ 89
unfolding spaced_totals total_line
total_short n x h e =
    simp length-append
    (omega (
      arith,
      spaced_short n h,
      spaced_short x.included (omega arith),
      spaced_short x.excluded (omega arith),
      spaced_short x.failed (omega arith),
    ))

-- ---- a line for each instance, and the last
module _ (q t : List ℕ) (accepted : check q t ≡ Ok tt) (last : List ℕ) where
  lines_short : (number : ℕ) (l : List (List ℕ)) → Held (number + length l) → length (text (answer_lines number (map (evaluate q t) l) ++ (last ∷ []))) ≤ 51 * length l + length last + 1
  unfolding answer_lines terminated text
  lines_short number [] h = simp length-append (omega arith)
  lines_short number (i ∷ l) h =
      let v = value_small q t i accepted in
      let a = answer_short number (evaluate q t i) (omega arith) (omega arith) in
      let r = lines_short (number + 1) l (omega arith) in
      simp length-append (omega arith)

-- ---- the records of a run: each has four bytes and more, and starts inside it
module _ (s : List ℕ) where
  abbrev Starts : Result ℕ ℕ → Type 0
  Starts (Err p) = p ≤ length s
  Starts (Ok n) = 0 ≤ n

  starts_by : (b : Bool) (at n : ℕ) (r : Records) → at ≤ length s → Starts (reading_from n r) → Starts (pick b (reading_from n r) (Err at))
  starts_by true at n r h k = k
  starts_by false at n r h k = h

  pub record RecordsAt (at : ℕ) : Type 0 where
    pub four : 4 * length (bodies_of s (records s at)) ≤ length s - at
    pub starts : (n : ℕ) → Starts (reading_from n (records s at))

  records_by : (at : ℕ) → at ≤ length s → ((next : ℕ) → at < next → next ≤ length s → RecordsAt next) → (r : RecordAt) → record_at s at ≡ r → RecordsAt at
  unfolding bodies_of reading_from
  records_by at h again (Whole kind start len next) e =
      let w = step_in s at refl e in
      let x = again next (omega arith) (omega arith) in
      record {
        four = rw (records_whole s at kind start len next e) (omega (arith, x.four));
        starts = λ n. rw (records_whole s at kind start len next e) (starts_by (eqb kind 0x0300) at (n + 1) (records s next) h (x.starts (n + 1)));
      }
  records_by at h again Broken e = record { four = rw (records_broken s at e) (omega arith); starts = λ n. rw (records_broken s at e) h }
  records_by at h again End e = record { four = rw (records_end s at e) (omega arith); starts = λ n. rw (records_end s at e) (omega arith) }

  records_from : (f at : ℕ) → length s - at < f → at ≤ length s → RecordsAt at
  records_from zero at h k = absurd (omega arith)
  records_from (suc f) at h k = records_by at k (λ next a b. records_from f next (omega arith) b) (record_at s at) refl

  records_all : RecordsAt 0
  records_all = records_from (suc (length s)) 0 (omega arith) (omega arith)

  pub instances_few : 4 * length (instances_of s) ≤ length s
  unfolding instances_of
  instances_few = omega (arith, records_all.four)

  reading_starts : Starts (run_reading s)
  unfolding run_reading
  reading_starts = records_all.starts 0

-- ---- the output
abbrev Fits : List ℕ → Type 0
Fits s = length s ≤ 16384 * 51 + 90

module _ (q t s : List ℕ) where
  module _ (accepted : check q t ≡ Ok tt) where
    run_lines_fit : length s ≤ run_limit → Fits (text (run_lines (answers_of q t s)))
    run_lines_fit h =
        let f = instances_few s in
        let n : length (answers_of q t s) ≡ length (instances_of s) = length-map (instances_of s) (evaluate q t) in
        let x = totals_of (answers_of q t s) in
        let l = total_short (length (answers_of q t s)) x (omega arith) (totals_sum q t s ∙ sym n) in
        omega (arith, lines_short q t accepted (total_line (length (answers_of q t s)) x) 1 (instances_of s) (omega arith))

    read_fits : length s ≤ run_limit → (r : Result ℕ ℕ) → Starts s r → Fits (text (lines_read q t s r))
    read_fits h (Err p) k = omega (arith, refused_short indivisible p (omega arith) (omega arith))
    read_fits h (Ok n) k = run_lines_fit h

    run_by : (b : Bool) → ltb run_limit (length s) ≡ b → Fits (text (pick b (refused_line indivisible run_limit ∷ []) (lines_read q t s (run_reading s))))
    run_by true e = omega (arith, refused_short indivisible run_limit (omega arith) (omega arith))
    run_by false e = read_fits (ltb-false _ _ e) (run_reading s) (reading_starts s)

    run_fits : Fits (text (lines_accepted q t s))
    run_fits = run_by (ltb run_limit (length s)) refl

  module _ {v : Result (Unit {0}) Refusal} (e : v ≡ check q t) where
    pub accepted_fits : v ≡ Ok tt → Fits (output q t s)
    unfolding output_lines
    accepted_fits f = rw (← e, f) (run_fits (sym e ∙ f))

    -- the code's place is a `usize`
    pub refused_fits : {x : Refusal} → v ≡ Err x → Held x.place → {room : ℕ} → 50 ≤ room → length (output q t s) ≤ room
    unfolding output_lines
    refused_fits {x} f h k = rw (← e, f) (omega (arith, refused_short (number_of x.cause) x.place (omega (arith, number_small x.cause)) h))
