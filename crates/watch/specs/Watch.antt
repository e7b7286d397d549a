-- watch (query, table, run, window, need, marks): 02 Q-4. "Refused as mark, and 42 for n or k outside its range, tried before the table; its place is 0." What watch
-- returns depends on the marks' length alone, never on what stands in them.
use Rattle.std.specs.Prelude.{ℕ, List, ◌++◌, Bool, ◌&&◌, length, drop, leb, Err, Ok, Result}
use Rattle.base.specs.Pick.{pick}
use Rattle.run.specs.Run.{instances_of}
use Rattle.run.specs.Totals.{marks_of, count}
use Rattle.mark.specs.Mark as mark
use Rattle.watch.specs.declared.refusal.WatchTotals.{WatchTotals}
use Rattle.watch.specs.declared.refusal.WatchCause.{WatchCause}
use Rattle.watch.specs.declared.refusal.WatchCause.TheVariants.{Window, Mark}
use Rattle.watch.specs.Window.{is_one, is_zero, watch_marks}
use Rattle.run.specs.declared.totals.Totals.{Totals}
use Rattle.mark.specs.declared.refusal.MarkRefusal.{MarkRefusal}
use Rattle.watch.specs.declared.refusal.WatchRefusal.{WatchRefusal}

abbrev pub number_of : WatchCause → ℕ
number_of Window = 42
number_of (Mark c) = mark.number_of c

-- "a window of n instances (1 to 64) and a need of k (1 to n)"
abbrev pub in_range : (window need : ℕ) → Bool
in_range n k = (leb 1 n && leb n 64) && (leb 1 k && leb k n)

-- "totals are of ones and zeros"
abbrev pub totals_of : (marks : List ℕ) → WatchTotals
totals_of ms = record { ones = count is_one ms; zeros = count is_zero ms }

-- "the marks equal those worked out from the plain marks for every run"
abbrev pub watch_marks_of : (query table run : List ℕ) (window need : ℕ) → List ℕ
watch_marks_of q t run n k = watch_marks n k (marks_of q t run)

-- "refused as mark": with mark's cause and place
abbrev pub watch_marked : (marks : List ℕ) → Result Totals MarkRefusal → Result WatchTotals WatchRefusal
watch_marked ms (Err r) = Err (record { cause = Mark r.cause; place = r.place })
watch_marked ms (Ok x) = Ok (totals_of ms)

abbrev pub out_of_range : Result WatchTotals WatchRefusal
out_of_range = Err (record { cause = Window; place = 0 })

-- the range before all else; `size` is the marks' length
unfoldable pub watch : (query table run : List ℕ) (window need size : ℕ) → Result WatchTotals WatchRefusal
watch q t run n k size = pick (in_range n k) (watch_marked (watch_marks_of q t run n k) (mark.mark q t run size)) out_of_range

-- the marks after a call: as they were where it is refused; else a mark for each instance, and "bytes beyond keep their values"
abbrev pub marks_by : (query table run : List ℕ) (window need : ℕ) (marks : List ℕ) → Result WatchTotals WatchRefusal → List ℕ
marks_by q t run n k m (Err r) = m
marks_by q t run n k m (Ok x) = watch_marks_of q t run n k ++ drop (length (instances_of run)) m

unfoldable pub marks_after : (query table run : List ℕ) (window need : ℕ) (marks : List ℕ) → List ℕ
marks_after q t run n k m = marks_by q t run n k m (watch q t run n k (length m))
