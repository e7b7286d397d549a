-- mark (query, table, run, marks): 01 "What can go wrong with a call", the causes in the order of its table. 30 and 31 are no refusals of mark: an instance that
-- fails is marked and counted. What mark returns depends on the marks' length alone, never on what stands in them.
use Rattle.std.specs.Prelude.{ℕ, List, ◌++◌, length, drop, ltb, Err, Ok, Result}
use Rattle.base.specs.Pick.{pick}
use Rattle.filter.specs.Refusal as call
use Rattle.run.specs.Fault as run
use Rattle.filter.specs.Check.{check}
use Rattle.run.specs.declared.fault.RunFault.{RunFault}
use Rattle.run.specs.declared.fault.RunFault.TheVariants.{Indivisible, MarksTooFew}
use Rattle.mark.specs.declared.refusal.MarkCause.{MarkCause}
use Rattle.mark.specs.declared.refusal.MarkCause.TheVariants.{Call, Run}
use Rattle.run.specs.Run.{run_reading, instances_of}
use Rattle.run.specs.Totals.{answers_of, marks_of, totals_of}
use Rattle.run.specs.declared.totals.Totals.{Totals}
use Rattle.mark.specs.declared.refusal.MarkRefusal.{MarkRefusal}
use Rattle.filter.specs.declared.refusal.Refusal.{Refusal}

-- 01's number of a cause
abbrev pub number_of : MarkCause → ℕ
number_of (Call c) = call.number_of c
number_of (Run f) = run.number_of f

abbrev pub refused_run : RunFault → (place : ℕ) → Result Totals MarkRefusal
refused_run f p = Err (record { cause = Run f; place = p })

-- the run before the marks; `size` is the marks' length
abbrev pub mark_read : (query table run : List ℕ) (size : ℕ) → Result ℕ ℕ → Result Totals MarkRefusal
mark_read q t run size (Err p) = refused_run Indivisible p
mark_read q t run size (Ok n) = pick (ltb size n) (refused_run MarksTooFew 0) (Ok (totals_of (answers_of q t run)))

-- the check before the run
abbrev pub mark_checked : (query table run : List ℕ) (size : ℕ) → Result (Unit {0}) Refusal → Result Totals MarkRefusal
mark_checked q t run size (Err r) = Err (record { cause = Call r.cause; place = r.place })
mark_checked q t run size (Ok tt) = mark_read q t run size (run_reading run)

unfoldable pub mark : (query table run : List ℕ) (size : ℕ) → Result Totals MarkRefusal
mark q t run size = mark_checked q t run size (check q t)

-- the marks after a call: as they were where it is refused; else a mark for each instance, and "bytes beyond keep their values"
abbrev pub marks_by : (query table run marks : List ℕ) → Result Totals MarkRefusal → List ℕ
marks_by q t run m (Err r) = m
marks_by q t run m (Ok x) = marks_of q t run ++ drop (length (instances_of run)) m

unfoldable pub marks_after : (query table run marks : List ℕ) → List ℕ
marks_after q t run m = marks_by q t run m (mark q t run (length m))
