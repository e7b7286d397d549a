-- One law for each exit of `src/`, but for the loop that marks (Marking).
use Rattle.std.specs.Prelude.{Err, Ok, Result, IsErr, IsErrAnd}
use Prim.Native.Nat.{ℕ, ◌≤◌, ◌<◌}
use mathlib.Core.List.{List, ◌++◌}
use mathlib.Core.Bool.{Bool}
use mathlib.Core.Path.{◌≡◌, sym, ap, ◌∙◌}
use native.Mathlib.Omega.{arith}
use lib.ListN.{length, drop}
use borrow.Author.Tests.{lt-ltb, le-ltb}
use Rattle.base.specs.Pick.{pick}
use Rattle.filter.specs.Check.{check}
use Rattle.filter.proofs.Returned.{returned}
use Rattle.filter.specs.declared.refusal.Refusal.{Refusal}
use Rattle.run.specs.declared.fault.RunFault.TheVariants.{Indivisible, MarksTooFew}
use Rattle.mark.specs.declared.refusal.MarkCause.TheVariants.{Call}
use Rattle.mark.specs.declared.refusal.MarkRefusal.{MarkRefusal}
use Rattle.run.specs.declared.totals.Totals.{Totals}
use Rattle.run.specs.Run.{run_reading, instances_of}
use Rattle.run.specs.Totals.{answers_of, marks_of, totals_of}
use Rattle.mark.specs.Mark.{refused_run, mark_read, mark_checked, mark, marks_by, marks_after}
use Rattle.run.proofs.Laws.{divides}

-- ---- a call's ends
module _ (q t run : List ℕ) where
  leaves : (m : List ℕ) {r : MarkRefusal} → Err r ≡ mark q t run (length m) → m ≡ marks_after q t run m
  unfolding marks_after
  leaves m e = ap (marks_by q t run m) e

  module _ {v : Result (Unit {0}) Refusal} (ev : v ≡ check q t) where
    pub check_accepts : v ≡ Ok tt → check q t ≡ Ok tt
    check_accepts e = sym ev ∙ e

    module _ (r : Refusal) (e : v ≡ Err r) where
      refused : (size : ℕ) → Err (record { cause = Call r.cause; place = r.place }) ≡ mark q t run size
      unfolding mark
      refused size = sym (ap (mark_checked q t run size) (sym ev ∙ e))

      pub check_refuses : (size : ℕ) {z : Result Totals MarkRefusal} → IsErr z × IsErrAnd z (λ x. x ≡ record { cause = Call r.cause; place = r.place }) → z ≡ mark q t run size
      check_refuses size g = returned g ∙ refused size

      pub check_leaves : (m : List ℕ) → m ≡ marks_after q t run m
      check_leaves m = leaves m (refused (length m))

  module _ (accepted : check q t ≡ Ok tt) {v : Result ℕ ℕ} (ev : v ≡ run_reading run) where
    accepts : (size : ℕ) {w : Result ℕ ℕ} → v ≡ w → mark_read q t run size w ≡ mark q t run size
    unfolding mark
    accepts size e = sym (ap (mark_checked q t run size) accepted ∙ ap (mark_read q t run size) (sym ev ∙ e))

    module _ (p : ℕ) (e : v ≡ Err p) where
      pub run_refuses : (size : ℕ) {x : Result Totals MarkRefusal} → x ≡ refused_run Indivisible p → x ≡ mark q t run size
      run_refuses size ex = ex ∙ accepts size e

      pub run_leaves : (m : List ℕ) → m ≡ marks_after q t run m
      run_leaves m = leaves m (accepts (length m) e)

    module _ (n : ℕ) (e : v ≡ Ok n) where
      few : (size : ℕ) → size < n → refused_run MarksTooFew 0 ≡ mark q t run size
      few size h =
          sym (ap (λ (b : Bool). pick b (refused_run MarksTooFew 0) (Ok (totals_of (answers_of q t run)))) (lt-ltb size n h))
          ∙ accepts size e

      pub few_refuses : (size : ℕ) → size < n → {x : Result Totals MarkRefusal} → x ≡ refused_run MarksTooFew 0 → x ≡ mark q t run size
      few_refuses size h ex = ex ∙ few size h

      pub few_leaves : (m : List ℕ) → length m < n → m ≡ marks_after q t run m
      few_leaves m h = leaves m (few (length m) h)

      pub enough : (size : ℕ) → n ≤ size → length (instances_of run) ≤ size
      enough size h = omega (arith, divides run n (sym ev ∙ e))

      good : (size : ℕ) → n ≤ size → Ok (totals_of (answers_of q t run)) ≡ mark q t run size
      good size h =
          sym (ap (λ (b : Bool). pick b (refused_run MarksTooFew 0) (Ok (totals_of (answers_of q t run)))) (le-ltb size n h))
          ∙ accepts size e

      pub good_totals : (size : ℕ) → n ≤ size → {x : Totals} → x ≡ totals_of (answers_of q t run) → Ok x ≡ mark q t run size
      good_totals size h ex = ap Ok ex ∙ good size h

      pub good_marks : (m : List ℕ) → n ≤ length m → {y : List ℕ} → y ≡ marks_of q t run ++ drop (length (instances_of run)) m → y ≡ marks_after q t run m
      unfolding marks_after
      good_marks m h ey = ey ∙ ap (marks_by q t run m) (good (length m) h)
