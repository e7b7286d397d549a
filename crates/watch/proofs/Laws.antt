-- One law for each exit of `src/watch.rt`.
use Rattle.std.specs.Prelude.{Err, Ok, Result, IsErr, IsErrAnd}
use Prim.Native.Nat.{ℕ, ◌+◌, ◌≤◌}
use mathlib.Core.List.{List, ◌++◌}
use mathlib.Core.Bool.{Bool, true, false, not, ◌&&◌}
use mathlib.Core.Path.{◌≡◌, sym, ap, ◌∙◌}
use native.Mathlib.Omega.{arith}
use lib.ListN.{length, take, drop, length-append}
use lib.Seq.{take_at, drop_at}
use lib.Dec.{leb}
use borrow.Author.Tests.{not-true, not-false}
use Rattle.base.specs.Pick.{pick}
use Rattle.base.proofs.Says.{Says, says_leb, says_and}
use Rattle.filter.proofs.Returned.{returned}
use Rattle.run.specs.Run.{instances_of}
use Rattle.run.specs.Totals.{marks_of}
use Rattle.run.specs.declared.totals.Totals.{Totals}
use Rattle.run.proofs.Counting.{sum}
use Rattle.run.proofs.Corollaries.{marks_length}
use Rattle.mark.specs.Mark as mark
use Rattle.mark.specs.declared.refusal.MarkRefusal.{MarkRefusal}
use Rattle.mark.proofs.Corollaries as marks
use Rattle.watch.specs.declared.refusal.WatchTotals.{WatchTotals}
use Rattle.watch.specs.declared.refusal.WatchRefusal.{WatchRefusal}
use Rattle.watch.specs.declared.refusal.WatchCause.TheVariants.{Mark}
use Rattle.watch.specs.Window as window
use Rattle.watch.specs.Watch.{in_range, out_of_range, totals_of, watch_marks_of, watch_marked, watch, marks_by, marks_after}

-- "a window of n instances (1 to 64) and a need of k (1 to n)"
pub range_says : (n k : ℕ) → Says (in_range n k) (((1 ≤ n) × (n ≤ 64)) × ((1 ≤ k) × (k ≤ n)))
range_says n k =
    says_and
    (leb 1 n && leb n 64)
    (leb 1 k && leb k n)
    (says_and (leb 1 n) (leb n 64) (says_leb 1 n) (says_leb n 64))
    (says_and (leb 1 k) (leb k n) (says_leb 1 k) (says_leb k n))

-- ---- after a good call of mark: as many plain marks as its totals say, and the bytes beyond
module _ (q t run m : List ℕ) {v : Result Totals MarkRefusal} (ev : v ≡ mark.mark q t run (length m)) {x : Totals} (e : v ≡ Ok x) {u : List ℕ} (eu : u ≡ mark.marks_after q t run m) where
  abbrev beyond : List ℕ
  beyond = drop (length (instances_of run)) m

  after : u ≡ marks_of q t run ++ beyond
  after = eu ∙ marks.after q t run m x (sym ev ∙ e)

  plain : length (marks_of q t run) ≡ sum x
  plain = marks_length q t run ∙ sym (marks.good_sum q t run (length m) x (sym ev ∙ e))

  pub enough : sum x ≤ length u
  enough = omega (arith, ap length after, length-append (marks_of q t run) beyond, plain)

  plain_marks : take (sum x) u ≡ marks_of q t run
  plain_marks = ap (take (sum x)) after ∙ take_at (marks_of q t run) beyond (sum x) plain

  bytes_beyond : drop (sum x) u ≡ beyond
  bytes_beyond = ap (drop (sum x)) after ∙ drop_at (marks_of q t run) beyond (sum x) plain

-- ---- a call's ends
module _ (q t run : List ℕ) (n k : ℕ) where
  leaves : (m : List ℕ) {r : WatchRefusal} → Err r ≡ watch q t run n k (length m) → m ≡ marks_after q t run n k m
  unfolding marks_after
  leaves m e = ap (marks_by q t run n k m) e

  module _ {b : Bool} (eb : b ≡ in_range n k) where
    decided : (size : ℕ) {c : Bool} → b ≡ c → pick c (watch_marked (watch_marks_of q t run n k) (mark.mark q t run size)) out_of_range ≡ watch q t run n k size
    unfolding watch
    decided size e = ap (λ (c : Bool). pick c (watch_marked (watch_marks_of q t run n k) (mark.mark q t run size)) out_of_range) (sym e ∙ eb)

    module _ (h : not b ≡ true) where
      pub range_refuses : (size : ℕ) → out_of_range ≡ watch q t run n k size
      range_refuses size = decided size (not-true b h)

      pub range_leaves : (m : List ℕ) → m ≡ marks_after q t run n k m
      range_leaves m = leaves m (range_refuses (length m))

    module _ (h : not b ≡ false) where
      pub window_some : 1 ≤ n
      window_some = ((range_says n k).to (sym eb ∙ not-false b h)).0.0

      module _ (m : List ℕ) {v : Result Totals MarkRefusal} (ev : v ≡ mark.mark q t run (length m)) where
        as_mark : {w : Result Totals MarkRefusal} → v ≡ w → watch_marked (watch_marks_of q t run n k) w ≡ watch q t run n k (length m)
        as_mark e = ap (watch_marked (watch_marks_of q t run n k)) (sym e ∙ ev) ∙ decided (length m) (not-false b h)

        module _ {r : MarkRefusal} (e : v ≡ Err r) where
          pub mark_refuses : {z : Result WatchTotals WatchRefusal} → IsErr z × IsErrAnd z (λ x. x ≡ record { cause = Mark r.cause; place = r.place }) → z ≡ watch q t run n k (length m)
          mark_refuses g = returned g ∙ as_mark e

          pub mark_leaves : {u : List ℕ} → u ≡ mark.marks_after q t run m → u ≡ marks_after q t run n k m
          mark_leaves eu = eu ∙ marks.refused_leaves q t run m r (sym ev ∙ e) ∙ leaves m (as_mark e)

        module _ {x : Totals} (e : v ≡ Ok x) {u : List ℕ} (eu : u ≡ mark.marks_after q t run m) where
          marked_plain : window.watch_marks n k (take (sum x) u) ≡ watch_marks_of q t run n k
          marked_plain = ap (window.watch_marks n k) (plain_marks q t run m ev e eu)

          pub good_totals : {y : WatchTotals} → y ≡ totals_of (window.watch_marks n k (take (sum x) u)) → Ok y ≡ watch q t run n k (length m)
          good_totals ey = ap Ok (ey ∙ ap totals_of marked_plain) ∙ as_mark e

          pub good_marks : {y : List ℕ} → y ≡ window.watch_marks n k (take (sum x) u) ++ drop (sum x) u → y ≡ marks_after q t run n k m
          unfolding marks_after
          good_marks ey =
              ey
              ∙ ap (λ (l : List ℕ). l ++ drop (sum x) u) marked_plain
              ∙ ap (λ (l : List ℕ). watch_marks_of q t run n k ++ l) (bytes_beyond q t run m ev e eu)
              ∙ ap (marks_by q t run n k m) (as_mark e)
