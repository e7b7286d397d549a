-- What follows for a call of watch: when it is refused, the totals, each mark, the bytes beyond.
use Rattle.std.specs.Prelude.{Err, Ok, Result}
use Prim.Native.Nat.{ℕ, ◌+◌, ◌≤◌, ◌<◌}
use mathlib.Core.List.{List, ◌++◌}
use mathlib.Core.Logic.{◌↔◌}
use mathlib.Core.Bool.{Bool, true, false}
use mathlib.Core.Path.{◌≡◌, refl, sym, ap, ◌∙◌}
use native.Mathlib.Omega.{arith}
use lib.ListN.{length, get_or, take, drop, get_or-append}
use Rattle.base.specs.Pick.{pick}
use Rattle.base.proofs.Lists.{beyond_kept}
use Rattle.run.specs.Run.{instances_of}
use Rattle.run.specs.Totals.{marks_of}
use Rattle.run.specs.declared.totals.Totals.{Totals}
use Rattle.run.proofs.Corollaries.{marks_length}
use Rattle.mark.specs.Mark as mark
use Rattle.mark.specs.declared.refusal.MarkRefusal.{MarkRefusal}
use Rattle.watch.specs.declared.refusal.WatchTotals.{WatchTotals}
use Rattle.watch.specs.declared.refusal.WatchRefusal.{WatchRefusal}
use Rattle.watch.specs.declared.refusal.WatchCause.TheVariants.{Window, Mark}
use Rattle.watch.specs.Window.{included, window_mark}
use Rattle.watch.specs.Watch.{in_range, out_of_range, totals_of, watch_marks_of, watch_marked, watch, marks_by, marks_after}
use Rattle.watch.proofs.Marks.{one_exactly, from_sum, watch_marks_at, watch_marks_length}

abbrev window_fault : Result WatchTotals WatchRefusal → ℕ
window_fault w = elim w [ Ok x ↦ 0 | Err r ↦ elim r.cause [ Window ↦ 1 | Mark c ↦ 0 ] ]

module _ (q t run : List ℕ) (n k size : ℕ) where
  not_outside : (ms : List ℕ) (v : Result Totals MarkRefusal) → watch_marked ms v ≡ out_of_range → ⊥
  not_outside ms (Err r) e = let z : ◌≡◌ {A = ℕ} 0 1 = ap window_fault e in omega arith
  not_outside ms (Ok y) e = let z : ◌≡◌ {A = ℕ} 0 1 = ap window_fault e in omega arith

  decides : (b : Bool) (ms : List ℕ) (v : Result Totals MarkRefusal) → (pick b (watch_marked ms v) out_of_range ≡ out_of_range) ↔ (b ≡ false)
  decides true ms v = (λ e. absurd (not_outside ms v e), λ e. let z : ◌≡◌ {A = ℕ} 0 1 = cc in absurd (omega arith))
  decides false ms v = (λ e. refl, λ e. refl)

  -- 42 exactly where the window or the need is outOfRange its range, whatever else is wrong
  pub window_exactly : (watch q t run n k size ≡ out_of_range) ↔ (in_range n k ≡ false)
  unfolding watch
  window_exactly = decides (in_range n k) (watch_marks_of q t run n k) (mark.mark q t run size)

  -- "refused as mark"
  pub refused_as_mark : in_range n k ≡ true → (r : MarkRefusal) → mark.mark q t run size ≡ Err r
      → watch q t run n k size ≡ Err (record { cause = Mark r.cause; place = r.place })
  unfolding watch
  refused_as_mark h r e = rw (h, e) refl

-- ---- a good call: in range, one that mark too would serve, and its totals are counts of its marks
pub record Served (q t run : List ℕ) (n k size : ℕ) (x : WatchTotals) : Type 0 where
  pub in_range_law : in_range n k ≡ true
  pub marked : (y : Totals) × (mark.mark q t run size ≡ Ok y)
  pub totals : x ≡ totals_of (watch_marks_of q t run n k)

module _ (q t run : List ℕ) (n k size : ℕ) (x : WatchTotals) where
  not_totals : (r : WatchRefusal) → Err r ≡ Ok x → ⊥
  not_totals r e = let z : ◌≡◌ {A = ℕ} 0 1 = cc in omega arith

  served_by : (b : Bool) → in_range n k ≡ b → (v : Result Totals MarkRefusal) → mark.mark q t run size ≡ v → (r : WatchRefusal)
      → pick b (watch_marked (watch_marks_of q t run n k) v) (Err r) ≡ Ok x → Served q t run n k size x
  served_by true h (Ok y) g r e = record { in_range_law = h; marked = (y, g); totals = cc }
  served_by true h (Err s) g r e = absurd (not_totals _ e)
  served_by false h v g r e = absurd (not_totals r e)

  pub served : watch q t run n k size ≡ Ok x → Served q t run n k size x
  unfolding watch
  served e = served_by (in_range n k) refl (mark.mark q t run size) refl _ e

  -- ones + zeros is the number of instances
  pub totals_sum : watch q t run n k size ≡ Ok x → x.ones + x.zeros ≡ length (instances_of run)
  totals_sum e =
      ap (λ (y : WatchTotals). y.ones + y.zeros) (served e).totals
      ∙ from_sum n k (marks_of q t run) 0 (length (marks_of q t run))
      ∙ marks_length q t run

-- ---- the marks
module _ (q t run : List ℕ) (n k : ℕ) (m : List ℕ) where
  -- a refused call leaves every byte
  pub refused_leaves : (r : WatchRefusal) → watch q t run n k (length m) ≡ Err r → marks_after q t run n k m ≡ m
  unfolding marks_after
  refused_leaves r e = ap (marks_by q t run n k m) e

  module _ (x : WatchTotals) (good : watch q t run n k (length m) ≡ Ok x) where
    after : marks_after q t run n k m ≡ watch_marks_of q t run n k ++ drop (length (instances_of run)) m
    unfolding marks_after
    after = ap (marks_by q t run n k m) good

    as_many : length (watch_marks_of q t run n k) ≡ length (instances_of run)
    as_many = watch_marks_length n k (marks_of q t run) ∙ marks_length q t run

    -- the j-th mark is that of the window that ends there
    pub watch_at : (j : ℕ) → j < length (instances_of run) → get_or (marks_after q t run n k m) j 0 ≡ window_mark n k (take (j + 1) (marks_of q t run))
    watch_at j h =
        ap (λ (l : List ℕ). get_or l j 0) after
        ∙ get_or-append (watch_marks_of q t run n k) (drop (length (instances_of run)) m) 0 j (omega (arith, as_many))
        ∙ watch_marks_at n k (marks_of q t run) j (omega (arith, marks_length q t run))

    -- "1 when at least k of the last n, up to and with it, are included"
    pub watch_exactly : (j : ℕ) → j < length (instances_of run) → (get_or (marks_after q t run n k m) j 0 ≡ 1) ↔ (k ≤ included n (take (j + 1) (marks_of q t run)))
    watch_exactly j h =
        let w = one_exactly n k (take (j + 1) (marks_of q t run)) in
        (λ e. w.0 (sym (watch_at j h) ∙ e), λ l. watch_at j h ∙ w.1 l)

    -- "bytes beyond keep their values"
    pub watch_beyond : (i : ℕ) → length (instances_of run) ≤ i → get_or (marks_after q t run n k m) i 0 ≡ get_or m i 0
    watch_beyond i h = ap (λ (l : List ℕ). get_or l i 0) after ∙ beyond_kept (watch_marks_of q t run n k) m (length (instances_of run)) i as_many h
