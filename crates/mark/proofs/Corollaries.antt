-- What follows for a call of mark: the totals, each mark, the bytes beyond.
use Rattle.std.specs.Prelude.{Err, Ok, Result}
use Prim.Native.Nat.{ℕ, zero, suc, ◌≤◌, ◌<◌}
use mathlib.Core.List.{List, [], ◌∷◌, ◌++◌, map}
use mathlib.Core.Bool.{Bool, true, false}
use mathlib.Core.Path.{◌≡◌, refl, ap, ◌∙◌}
use native.Mathlib.Omega.{arith}
use lib.ListN.{length, get_or, drop, get_or-append}
use lib.Dec.{ltb}
use Rattle.base.specs.Pick.{pick}
use Rattle.base.proofs.Lists.{beyond_kept}
use Rattle.filter.specs.Check.{check}
use Rattle.filter.specs.Evaluate.{evaluate}
use Rattle.mark.specs.declared.refusal.MarkRefusal.{MarkRefusal}
use Rattle.run.specs.declared.totals.Totals.{Totals}
use Rattle.run.specs.Run.{run_reading, instances_of}
use Rattle.run.specs.Totals.{mark_of, answers_of, marks_of, totals_of}
use Rattle.mark.specs.Mark.{mark_read, mark_checked, mark, marks_by, marks_after}
use Rattle.run.proofs.Counting.{sum}
use Rattle.run.proofs.Corollaries.{answers_length, marks_length, totals_sum}
use Rattle.filter.specs.declared.refusal.Refusal.{Refusal}

-- a good call returns the totals of its instances' answers
not_totals : (r : MarkRefusal) (x : Totals) → Err r ≡ Ok x → ⊥
not_totals r x e = let z : ◌≡◌ {A = ℕ} 0 1 = cc in omega arith

module _ (q t run : List ℕ) (size : ℕ) (x : Totals) where
  good_size : (b : Bool) (r : MarkRefusal) → pick b (Err r) (Ok (totals_of (answers_of q t run))) ≡ Ok x → x ≡ totals_of (answers_of q t run)
  good_size true r e = absurd (not_totals r x e)
  good_size false r e = cc

  good_read : (v : Result ℕ ℕ) → mark_read q t run size v ≡ Ok x → x ≡ totals_of (answers_of q t run)
  good_read (Err p) e = absurd (not_totals _ x e)
  good_read (Ok n) e = good_size (ltb size n) _ e

  good_checked : (c : Result (Unit {0}) Refusal) → mark_checked q t run size c ≡ Ok x → x ≡ totals_of (answers_of q t run)
  good_checked (Err r) e = absurd (not_totals _ x e)
  good_checked (Ok tt) e = good_read (run_reading run) e

  pub good_totals : mark q t run size ≡ Ok x → x ≡ totals_of (answers_of q t run)
  unfolding mark
  good_totals e = good_checked (check q t) e

  pub good_sum : mark q t run size ≡ Ok x → sum x ≡ length (instances_of run)
  good_sum e = ap sum (good_totals e) ∙ totals_sum q t run

-- ---- the marks
mapped_at : {A B : Type 0} (f : A → B) (l : List A) (i : ℕ) (d : B) (e : A) → i < length l → get_or (map f l) i d ≡ f (get_or l i e)
mapped_at f [] i d e h = absurd (omega arith)
mapped_at f (x ∷ l) zero d e h = refl
mapped_at f (x ∷ l) (suc i) d e h = mapped_at f l i d e (omega arith)

module _ (q t run m : List ℕ) where
  -- a refused call leaves every byte
  pub refused_leaves : (r : MarkRefusal) → mark q t run (length m) ≡ Err r → marks_after q t run m ≡ m
  unfolding marks_after
  refused_leaves r e = ap (marks_by q t run m) e

  module _ (x : Totals) (good : mark q t run (length m) ≡ Ok x) where
    pub after : marks_after q t run m ≡ marks_of q t run ++ drop (length (instances_of run)) m
    unfolding marks_after
    after = ap (marks_by q t run m) good

    -- the i-th mark is the byte of what evaluate says of the i-th instance
    pub mark_at : (i : ℕ) → i < length (instances_of run) → get_or (marks_after q t run m) i 0 ≡ mark_of (evaluate q t (get_or (instances_of run) i []))
    mark_at i h =
        ap (λ (l : List ℕ). get_or l i 0) after
        ∙ get_or-append (marks_of q t run) (drop (length (instances_of run)) m) 0 i (omega (arith, marks_length q t run))
        ∙ mapped_at mark_of (answers_of q t run) i 0 (evaluate q t []) (omega (arith, answers_length q t run))
        ∙ ap mark_of (mapped_at (evaluate q t) (instances_of run) i (evaluate q t []) [] h)

    -- "bytes beyond keep their values"
    pub mark_beyond : (i : ℕ) → length (instances_of run) ≤ i → get_or (marks_after q t run m) i 0 ≡ get_or m i 0
    mark_beyond i h = ap (λ (l : List ℕ). get_or l i 0) after ∙ beyond_kept (marks_of q t run) m (length (instances_of run)) i (marks_length q t run) h
