-- The plain marks that a watch counts, and what it makes of them with a window and a need of one: the plain marks with 255 as 0.
use Rattle.std.specs.Prelude.{Err, Ok, Result}
use Prim.Native.Nat.{ℕ, zero, suc, ◌+◌, ◌-◌, ◌≤◌, ◌<◌}
use mathlib.Core.List.{List, [], ◌∷◌, map}
use mathlib.Core.Bool.{Bool, true, false}
use mathlib.Core.Path.{◌≡◌, refl, sym, ap, ap₂, ◌∙◌}
use native.Mathlib.Omega.{arith}
use lib.ListN.{length, get_or, take, drop}
use lib.Seq.{length-take-le}
use lib.Dec.{leb, eqb}
use Rattle.base.specs.Pick.{pick}
use Rattle.base.proofs.Lists.{at_next, at_end_law}
use Rattle.filter.specs.declared.refusal.Answer.{Answer}
use Rattle.filter.specs.declared.refusal.Answer.TheVariants.{Included, Excluded}
use Rattle.run.specs.Totals.{mark_of, answers_of, marks_of, is_included, count}
use Rattle.run.proofs.Counts.{one, count_none}
use Rattle.watch.specs.Window.{is_one, included, window_mark, watch_marks_from, watch_marks}
use Rattle.watch.proofs.Windows.{ends_with}
use Rattle.watch.proofs.Marks.{from_none, from_next}
use Rattle.filter.specs.declared.refusal.Refusal.{Refusal}

-- a plain mark is 1 where evaluate includes the instance, and nowhere else
pub one_included : (a : Result Answer Refusal) → is_one (mark_of a) ≡ is_included a
one_included (Ok (Included s)) = refl
one_included (Ok (Excluded s)) = refl
one_included (Err r) = refl

-- ---- a window and a need of one
module _ (ms : List ℕ) where
  last_alone : (j : ℕ) → j < length ms → included 1 (take (j + 1) ms) ≡ one is_one (get_or ms j 0)
  last_alone j h =
      let l : length (take j ms) ≤ j + 1 - 1 = omega (arith, length-take-le j ms (let z : j ≤ length ms = omega arith in z)) in
      let n : count is_one (drop (j + 1 - 1) (take j ms)) ≡ 0 = at_end_law (count is_one) (take j ms) (j + 1 - 1) l ∙ count_none is_one in
      omega (arith, ends_with 1 ms j h (let z : 1 ≤ 1 = omega arith in z))

  picked_again : (b : Bool) → ◌≡◌ {A = ℕ} (pick (leb 1 (pick b 1 0)) 1 0) (pick b 1 0)
  picked_again true = refl
  picked_again false = refl

  mark_alone : (j : ℕ) → j < length ms → window_mark 1 1 (take (j + 1) ms) ≡ one is_one (get_or ms j 0)
  mark_alone j h = ap (λ (i : ℕ). pick (leb 1 i) 1 0) (last_alone j h) ∙ picked_again (is_one (get_or ms j 0))

  alone_from : (c j : ℕ) → j + c ≡ length ms → watch_marks_from 1 1 ms j c ≡ map (one is_one) (drop j ms)
  alone_from zero j e = from_none 1 1 ms j ∙ sym (at_end_law (map (one is_one)) ms j (omega arith))
  alone_from (suc c) j e =
      from_next 1 1 ms j c
      ∙ ap₂ (λ (m : ℕ) (l : List ℕ). m ∷ l) (mark_alone j (omega arith)) (alone_from c (j + 1) (omega arith))
      ∙ sym (at_next (map (one is_one)) ms j (omega arith))

  pub alone : watch_marks 1 1 ms ≡ map (λ (m : ℕ). pick (is_one m) 1 0) ms
  alone = alone_from (length ms) 0 (omega arith)

-- of a run's plain marks, which are 1, 0 and 255
failed_as_zero : (answers : List (Result Answer Refusal)) → map (one is_one) (map mark_of answers) ≡ map (λ (m : ℕ). pick (eqb m 255) 0 m) (map mark_of answers)
failed_as_zero [] = refl
failed_as_zero (Ok (Included s) ∷ rest) = ap (λ (l : List ℕ). 1 ∷ l) (failed_as_zero rest)
failed_as_zero (Ok (Excluded s) ∷ rest) = ap (λ (l : List ℕ). 0 ∷ l) (failed_as_zero rest)
failed_as_zero (Err r ∷ rest) = ap (λ (l : List ℕ). 0 ∷ l) (failed_as_zero rest)

-- the plain marks with 255 replaced by 0
pub one_of_one : (q t run : List ℕ) → watch_marks 1 1 (marks_of q t run) ≡ map (λ (m : ℕ). pick (eqb m 255) 0 m) (marks_of q t run)
one_of_one q t run = alone (marks_of q t run) ∙ failed_as_zero (answers_of q t run)
