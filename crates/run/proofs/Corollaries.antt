-- What follows for a run's instances: how many they are, that 30 never occurs under an accepted query and 255 stands for 31.
use Rattle.std.specs.Prelude.{Err, Ok, Result}
use Prim.Native.Nat.{ℕ, zero, suc, ◌-◌, ◌≤◌, ◌<◌}
use mathlib.Core.List.{List, [], ◌∷◌}
use mathlib.Core.Logic.{◌↔◌}
use mathlib.Core.Bool.{Bool, true, false}
use mathlib.Core.Path.{◌≡◌, refl, sym, ap, ◌∙◌}
use native.Mathlib.Omega.{arith}
use lib.ListN.{length, get_or, length-map}
use Rattle.base.specs.Part.{part}
use Rattle.base.proofs.ByteLists.{Bytes}
use Rattle.base.proofs.Lists.{part_short}
use Rattle.record.specs.Record.{record_at, records}
use Rattle.record.specs.declared.read.RecordAt.{RecordAt}
use Rattle.record.specs.declared.read.RecordAt.TheVariants.{Whole, Broken, End}
use Rattle.record.proofs.Records.{records_whole, records_broken, records_end}
use Rattle.record.proofs.Reach.{step_less}
use Rattle.record.proofs.Small.{whole_small}
use Rattle.instance.specs.Conforms.{Conforms}
use Rattle.instance.specs.Fault.{Conformity, conforming, conformity}
use Rattle.instance.specs.declared.conform.InstanceFault.{InstanceFault}
use Rattle.instance.specs.declared.conform.InstanceFault.TheVariants.{TooLong, Nonconforming}
use Rattle.instance.proofs.Decides.{long_exactly}
use Rattle.filter.specs.Refusal.{call_of}
use Rattle.filter.specs.Check.{check}
use Rattle.filter.specs.Evaluate.{meant_in, answer_if, evaluate, steps}
use Rattle.filter.specs.Demand3.{instance_refused, instance_too_long}
use Rattle.filter.specs.declared.refusal.Answer.{Answer}
use Rattle.filter.specs.declared.refusal.Answer.TheVariants.{Included, Excluded}
use Rattle.filter.proofs.QueryAgree.{truth_call}
use Rattle.filter.proofs.Laws.{evaluates}
use Rattle.filter.proofs.Corollaries.{instance_refusals}
use Rattle.run.specs.Run.{bodies_of, instances_of}
use Rattle.run.specs.Totals.{mark_of, answers_of, marks_of, count, totals_of}
use Rattle.run.proofs.Counting.{sum}
use Rattle.filter.specs.declared.refusal.Refusal.{Refusal}

-- ---- the totals
sum_of : (l : List (Result Answer Refusal)) → sum (totals_of l) ≡ length l
unfolding count
sum_of [] = refl
sum_of (Ok (Included n) ∷ l) = omega (arith, sum_of l)
sum_of (Ok (Excluded n) ∷ l) = omega (arith, sum_of l)
sum_of (Err r ∷ l) = omega (arith, sum_of l)

-- one answer for each instance, and one mark
pub answers_length : (q t run : List ℕ) → length (answers_of q t run) ≡ length (instances_of run)
answers_length q t run = length-map (instances_of run) (evaluate q t)

pub marks_length : (q t run : List ℕ) → length (marks_of q t run) ≡ length (instances_of run)
marks_length q t run = length-map (answers_of q t run) mark_of ∙ answers_length q t run

-- included + excluded + failed is the number of instances
pub totals_sum : (q t run : List ℕ) → sum (totals_of (answers_of q t run)) ≡ length (instances_of run)
totals_sum q t run = sum_of (answers_of q t run) ∙ answers_length q t run

-- ---- the instances of a run: a body's length has two bytes
module _ (s : List ℕ) (b : Bytes s) where
  first_short : (at kind start len next : ℕ) → record_at s at ≡ Whole kind start len next → (rest : List (List ℕ)) → ((i : ℕ) → length (get_or rest i []) ≤ 65535)
      → (i : ℕ) → length (get_or (part s start len ∷ rest) i []) ≤ 65535
  first_short at kind start len next e rest f zero = let w = whole_small s at kind start len next b e in omega (arith, w.body_small, part_short s start len)
  first_short at kind start len next e rest f (suc i) = f i

  short_from : (n at : ℕ) → length s - at < n → (i : ℕ) → length (get_or (bodies_of s (records s at)) i []) ≤ 65535
  unfolding bodies_of
  short_from zero at h = absurd (omega arith)
  short_from (suc n) at h = go (record_at s at) refl (λ next l. short_from n next l)
    where
      go : (r : RecordAt) → record_at s at ≡ r → ((next : ℕ) → length s - next < n → (i : ℕ) → length (get_or (bodies_of s (records s next)) i []) ≤ 65535)
          → (i : ℕ) → length (get_or (bodies_of s (records s at)) i []) ≤ 65535
      go (Whole kind start len next) e f =
          let l = step_less s at refl e in
          rw (records_whole s at kind start len next e) (first_short at kind start len next e (bodies_of s (records s next)) (f next (omega arith)))
      go Broken e f = rw (records_broken s at e) (λ i. omega arith)
      go End e f = rw (records_end s at e) (λ i. omega arith)

  pub instance_short : (i : ℕ) → length (get_or (instances_of s) i []) ≤ 65535
  unfolding instances_of
  instance_short i = short_from (suc (length s)) 0 (omega arith) i

-- an instance of at most 65,535 bytes, under an accepted query: 255 stands for 31, exactly where it doesn't conform
module _ (q t i : List ℕ) (accepted : check q t ≡ Ok tt) (h : length i ≤ 65535) where
  not_failed : (b : Bool) (n : ℕ) → mark_of (answer_if conforming b n) ≡ 255 → ⊥
  not_failed true n e = omega (arith, e)
  not_failed false n e = omega (arith, e)

  fails_as : (b : Bool) (n : ℕ) (k : Conformity) → conformity t i ≡ k → mark_of (answer_if k b n) ≡ 255 → (p : ℕ) × (answer_if k b n ≡ instance_refused p)
  fails_as b n (Ok all) e f = absurd (not_failed b n f)
  fails_as b n (Err r) e f = by r.cause refl
    where
      by : (c : InstanceFault) → r.cause ≡ c → (p : ℕ) × (answer_if (Err r) b n ≡ instance_refused p)
      by TooLong g = absurd (let l = (long_exactly t i).0 (rw (e, g) tt) in omega arith)
      by Nonconforming g = (r.place, rw g refl)

  comes_to : evaluate q t i ≡ answer_if (conformity t i) (truth_call (meant_in q t i) (call_of q t)) (steps q t i)
  comes_to = evaluates q t i accepted

  pub fails_31 : mark_of (evaluate q t i) ≡ 255 → (p : ℕ) × (evaluate q t i ≡ instance_refused p)
  fails_31 e =
      let w = fails_as (truth_call (meant_in q t i) (call_of q t)) (steps q t i) (conformity t i) refl (ap mark_of (sym comes_to) ∙ e) in
      (w.0, comes_to ∙ w.1)

  pub fails_exactly : (mark_of (evaluate q t i) ≡ 255) ↔ (Conforms t i → ⊥)
  fails_exactly = (
    λ e. ((instance_refusals q t i accepted).nonconforming.0 (fails_31 e)).1,
    λ n. let w = (instance_refusals q t i accepted).nonconforming.1 (h, n) in ap mark_of w.1,
  )

-- of the instances of a run
module _ (q t run : List ℕ) (b : Bytes run) (accepted : check q t ≡ Ok tt) (i : ℕ) where
  pub never_30 : evaluate q t (get_or (instances_of run) i []) ≡ instance_too_long → ⊥
  never_30 e = let l = (instance_refusals q t (get_or (instances_of run) i []) accepted).too_long.0 e in omega (arith, instance_short run b i)

  pub failed_31 : mark_of (evaluate q t (get_or (instances_of run) i [])) ≡ 255 → (p : ℕ) × (evaluate q t (get_or (instances_of run) i []) ≡ instance_refused p)
  failed_31 e = fails_31 q t (get_or (instances_of run) i []) accepted (instance_short run b i) e

  pub failed_exactly : (mark_of (evaluate q t (get_or (instances_of run) i [])) ≡ 255) ↔ (Conforms t (get_or (instances_of run) i []) → ⊥)
  failed_exactly = fails_exactly q t (get_or (instances_of run) i []) accepted (instance_short run b i)
