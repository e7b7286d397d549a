-- 02 Q-3 for marks: two runs that divide, and whose instances, one by one, hold the same records for the properties that the query names, get the same marks and totals.
use Rattle.std.specs.Prelude.{Err, Ok, Result}
use Prim.Native.Nat.{ℕ, suc, ◌+◌}
use mathlib.Core.Path.{◌≡◌, refl, sym, ap, ap₂, ◌∙◌}
use mathlib.Core.List.{List, [], ◌∷◌, ◌++◌, map}
use mathlib.Core.Bool.{Bool}
use native.Mathlib.Omega.{arith}
use lib.ListN.{length, drop}
use lib.Dec.{ltb}
use Rattle.base.specs.Pick.{pick}
use Rattle.instance.specs.Conforms.{Conforms}
use Rattle.instance.specs.Fault.{Conformity, conformity}
use Rattle.instance.proofs.Decides.{no_fault_conforms}
use Rattle.filter.specs.Check.{check}
use Rattle.filter.specs.Evaluate.{evaluate}
use Rattle.filter.specs.declared.refusal.Refusal.{Refusal}
use Rattle.filter.specs.declared.refusal.Answer.{Answer}
use Rattle.filter.proofs.Laws.{accepted_free, evaluate_nonconforming}
use Rattle.run.proofs.Laws.{divides}
use Rattle.run.specs.Run.{run_reading, instances_of}
use Rattle.run.specs.Totals.{mark_of, is_included, is_excluded, is_failed, count, totals_of}
use Rattle.run.specs.declared.totals.Totals.{Totals}
use Rattle.run.specs.declared.fault.RunFault.TheVariants.{MarksTooFew}
use Rattle.mark.specs.Mark.{refused_run, mark_checked, mark, marks_by, marks_after}
use Rattle.invariance.specs.NamedProperties.{Member, named_properties}
use Rattle.invariance.specs.SameRecords.{SameBut, SameInstance, kept, conforming, failing, SameInstances, ends, next, SameMarks}
use Rattle.invariance.proofs.SameRecords.{same_records, unnamed_records}
use Rattle.mark.specs.declared.refusal.MarkRefusal.{MarkRefusal}

-- one answer, or two that failed, with whatever place
data SameMark : Result Answer Refusal → Result Answer Refusal → Type 0 where
  answers : {a : Result Answer Refusal} → SameMark a a
  failures : {r s : Refusal} → SameMark (Err r) (Err s)

-- what looks into no refusal doesn't tell them apart
same_by : {A : Type 0} {a b : Result Answer Refusal} (f : Result Answer Refusal → A) → ((r s : Refusal) → f (Err r) ≡ f (Err s)) → SameMark a b → f a ≡ f b
same_by f blind answers = refl
same_by f blind (failures {r} {s}) = blind r s

module _ (q t : List ℕ) (accepted : check q t ≡ Ok tt) where
  -- what doesn't conform fails
  fails : (i : List ℕ) → (Conforms t i → ⊥) → (r : Refusal) × (evaluate q t i ≡ Err r)
  fails i wrong = go (conformity t i) refl
    where
      go : (k : Conformity) → conformity t i ≡ k → (r : Refusal) × (evaluate q t i ≡ Err r)
      go (Ok all) e = absurd (wrong (no_fault_conforms t i (accepted_free q t accepted) e))
      go (Err f) e = (_, sym (evaluate_nonconforming q t i accepted refl f e))

  mark_same : {i j : List ℕ} → SameInstance (named_properties q t) t i j → SameMark (evaluate q t i) (evaluate q t j)
  mark_same kept = answers
  mark_same {i} {j} (conforming c d h) = rw (same_records q t i j c d h) answers
  mark_same {i} {j} (failing g h) = rw ((fails i g).1, (fails j h).1) failures

  marks_each : {is js : List (List ℕ)} → SameInstances (named_properties q t) t is js → map mark_of (map (evaluate q t) is) ≡ map mark_of (map (evaluate q t) js)
  marks_each ends = refl
  marks_each (next h r) = ap₂ (λ (m : ℕ) (ms : List ℕ). m ∷ ms) (same_by mark_of (λ r s. refl) (mark_same h)) (marks_each r)

  count_each : {is js : List (List ℕ)} (sort : Result Answer Refusal → Bool) → ((r s : Refusal) → sort (Err r) ≡ sort (Err s)) → SameInstances (named_properties q t) t is js
      → count sort (map (evaluate q t) is) ≡ count sort (map (evaluate q t) js)
  unfolding count
  count_each sort blind ends = refl
  count_each sort blind (next h r) = ap₂ (λ (b : Bool) (n : ℕ). pick b 1 0 + n) (same_by sort blind (mark_same h)) (count_each sort blind r)

  totals_each : {is js : List (List ℕ)} → SameInstances (named_properties q t) t is js → totals_of (map (evaluate q t) is) ≡ totals_of (map (evaluate q t) js)
  totals_each h =
      let a = count_each is_included (λ r s. refl) h in
      let b = count_each is_excluded (λ r s. refl) h in
      let c = count_each is_failed (λ r s. refl) h in
      cc

all_kept : {ns t : List ℕ} (is : List (List ℕ)) → SameInstances ns t is is
all_kept [] = ends
all_kept (i ∷ is) = next kept (all_kept is)

around : {ns t i j : List ℕ} (before : List (List ℕ)) → SameInstance ns t i j → (after : List (List ℕ)) → SameInstances ns t (before ++ (i ∷ after)) (before ++ (j ∷ after))
around [] h after = next h (all_kept after)
around (x ∷ before) h after = next kept (around before h after)

as_many : {ns t : List ℕ} {is js : List (List ℕ)} → SameInstances ns t is js → length is ≡ length js
as_many ends = refl
as_many (next h r) = ap suc (as_many r)

module _ (q t run other : List ℕ) {n k : ℕ} (d : run_reading run ≡ Ok n) (e : run_reading other ≡ Ok k) where
  module _ (h : SameInstances (named_properties q t) t (instances_of run) (instances_of other)) where
    count_same : k ≡ n
    count_same = divides other k e ∙ sym (as_many h) ∙ sym (divides run n d)

    returns_same : (size : ℕ) (c : Result (Unit {0}) Refusal) → check q t ≡ c → mark_checked q t run size c ≡ mark_checked q t other size c
    returns_same size (Err r) f = refl
    returns_same size (Ok tt) f =
        rw (d, e, count_same) (ap (λ (x : Totals). pick (ltb size n) (refused_run MarksTooFew 0) (Ok x)) (totals_each q t f h))

    marks_same : (m : List ℕ) (c : Result (Unit {0}) Refusal) → check q t ≡ c → (x : Result Totals MarkRefusal) → x ≡ mark_checked q t run (length m) c → marks_by q t run m x ≡ marks_by q t other m x
    marks_same m c f (Err r) g = refl
    marks_same m (Ok tt) f (Ok x) g = ap₂ (λ (a : List ℕ) (l : ℕ). a ++ drop l m) (marks_each q t f h) (as_many h)
    marks_same m (Err r) f (Ok x) g = absurd (let z : ◌≡◌ {A = ℕ} 0 1 = cc in omega arith)

    pub same_marks : (m : List ℕ) → SameMarks q t run other m
    unfolding mark marks_after
    same_marks m =
        let r = returns_same (length m) (check q t) refl in
        record { returns = r; marks = marks_same m (check q t) refl _ refl ∙ ap (marks_by q t other m) r }

  -- one instance with a change to one property that isn't named
  pub unnamed_marks : (before after : List (List ℕ)) (i j : List ℕ) (p : ℕ) → instances_of run ≡ before ++ (i ∷ after) → instances_of other ≡ before ++ (j ∷ after)
      → Conforms t i → Conforms t j → (Member p (named_properties q t) → ⊥) → SameBut p t i j → (m : List ℕ) → SameMarks q t run other m
  unnamed_marks before after i j p a b c f out h =
      same_marks (rw (a, b) (around before (conforming c f (unnamed_records q t i j p out h)) after))
