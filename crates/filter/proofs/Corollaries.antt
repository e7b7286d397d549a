-- What follows from demand 3's agreement: the numbers 30 and 31 exactly; an instance whose values are all NULL.
use Rattle.std.specs.Prelude.{Err, Ok, Result}
use Prim.Native.Nat.{ℕ, suc}
use mathlib.Core.Path.{◌≡◌, refl, sym, ap, ap₂, ◌∙◌, subst}
use mathlib.Core.List.{List}
use mathlib.Core.Bool.{Bool, true, false}
use native.Mathlib.Omega.{arith}
use lib.ListN.{length}
use Rattle.table.specs.Properties.{kinds_of}
use Rattle.instance.specs.Fault.{Conformity, fault_at, conformity}
use Rattle.instance.specs.declared.conform.InstanceFault.{InstanceFault}
use Rattle.instance.specs.declared.conform.InstanceFault.TheVariants.{TooLong, Nonconforming}
use Rattle.instance.specs.declared.conform.InstanceRefusal.{InstanceRefusal}
use Rattle.instance.proofs.Decides.{long, wrong, IsLong, IsWrong, long_exactly, long_place, wrong_exactly}
use Rattle.instance.proofs.First.{FirstFault, first_fault}
use Rattle.instance.proofs.Built.{nulls, nulls_conform}
use Rattle.filter.specs.Refusal.{number_of, call_of}
use Rattle.filter.specs.Check.{check}
use Rattle.filter.specs.Evaluate.{meant_in, answer, answer_if, evaluate, steps}
use Rattle.filter.specs.Demand3.{Answered, instance_refused, instance_too_long, InstanceRefusals}
use Rattle.filter.specs.declared.refusal.Cause.TheVariants as cause
use Rattle.filter.specs.declared.refusal.Answer.{Answer}
use Rattle.filter.specs.declared.refusal.Answer.TheVariants.{Included, Excluded}
use Rattle.filter.proofs.QueryAgree.{truth_call}
use Rattle.filter.proofs.Demand3.{demand3}
use Rattle.filter.proofs.Laws.{accepted_free, evaluates}
use Rattle.filter.specs.declared.refusal.Refusal.{Refusal}

-- ---- 30 and 31
-- an answer's number and place; of an answer that is no refusal, 0
number_in : Result Answer Refusal → ℕ
number_in (Ok (Included n)) = 0
number_in (Ok (Excluded n)) = 0
number_in (Err r) = number_of r.cause

place_in : Result Answer Refusal → ℕ
place_in (Ok (Included n)) = 0
place_in (Ok (Excluded n)) = 0
place_in (Err r) = r.place

not_answered : (b : Bool) (n m : ℕ) (a : Result Answer Refusal) → number_in a ≡ suc m → Ok (answer b n) ≡ a → ⊥
unfolding number_in
not_answered true n m a h e = omega (arith, h, ap number_in e)
not_answered false n m a h e = omega (arith, h, ap number_in e)

-- a fault by its number
long_by : (f : InstanceFault) → number_of (cause.Instance f) ≡ 30 → long f
long_by TooLong e = tt
long_by Nonconforming e = absurd (omega (arith, e))

wrong_by : (f : InstanceFault) → number_of (cause.Instance f) ≡ 31 → f ≡ Nonconforming
wrong_by TooLong e = absurd (omega (arith, e))
wrong_by Nonconforming e = refl

abbrev refusal : InstanceFault → ℕ → InstanceRefusal
refusal f p = record { cause = f; place = p }

module _ (b : Bool) (n : ℕ) where
  answer_long : (k : Conformity) → answer_if k b n ≡ instance_too_long → IsLong k
  unfolding number_in
  answer_long (Ok all) e = not_answered b n 29 instance_too_long refl e
  answer_long (Err r) e = long_by r.cause (ap number_in e)

  answer_wrong : (k : Conformity) (p : ℕ) → answer_if k b n ≡ instance_refused p → k ≡ fault_at p
  unfolding number_in place_in
  answer_wrong (Ok all) p e = absurd (not_answered b n 30 (instance_refused p) refl e)
  answer_wrong (Err r) p e = ap Err (ap₂ refusal (wrong_by r.cause (ap number_in e)) (ap place_in e))

  wrong_answer : (k : Conformity) → IsWrong k → (p : ℕ) × (answer_if k b n ≡ instance_refused p)
  wrong_answer (Ok all) h = absurd h
  wrong_answer (Err r) h = (r.place, by r.cause h)
    where
      by : (f : InstanceFault) → wrong f → answer_if (Err (refusal f r.place)) b n ≡ instance_refused r.place
      by TooLong w = absurd w
      by Nonconforming w = refl

module _ (q t i : List ℕ) (accepted : check q t ≡ Ok tt) where
  comes_to : evaluate q t i ≡ answer_if (conformity t i) (truth_call (meant_in q t i) (call_of q t)) (steps q t i)
  comes_to = evaluates q t i accepted

  refused_as : (p : ℕ) → evaluate q t i ≡ instance_refused p → conformity t i ≡ fault_at p
  refused_as p e = answer_wrong (truth_call (meant_in q t i) (call_of q t)) (steps q t i) (conformity t i) p (sym comes_to ∙ e)

  refused_wrong : (p : ℕ) × (evaluate q t i ≡ instance_refused p) → IsWrong (conformity t i)
  refused_wrong (p, e) = subst IsWrong (sym (refused_as p e)) tt

  wrong_refused : IsWrong (conformity t i) → (p : ℕ) × (evaluate q t i ≡ instance_refused p)
  wrong_refused h =
      let w = wrong_answer (truth_call (meant_in q t i) (call_of q t)) (steps q t i) (conformity t i) h in
      (w.0, comes_to ∙ w.1)

  pub instance_refusals : InstanceRefusals q t i
  instance_refusals =
      record {
        too_long = (
          λ e. (long_exactly t i).0 (answer_long (truth_call (meant_in q t i) (call_of q t)) (steps q t i) (conformity t i) (sym comes_to ∙ e)),
          λ h. comes_to ∙ ap (λ (k : Conformity). answer_if k (truth_call (meant_in q t i) (call_of q t)) (steps q t i)) (long_place t i h),
        );
        nonconforming = (
          λ w. (wrong_exactly t i (accepted_free q t accepted)).0 (refused_wrong w),
          λ h. wrong_refused ((wrong_exactly t i (accepted_free q t accepted)).1 h),
        );
      }

  -- its place is that of the first record at fault
  pub refused_first : (p : ℕ) → evaluate q t i ≡ instance_refused p → FirstFault (kinds_of t) i p
  refused_first p e = first_fault t i p (refused_as p e)

-- ---- an instance whose values are all NULL conforms to every table free of 2 and 3, so that demand 3 says something of each table
pub nulls_answered : (q t : List ℕ) → check q t ≡ Ok tt → Answered (evaluate q t (nulls (length (kinds_of t))))
nulls_answered q t e = (demand3 q t (nulls (length (kinds_of t))) (nulls_conform t (accepted_free q t e))).answers.0 e
