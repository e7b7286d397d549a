-- Demand 3, from the agreement of the check of a query with its meaning (proofs/QueryAgree).
use Rattle.std.specs.Prelude.{Err, Ok, Result}
use Prim.Native.Nat.{ℕ}
use mathlib.Core.Path.{◌≡◌, refl, sym, ap, ◌∙◌, subst}
use mathlib.Core.List.{List}
use mathlib.Core.Logic.{◌⊎◌, inl, inr, ◌↔◌}
use mathlib.Core.Bool.{Bool, true, false}
use native.Mathlib.Omega.{arith}
use Rattle.instance.specs.Conforms.{Conforms}
use Rattle.instance.specs.Fault.{Conformity, conforming, conformity}
use Rattle.instance.proofs.Decides.{conforms_no_fault}
use Rattle.filter.specs.Refusal.{call_of}
use Rattle.filter.specs.Check.{check}
use Rattle.filter.specs.Evaluate.{meant_in, answer, answer_if, evaluate, steps}
use Rattle.filter.specs.Demand3.{Answered, Demand3}
use Rattle.filter.specs.declared.refusal.Refusal.{Refusal}
use Rattle.filter.specs.declared.refusal.Answer.{Answer}
use Rattle.filter.specs.declared.refusal.Answer.TheVariants.{Included, Excluded}
use Rattle.filter.proofs.QueryAgree.{Tied, truth_call, tied, steps_within}

-- ---- with conformity
abbrev given : Bool → ℕ → Result Answer Refusal
given b n = Ok (answer b n)

answered : (b : Bool) (n : ℕ) → Answered (given b n)
answered true n = tt
answered false n = tt

refused_apart : (r : Refusal) → ◌≡◌ {A = Result (Unit {0}) Refusal} (Ok tt) (Err r) → ⊥
refused_apart r e = let z : ◌≡◌ {A = ℕ} 0 1 = cc in omega arith

module _ (k : Conformity) (conforms : k ≡ conforming) where
  accepted_answered : (v : Result (Unit {0}) Refusal) (a : Result Answer Refusal) (b : Bool) (n : ℕ) → Tied k v a b n → (v ≡ Ok tt) ↔ Answered a
  accepted_answered (Ok tt) a b n e = (λ _. subst Answered (sym (e ∙ ap (λ (x : Conformity). answer_if x b n) conforms)) (answered b n), λ _. refl)
  accepted_answered (Err r) a b n e = (λ f. absurd (refused_apart r (sym f)), λ f. absurd (subst Answered e f))

  included_steps : (b : Bool) (m n : ℕ) → (given b n ≡ Ok (Included m)) ⊎ (given b n ≡ Ok (Excluded m)) → m ≡ n
  included_steps true m n (inl e) = cc
  included_steps true m n (inr e) = let z : ◌≡◌ {A = ℕ} 0 1 = cc in absurd (omega arith)
  included_steps false m n (inl e) = let z : ◌≡◌ {A = ℕ} 0 1 = cc in absurd (omega arith)
  included_steps false m n (inr e) = cc

  either : (a b : Result Answer Refusal) (m : ℕ) → a ≡ b → (a ≡ Ok (Included m)) ⊎ (a ≡ Ok (Excluded m)) → (b ≡ Ok (Included m)) ⊎ (b ≡ Ok (Excluded m))
  either a b m e (inl f) = inl (sym e ∙ f)
  either a b m e (inr f) = inr (sym e ∙ f)

  counted : (v : Result (Unit {0}) Refusal) (a : Result Answer Refusal) (b : Bool) (n m : ℕ) → Tied k v a b n → (a ≡ Ok (Included m)) ⊎ (a ≡ Ok (Excluded m)) → m ≡ n
  counted (Ok tt) a b n m e f = included_steps b m n (either a (given b n) m (e ∙ ap (λ (x : Conformity). answer_if x b n) conforms) f)
  counted (Err r) a b n m e (inl f) = let z : ◌≡◌ {A = ℕ} 0 1 = cc in absurd (omega arith)
  counted (Err r) a b n m e (inr f) = let z : ◌≡◌ {A = ℕ} 0 1 = cc in absurd (omega arith)

pub refused_same : (k : Conformity) (v : Result (Unit {0}) Refusal) (a : Result Answer Refusal) (b : Bool) (n : ℕ) → Tied k v a b n → (r : Refusal) → v ≡ Err r → a ≡ Err r
refused_same k (Ok tt) a b n e r f = absurd (refused_apart r f)
refused_same k (Err s) a b n e r f = e ∙ cc

-- THE THEOREM
pub demand3 : (q t i : List ℕ) → Conforms t i → Demand3 q t i
demand3 q t i c =
    let e = conforms_no_fault t i c in
    record {
      answers = accepted_answered (conformity t i) e (check q t) (evaluate q t i) (truth_call (meant_in q t i) (call_of q t)) (steps q t i) (tied q t i);
      counts = λ n f. counted (conformity t i) e (check q t) (evaluate q t i) (truth_call (meant_in q t i) (call_of q t)) (steps q t i) n (tied q t i) f;
      within = steps_within q t i;
      refuses = refused_same (conformity t i) (check q t) (evaluate q t i) (truth_call (meant_in q t i) (call_of q t)) (steps q t i) (tied q t i);
    }
