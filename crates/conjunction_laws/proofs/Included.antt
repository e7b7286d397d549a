-- What the evaluation of an accepted query comes to.
use Rattle.std.specs.Prelude.{Ok}
use Prim.Native.Nat.{ℕ}
use mathlib.Core.Path.{◌≡◌, refl, ap, ◌∙◌}
use mathlib.Core.List.{List}
use mathlib.Core.Bool.{Bool, true, false}
use Rattle.instance.specs.Conforms.{Conforms}
use Rattle.instance.specs.Fault.{Conformity}
use Rattle.instance.proofs.Decides.{conforms_no_fault}
use Rattle.query_text.specs.Query.{query}
use Rattle.query_text.specs.Tree.{tree, holds}
use Rattle.filter.specs.Refusal.{call_of}
use Rattle.filter.specs.Evaluate.{meant_in, answer, answer_if, evaluate, steps}
use Rattle.filter.proofs.Laws.{evaluates}
use Rattle.filter.proofs.QueryAgree.{truth_call}
use Rattle.run.specs.Totals.{is_included}
use Rattle.conjunction_laws.proofs.ByGroups.{truths}
use Rattle.filter.proofs.Accepted.{Accepts, called, is_accepted}

module _ {q table : List ℕ} (A : Accepts q table) where
  -- on an instance that conforms it is included where its tree holds
  pub included : (i : List ℕ) → Conforms table i → is_included (evaluate q table i) ≡ holds (truths table i q) (tree A.list)
  included i c =
      ap is_included (evaluates q table i (is_accepted A) ∙ ap (λ (k : Conformity). answer_if k (truth_call (meant_in q table i) (call_of q table)) (steps q table i)) (conforms_no_fault table i c))
      ∙ go (truth_call (meant_in q table i) (call_of q table)) ∙ rw (called A) refl
    where
      go : (b : Bool) → is_included (Ok (answer b (steps q table i))) ≡ b
      go true = refl
      go false = refl
