-- The starred examples have the same answers with Temp and Dev in one byte, by the theorem on wider kinds and not by computing them again.
use Rattle.std.specs.Prelude.{Result}
use Prim.Native.Nat.{ℕ}
use mathlib.Core.List.{List, [], ◌∷◌}
use mathlib.Core.Path.{◌≡◌, sym, ap, ap₂, ◌∙◌, fun_ext}
use Rattle.base.specs.Vectors.{results, expected}
use Rattle.table.specs.Sample.{table_in}
use Rattle.instance.specs.Sample.{instance_in}
use Rattle.filter.specs.declared.refusal.Answer.{Answer}
use Rattle.invariance.proofs.Sample.{sample_keeps}
use Rattle.examples.specs.Starred.{Outcome, check_outcome, answer_outcome, outcomes_in, outcomes, starred}
use Rattle.examples.proofs.Starred.{starred_right}
use Rattle.filter.specs.declared.refusal.Refusal.{Refusal}

outcomes_same : (q : List ℕ) → outcomes_in (table_in 1) (instance_in 1) q ≡ outcomes q
outcomes_same q =
    let k = sample_keeps q in
    ap₂ (λ (c : Result (Unit {0}) Refusal) (a : Result Answer Refusal). check_outcome c ∷ answer_outcome a ∷ []) (sym k.checks) (sym k.answers)

pub starred_narrow : results (outcomes_in (table_in 1) (instance_in 1)) starred ≡ expected starred
starred_narrow = ap (λ (f : List ℕ → List Outcome). results f starred) (fun_ext outcomes_same) ∙ starred_right
