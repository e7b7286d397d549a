-- By right notes an instance that conforms is answered as `evaluate` does; so by those that a walk over it has left.
use mathlib.Core.List.{List}
use mathlib.Core.Path.{◌≡◌, sym, ap, ◌∙◌}
use Prim.Native.Nat.{ℕ, ◌≤◌}
use lib.ListN.{length}
use Rattle.syntax.specs.declared.path.Path.{Path}
use Rattle.syntax.specs.declared.comparison.Comparison.{Comparison}
use Rattle.table.specs.Properties.{kinds_of}
use Rattle.instance.specs.Fault.{Conformity, conforming, conformity}
use Rattle.instance.specs.Value.{Entry}
use Rattle.instance.specs.Noted.{RightNotes, notes_after}
use Rattle.instance.proofs.NotedPlaces.{walked_right}
use Rattle.judge.specs.Meaning.{meaning}
use Rattle.judge.proofs.Named.{right_notes}
use Rattle.filter.specs.Refusal.{call_of}
use Rattle.filter.specs.Evaluate.{meant_in, evaluate}
use Rattle.filter.specs.Noted.{answer_call, evaluate_noted}
use Rattle.filter.proofs.QueryAgree.{evaluate_answer}

pub noted_evaluates : (q t i notes : List ℕ) → conformity t i ≡ conforming → RightNotes t i notes → evaluate_noted q t i notes ≡ evaluate q t i
unfolding evaluate_noted
noted_evaluates q t i notes e w =
    ap (λ (env : Path → Entry). answer_call conforming (λ (c : Comparison). meaning q env c) (call_of q t)) (right_notes q t i notes w)
    ∙ ap (λ (k : Conformity). answer_call k (meant_in q t i) (call_of q t)) (sym e)
    ∙ evaluate_answer q t i

-- one walk serves every filter
pub walked_evaluates : (q t i notes : List ℕ) → conformity t i ≡ conforming → length (kinds_of t) ≤ length notes → evaluate_noted q t i (notes_after t i notes) ≡ evaluate q t i
walked_evaluates q t i notes e l = noted_evaluates q t i (notes_after t i notes) e (walked_right t i notes e l)
