-- Lists of inputs with what is expected of each, for worked examples: `results f vs ≡ expected vs` says that all are met.
use Rattle.std.specs.Prelude.{List, [], ◌∷◌}

-- what a function gives on the inputs
abbrev pub results : {A B : Type 0} → (A → B) → List (A × B) → List B
results f [] = []
results f (v ∷ vs) = f v.0 ∷ results f vs

-- what is expected of them
abbrev pub expected : {A B : Type 0} → List (A × B) → List B
expected [] = []
expected (v ∷ vs) = v.1 ∷ expected vs
