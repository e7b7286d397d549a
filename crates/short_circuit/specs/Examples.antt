-- Queries of the comparisons a, b and c by their shape, with what each comes to and counts: a counts 1, b counts 10 and c counts 100, so the sum shows which were judged.
use Rattle.std.specs.Prelude.{ℕ, List, [], ◌∷◌, Bool, true, false, get_or, None}
use Rattle.terminal.specs.declared.operator.BoolOp.TheVariants.{And, Or}
use Rattle.terminal.specs.declared.quantifier.Quantifier.TheVariants.{Single}
use Rattle.syntax.specs.declared.path.Span.{Span}
use Rattle.syntax.specs.declared.operation.Operation.TheVariants.{Like}
use Rattle.syntax.specs.declared.right_side.RightSide.TheVariants.{Elements}
use Rattle.syntax.specs.declared.comparison.Comparison.{Comparison}
use Rattle.query_text.specs.declared.join.Join.TheVariants.{Inner, Outer}
use Rattle.query_text.specs.Query.{Comparisons, only, more}
use Rattle.query_text.specs.Tree.{tree, holds}
use Rattle.short_circuit.specs.declared.Told.{Told}
use Rattle.short_circuit.specs.Count.{tree_steps}
use Rattle.short_circuit.specs.Walk.{told, initial, walk}

-- comparisons that differ only in where they start
abbrev nowhere : Span
nowhere = record { start = 0; end = 0 }

abbrev at : ℕ → Comparison
at n =
    record {
      left = record { start = n; negated = false; quantifier = Single; path = record { first = nowhere; second = nowhere; names = 1 }; index = None };
      operation = Like;
      right = Elements 0 0 0;
    }

-- a AND b OR c, (a) OR (b) AND (c), (a OR b) AND (c)
abbrev pub chain : Comparisons
chain = more (at 0) (Inner And) (more (at 1) (Inner Or) (only (at 2)))

abbrev pub groups : Comparisons
groups = more (at 0) (Outer Or) (more (at 1) (Outer And) (only (at 2)))

abbrev pub nested : Comparisons
nested = more (at 0) (Inner Or) (more (at 1) (Outer And) (only (at 2)))

-- with what a, b and c come to
pub record Asked : Type 0 where
  pub query : Comparisons
  pub truths : List Bool

abbrev ask : Comparisons → Bool → Bool → Bool → Asked
ask l a b c = record { query = l; truths = a ∷ b ∷ c ∷ [] }

abbrev truth : Asked → Comparison → Bool
truth x c = get_or x.truths c.left.start false

abbrev counts : Comparison → ℕ
counts c = get_or (1 ∷ 10 ∷ 100 ∷ []) c.left.start 0

abbrev pub by_tree : Asked → Told
by_tree x = told (holds (truth x) (tree x.query)) (tree_steps (truth x) counts (tree x.query))

abbrev pub by_walk : Asked → Told
by_walk x = walk (truth x) counts initial 0 x.query

abbrev pub examples : List (Asked × Told)
examples =
    (ask chain true true false, told true 11)
    ∷ (ask chain true false true, told true 111)
    ∷ (ask chain false true true, told true 101)
    ∷ (ask groups true false false, told true 1)
    ∷ (ask groups false true false, told false 111)
    ∷ (ask groups false false true, told false 11)
    ∷ (ask nested true false true, told true 101)
    ∷ (ask nested false true false, told false 111)
    ∷ (ask nested false false true, told false 11)
    ∷ []
