-- The answers of specs/Examples, computed from the tree and from the walk.
use mathlib.Core.Path.{◌≡◌, refl}
use Rattle.base.specs.Vectors.{results, expected}
use Rattle.query_text.specs.Tree
use Rattle.short_circuit.specs.Count
use Rattle.short_circuit.specs.Walk
use Rattle.short_circuit.specs.Examples.{by_tree, by_walk, examples}

pub examples_by_tree : results by_tree examples ≡ expected examples
unfolding Tree.front Tree.tree Tree.every Tree.some Tree.holds Count.every_steps Count.some_steps Count.tree_steps
examples_by_tree = refl

pub examples_by_walk : results by_walk examples ≡ expected examples
unfolding Tree.total Tree.step Walk.walk
examples_by_walk = refl
