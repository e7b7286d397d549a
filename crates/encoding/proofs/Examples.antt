-- The examples are as expected, computed from the definitions.
use Prim.Native.Nat.{ℕ}
use mathlib.Core.List.{List}
use mathlib.Core.Path.{◌≡◌, refl}
use Rattle.base.specs.Range.{within}
use Rattle.base.specs.Walk.{walk, from}
use Rattle.base.specs.Vectors.{results, expected}
use Rattle.encoding.specs.WellFormed.{in_range, fits, sequence_in, sequence_at, ill_formed_from, first_ill_formed}
use Rattle.encoding.specs.Scalar.{scalar_of, scalar_at}
use Rattle.encoding.specs.Characters.{characters_from, characters}
use Rattle.encoding.specs.Examples.{examples}

pub examples_right : results (λ (s : List ℕ). (first_ill_formed s, characters s)) examples ≡ expected examples
unfolding ill_formed_from characters_from from walk scalar_at scalar_of sequence_at sequence_in fits in_range within
examples_right = refl
