-- What the code of each form answers is what its test comes to.
use mathlib.Core.List.{List}
use mathlib.Core.Bool.{Bool}
use mathlib.Core.Path.{◌≡◌}
use mathlib.Core.Option.{Option, some}
use Prim.Native.Nat.{ℕ}
use Rattle.base.specs.declared.order.Operator.{Operator}
use Rattle.pattern.specs.Regex.{Regex}
use Rattle.token.specs.declared.Token.{Token}
use Rattle.instance.specs.Value.{ScalarValue}
use Rattle.operand.specs.PatternLiteral.{pattern_of}
use Rattle.short_circuit.specs.declared.Told.{Told}
use Rattle.place.specs.Place.{Array}
use Rattle.search.specs.Search.{searched}
use Rattle.arrays.specs.Answers.{compared}
use Rattle.like.specs.Like.{as_text, Likes}
use Rattle.predicate.specs.Test.{arrays, search, like, truth, steps, performed}

module _ (r : Told) where
  pub of_search : (negated any : Bool) (op : Operator) (xs : Array) (y : Option ScalarValue) → r ≡ searched negated any op xs y → r ≡ performed (search negated any op xs y)
  unfolding searched truth steps
  of_search negated any op xs y e = e

  pub of_arrays : (op : Operator) (xs ys : Array) → r ≡ compared op xs ys → r ≡ performed (arrays op xs ys)
  unfolding compared truth steps
  of_arrays op xs ys e = e

  pub of_like : (q : List ℕ) (t : Token) (negated : Bool) (x : Option ScalarValue) → Likes q t negated x r → (p : Regex ℕ) → pattern_of q t ≡ some p → r ≡ performed (like negated (as_text x) p)
  unfolding truth steps
  of_like q t negated x f p e = f p e
