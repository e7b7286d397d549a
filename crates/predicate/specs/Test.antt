-- A comparison whose parts have been read: what it asks of values. Its truth is of 01 "Meaning", its steps of "Steps", and `reads` is the part of demand 3's
-- bound, each by the comparison's form.
use Rattle.std.specs.Prelude.{ℕ, ◌+◌, List, Bool}
use Rattle.std.proofs.Math.Option.{Option}
use Rattle.base.specs.Order.{holds}
use Rattle.base.specs.declared.order.Operator.{Operator}
use Rattle.pattern.specs.Regex.{Regex}
use Rattle.instance.specs.Value.{ScalarValue}
use Rattle.value.specs.Compare.{equality, compares}
use Rattle.short_circuit.specs.Walk.{told}
use Rattle.short_circuit.specs.declared.Told.{Told}
pub use Rattle.place.specs.Place.{Array}
use Rattle.place.specs.Negation.{reversed_if}
use Rattle.search.specs.Search.{besides, search_holds, search_steps}
use Rattle.arrays.specs.Arrays.{same_arrays, array_steps}
use Rattle.like.specs.Like.{like_holds, size}

-- two values; two arrays; ANY (`any`) or EVERY element of an array beside a value; a text under a pattern
pub data Test : Type 0 where
  values : Operator → (x y : Option ScalarValue) → Test
  arrays : Operator → (xs ys : Array) → Test
  search : (negated any : Bool) → Operator → Array → Option ScalarValue → Test
  like : (negated : Bool) → (text : Option (List ℕ)) → Regex ℕ → Test

unfoldable pub truth : Test → Bool
truth (values op x y) = compares op x y
truth (arrays op xs ys) = holds op (equality (same_arrays xs ys))
truth (search negated any op xs y) = reversed_if negated (search_holds any (besides op y) xs)
truth (like negated w r) = reversed_if negated (like_holds w r)

-- "A comparison that is judged counts 1"; "LIKE adds one per character of a text that isn't NULL"
unfoldable pub steps : Test → ℕ
steps (values op x y) = 1
steps (arrays op xs ys) = 1 + array_steps xs ys
steps (search negated any op xs y) = 1 + search_steps any (besides op y) xs
steps (like negated w r) = 1 + size w

-- "a comparison reads its whole left array (arrays compared, ANY, EVERY) or the whole LIKE text, nothing where that is NULL"
unfoldable pub reads : Test → ℕ
reads (values op x y) = 0
reads (arrays op xs ys) = size xs
reads (search negated any op xs y) = size xs
reads (like negated w r) = size w

-- what a test comes to, with its steps
abbrev pub performed : Test → Told
performed x = told (truth x) (steps x)
