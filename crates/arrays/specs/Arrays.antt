-- Two arrays: whether they are equal, of 01 "Meaning", and the steps of comparing them, of "Steps".
use Rattle.std.specs.Prelude.{ℕ, suc, List, [], ◌∷◌, Bool, true, false, ◌&&◌, length, eqb}
use Rattle.std.proofs.Math.Option.{Option, none, some}
use Rattle.base.specs.Pick.{pick}
use Rattle.base.specs.declared.order.Operator.TheVariants.{Equal}
use Rattle.instance.specs.Value.{ScalarValue}
use Rattle.value.specs.Compare.{compares}
use Rattle.place.specs.Place.{Array}

-- "Arrays are equal if of equal size with equal elements in order, or both NULL"
unfoldable pub same_elements : (xs ys : List (Option ScalarValue)) → Bool
same_elements [] [] = true
same_elements [] (y ∷ ys) = false
same_elements (x ∷ xs) [] = false
same_elements (x ∷ xs) (y ∷ ys) = compares Equal x y && same_elements xs ys

unfoldable pub same_arrays : (xs ys : Array) → Bool
same_arrays none none = true
same_arrays none (some ys) = false
same_arrays (some xs) none = false
same_arrays (some xs) (some ys) = same_elements xs ys

-- "Arrays of equal size add one per pair up to and with the first unequal one"
unfoldable pub pairs_seen : (xs ys : List (Option ScalarValue)) → ℕ
pairs_seen [] ys = 0
pairs_seen (x ∷ xs) [] = 0
pairs_seen (x ∷ xs) (y ∷ ys) = suc (pick (compares Equal x y) (pairs_seen xs ys) 0)

unfoldable pub array_steps : (xs ys : Array) → ℕ
array_steps none ys = 0
array_steps (some xs) none = 0
array_steps (some xs) (some ys) = pick (eqb (length xs) (length ys)) (pairs_seen xs ys) 0
