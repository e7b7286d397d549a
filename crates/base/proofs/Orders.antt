-- Laws of the order of whole numbers, one for each exit, and of the operators.
use mathlib.Core.Path.{◌≡◌, refl}
use mathlib.Core.Bool.{Bool, true, false, not, ◌||◌}
use lib.IntN.{ℤ}
use lib.Signed.{lt_z}
use mir.Syntax.{w128}
use mir.Val.{SFits, to_z, of_z}
use Rattle.std.proofs.lemmas.Int.{to_z-of_z}
use Rattle.base.specs.declared.order.Order.{Order}
use Rattle.base.specs.declared.order.Order.TheVariants.{Before, Same, After, Undecided}
use Rattle.base.specs.declared.order.Operator.TheVariants.{Equal, Unequal, Less, AtMost, Greater, AtLeast}
use Rattle.base.specs.Order.{holds, order_of_whole}

module _ (m n : ℤ) where
  -- the test of two numbers, as it is made of their bits
  pub less : {r : Bool} → SFits w128 m → SFits w128 n → lt_z (to_z w128 (of_z w128 m)) (to_z w128 (of_z w128 n)) ≡ r → lt_z m n ≡ r
  less f g e = rw (to_z-of_z w128 m f, to_z-of_z w128 n g) at e

  pub whole_before : lt_z m n ≡ true → Before ≡ order_of_whole m n
  unfolding order_of_whole
  whole_before e = rw e

  pub whole_after : lt_z m n ≡ false → lt_z n m ≡ true → After ≡ order_of_whole m n
  unfolding order_of_whole
  whole_after e f = rw (e, f)

  pub whole_same : lt_z m n ≡ false → lt_z n m ≡ false → Same ≡ order_of_whole m n
  unfolding order_of_whole
  whole_same e f = rw (e, f)

-- operators by way of others: `<>` is the reverse of `=` on every order; `<=` is `<` or `=`, and not the reverse of `>`
pub unequal_is : (o : Order) → not (holds Equal o) ≡ holds Unequal o
unequal_is Before = refl
unequal_is Same = refl
unequal_is After = refl
unequal_is Undecided = refl

pub at_most_is : (o : Order) → (holds Less o || holds Equal o) ≡ holds AtMost o
at_most_is Before = refl
at_most_is Same = refl
at_most_is After = refl
at_most_is Undecided = refl

pub at_least_is : (o : Order) → (holds Greater o || holds Equal o) ≡ holds AtLeast o
at_least_is Before = refl
at_least_is Same = refl
at_least_is After = refl
at_least_is Undecided = refl
