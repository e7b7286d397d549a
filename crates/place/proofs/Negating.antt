-- NOT of what doesn't hold.
use mathlib.Core.Bool.{Bool, true, false}
use mathlib.Core.Path.{◌≡◌, refl}
use Rattle.place.specs.Negation.{reversed_if}

pub of_false : (negated : Bool) → negated ≡ reversed_if negated false
of_false true = refl
of_false false = refl
