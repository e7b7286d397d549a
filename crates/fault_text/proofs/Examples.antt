-- The texts of specs/Examples, computed.
use mathlib.Core.Path.{◌≡◌, refl}
use Rattle.base.specs.Vectors.{results, expected}
use Rattle.fault_text.specs.FaultText.{shown_of, fault_text}
use Rattle.fault_text.specs.Examples.{shown, places, numbers, shown_part, parts}

pub places_right : results shown places ≡ expected places
unfolding shown_of fault_text
places_right = refl

pub numbers_right : results shown numbers ≡ expected numbers
unfolding shown_of fault_text
numbers_right = refl

pub parts_right : results shown_part parts ≡ expected parts
unfolding shown_of
parts_right = refl
