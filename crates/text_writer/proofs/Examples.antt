-- The numbers of specs/Examples, computed.
use mathlib.Core.Path.{◌≡◌, refl}
use Rattle.base.specs.Vectors.{results, expected}
use Rattle.text_writer.specs.Decimal.{digits_within, decimal}
use Rattle.text_writer.specs.Examples.{numbers}

pub numbers_right : results decimal numbers ≡ expected numbers
unfolding digits_within decimal
numbers_right = refl
