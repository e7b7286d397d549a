-- The values of specs/Examples, computed.
use mathlib.Core.Path.{◌≡◌, refl}
use Rattle.base.specs.Range
use Rattle.base.specs.Walk
use Rattle.base.specs.Digit
use Rattle.base.specs.Vectors.{results, expected}
use Rattle.encoding.specs.WellFormed
use Rattle.encoding.specs.Scalar
use Rattle.scan.specs.Class
use Rattle.string_literal.specs.Char
use Rattle.string_literal.specs.Text
use Rattle.value.specs.Unit
use Rattle.value_literal.specs.LiteralValue
use Rattle.value_literal.specs.Examples.{valued, values}

pub values_right : results valued values ≡ expected values
unfolding
    Range.within Walk.walk Walk.from Digit.digit_of Digit.value_of WellFormed.in_range WellFormed.fits WellFormed.sequence_in WellFormed.sequence_at
    Scalar.is_scalar_value Scalar.scalar_of Scalar.scalar_at Scalar.encode Class.white Class.in_class Class.span Class.run
    Char.unicode_char Char.raw_at Char.plain_escape Char.hex_run Char.unicode_escape Char.escape_at Char.char_at Text.text_at Text.characters_of
    Unit.hex_pairs Text.bytes_of LiteralValue.text_value LiteralValue.literal_value
values_right = refl
