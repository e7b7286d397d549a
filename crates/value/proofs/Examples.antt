-- The comparisons of specs/Examples, computed.
use mathlib.Core.Path.{◌≡◌, refl}
use lib.Ieee.{of_bits, lt, eq}
use Rattle.base.specs.LittleEndian
use Rattle.base.specs.Part
use Rattle.base.specs.Order
use Rattle.base.specs.Range
use Rattle.base.specs.Walk
use Rattle.base.specs.Digit
use Rattle.base.specs.Vectors.{results, expected}
use Rattle.encoding.specs.WellFormed
use Rattle.encoding.specs.Scalar
use Rattle.encoding.specs.Characters
use Rattle.text_writer.specs.Decimal
use Rattle.datetime.specs.Calendar
use Rattle.datetime.specs.Text
use Rattle.datetime.specs.Unknown
use Rattle.datetime.specs.Order as Datetimes
use Rattle.datetime.specs.Datetime
use Rattle.instance.specs.Value
use Rattle.value.specs.Compare
use Rattle.value.specs.Examples.{judged, comparisons}

pub comparisons_right : results judged comparisons ≡ expected comparisons
unfolding
    of_bits lt eq LittleEndian.unsigned LittleEndian.twos_complement Part.same_bytes Order.order_of_whole Range.within Walk.walk Walk.from
    Digit.digit_of Digit.all_digits Digit.value_of WellFormed.in_range WellFormed.fits WellFormed.sequence_in WellFormed.sequence_at
    Scalar.scalar_of Scalar.scalar_at Characters.characters_from Calendar.leap_years Calendar.days_before_month Text.shaped Text.date_in Text.time_in
    Decimal.digits_within Decimal.decimal Unknown.star_from Unknown.known Unknown.filled Unknown.lowest_text Unknown.highest_text
    Datetime.datetime_of Datetimes.order_of_spans Value.family_value Compare.order_of_scalars Compare.compares
comparisons_right = refl
