-- The worked datetimes, computed.
use mathlib.Core.Path.{refl}
use Rattle.base.specs.Part.{same_bytes}
use Rattle.base.specs.Range.{within}
use Rattle.base.specs.Digit.{digit_of, all_digits, value_of}
use Rattle.text_writer.specs.Decimal.{digits_within, decimal}
use Rattle.datetime.specs.Calendar.{leap_years, days_before_month}
use Rattle.datetime.specs.Text.{shaped, date_in, time_in}
use Rattle.datetime.specs.Unknown.{star_from, known, filled, lowest_text, highest_text}
use Rattle.datetime.specs.Datetime.{datetime_of}
use Rattle.datetime.specs.Order.{order_of_spans}
use Rattle.datetime.specs.Examples.{AllSaid, AllJudged}

pub all_said : AllSaid
unfolding datetime_of lowest_text highest_text filled known star_from same_bytes digits_within decimal shaped date_in time_in all_digits value_of digit_of within leap_years days_before_month
all_said = refl

pub all_judged : AllJudged
unfolding datetime_of lowest_text highest_text filled known star_from same_bytes digits_within decimal shaped date_in time_in all_digits value_of digit_of within leap_years days_before_month order_of_spans
all_judged = refl
