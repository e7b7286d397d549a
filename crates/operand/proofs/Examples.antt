-- The readings of specs/Examples, computed.
use mathlib.Core.Path.{◌≡◌, refl}
use lib.Ieee.{of_int, mul, div, neg, round}
use Rattle.base.specs.Part.{same_bytes}
use Rattle.base.specs.Range.{within}
use Rattle.base.specs.Walk.{walk, from}
use Rattle.base.specs.Digit.{digit_of, all_digits, value_of, size_under}
use Rattle.base.specs.LittleEndian.{unsigned}
use Rattle.base.specs.Vectors.{results, expected}
use Rattle.encoding.specs.WellFormed.{in_range, sequence_in, sequence_at}
use Rattle.encoding.specs.WellFormed as utf
use Rattle.encoding.specs.Scalar.{is_scalar_value, scalar_of, scalar_at, encode}
use Rattle.real.specs.Real.{magnitude, real_of}
use Rattle.text_writer.specs.Decimal.{digits_within, decimal}
use Rattle.datetime.specs.Text.{shaped, date_in, time_in}
use Rattle.datetime.specs.Unknown.{star_from, known, filled, lowest_text, highest_text}
use Rattle.datetime.specs.Datetime.{datetime_of}
use Rattle.datetime.specs.Calendar.{leap_years, days_before_month}
use Rattle.record.specs.Name.{letter, name_byte, lower, same_name}
use Rattle.record.specs.Record.{record_at, records}
use Rattle.record.specs.Write.{little_endian, write}
use Rattle.table.specs.Properties.{find_in, find_property}
use Rattle.scan.specs.Class.{white, in_class, span, run}
use Rattle.numeral.specs.Numeral.{signed, unsigned_integer, decimal_literal, binary_body, binary_literal, hex_body, hex_literal, exact_numeric, exponent_part, real_body, real_literal}
use Rattle.numeral.specs.Numeral as numeral
use Rattle.string_literal.specs.Char.{unicode_char, raw_at, plain_escape, hex_run, unicode_escape, escape_at, char_at}
use Rattle.string_literal.specs.Text.{text_at, characters_of, bytes_of, end_or, string_literal}
use Rattle.token.specs.Token.{is_token, fitted, longer, word_kind, word_token, number_token, text_token, pair_kind, single_kind, symbol_of, symbol_token, longest_at, token_from, token_at, word_or_number, apart, token_after}
use Rattle.terminal.specs.Terminal.{same, word}
use Rattle.syntax.specs.Property.{one_more, dotted, property}
use Rattle.literal.specs.Integer.{base_of, lead_of, digit_count, magnitude_from, with_sign, integer_by, integer_of}
use Rattle.literal.specs.Integer as integer
use Rattle.literal.specs.RealLiteral.{digits_of, exponent_size, exponent_below, real_from, real_literal_of}
use Rattle.literal.specs.Literal.{word_literal, hex_literal_of, number_literal, literal_of}
use Rattle.literal.specs.Sort.{word_sort, form_sort, sort_of, unsigned_hex}
use Rattle.value.specs.Unit.{hex_pairs}
use Rattle.value_literal.specs.LiteralValue.{text_value, literal_value}
use Rattle.operand.specs.Named.{named}
use Rattle.operand.specs.Index.{index_of}
use Rattle.operand.specs.LiteralReading.{fits, no_datetime, read_literal}
use Rattle.operand.specs.Examples.{literal_beside, literals, first_index, indices, sample_named, names}

pub literals_right : results literal_beside literals ≡ expected literals
unfolding
    read_literal no_datetime fits text_value literal_value hex_pairs word_sort form_sort sort_of unsigned_hex word_literal hex_literal_of number_literal literal_of
    digits_of exponent_size exponent_below real_from real_literal_of base_of lead_of digit_count magnitude_from integer.magnitude with_sign integer_by integer_of
    magnitude real_of of_int mul div neg round shaped date_in time_in leap_years days_before_month
    digits_within decimal same_bytes star_from known filled lowest_text highest_text datetime_of
    token_at token_from longest_at symbol_token symbol_of single_kind pair_kind text_token number_token word_token word_kind longer fitted is_token
    text_at characters_of bytes_of end_or string_literal unicode_char raw_at plain_escape hex_run unicode_escape escape_at char_at
    signed unsigned_integer decimal_literal binary_body binary_literal numeral.hex_pairs hex_body hex_literal exact_numeric exponent_part real_body real_literal
    white in_class span run letter name_byte lower same_name is_scalar_value scalar_of scalar_at encode in_range utf.fits sequence_in sequence_at
    digit_of all_digits value_of size_under walk from within
literals_right = refl

pub indices_right : results first_index indices ≡ expected indices
unfolding
    index_of base_of lead_of digit_count magnitude_from integer.magnitude with_sign integer_by integer_of
    token_at token_from longest_at symbol_token symbol_of single_kind pair_kind text_token number_token word_token word_kind longer fitted is_token string_literal
    signed unsigned_integer decimal_literal binary_body binary_literal numeral.hex_pairs hex_body hex_literal exact_numeric exponent_part real_body real_literal
    white in_class span run letter name_byte digit_of value_of size_under within
indices_right = refl

pub names_right : results sample_named names ≡ expected names
unfolding
    named find_in find_property record_at records little_endian write unsigned one_more dotted property same word
    token_at token_from longest_at symbol_token symbol_of single_kind pair_kind text_token number_token word_token word_kind longer fitted is_token word_or_number apart token_after
    string_literal signed unsigned_integer decimal_literal binary_body binary_literal numeral.hex_pairs hex_body hex_literal exact_numeric exponent_part real_body real_literal
    white in_class span run letter name_byte lower same_name digit_of walk from within
names_right = refl
