-- The literals of the texts, computed.
use mathlib.Core.Path.{◌≡◌, refl}
use lib.Ieee.{of_int, mul, div, neg, round}
use Rattle.real.specs.Real.{magnitude, real_of}
use Rattle.base.specs.Digit.{size_under}
use Rattle.base.specs.Range.{within}
use Rattle.base.specs.Walk.{walk, from}
use Rattle.base.specs.Vectors.{results, expected}
use Rattle.record.specs.Name.{letter, name_byte, lower, same_name}
use Rattle.encoding.specs.WellFormed.{in_range, fits, sequence_in, sequence_at}
use Rattle.encoding.specs.Scalar.{is_scalar_value, scalar_of, scalar_at}
use Rattle.scan.specs.Class.{white, in_class, span, run}
use Rattle.string_literal.specs.Char.{unicode_char, raw_at, plain_escape, hex_run, unicode_escape, escape_at, char_at}
use Rattle.string_literal.specs.Text.{text_at, end_or, string_literal}
use Rattle.numeral.specs.Numeral.{signed, unsigned_integer, decimal_literal, binary_body, binary_literal, hex_pairs, hex_body, hex_literal, exact_numeric, exponent_part, real_body, real_literal}
use Rattle.base.specs.Digit.{digit_of, value_of}
use Rattle.token.specs.Token.{is_token, fitted, longer, word_kind, word_token, number_token, text_token, pair_kind, single_kind, symbol_of, symbol_token, longest_at, token_from, token_at}
use Rattle.literal.specs.Integer.{base_of, lead_of, digit_count, magnitude_from, with_sign, integer_by, integer_of}
use Rattle.literal.specs.Integer as integer
use Rattle.literal.specs.RealLiteral.{digits_of, exponent_size, exponent_below, real_from, real_literal_of}
use Rattle.literal.specs.Literal.{word_literal, hex_literal_of, number_literal, literal_of}
use Rattle.literal.specs.Examples.{first_literal, literals}

pub literals_right : results first_literal literals ≡ expected literals
unfolding literal_of number_literal hex_literal_of word_literal real_literal_of real_from exponent_below exponent_size digits_of integer_of integer_by with_sign integer.magnitude magnitude_from digit_count lead_of base_of real_of magnitude of_int mul div neg round size_under token_at token_from longest_at symbol_token symbol_of single_kind pair_kind text_token number_token word_token word_kind longer fitted is_token signed unsigned_integer decimal_literal binary_body binary_literal hex_pairs hex_body hex_literal exact_numeric exponent_part real_body real_literal text_at end_or string_literal unicode_char raw_at plain_escape hex_run unicode_escape escape_at char_at value_of digit_of white in_class span run in_range fits sequence_in sequence_at is_scalar_value scalar_of scalar_at walk from within letter name_byte same_name lower
literals_right = refl
