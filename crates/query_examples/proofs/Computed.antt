-- What is said of the queries, computed.
use mathlib.Core.Path.{◌≡◌, refl}
use Rattle.base.specs.Range.{within}
use Rattle.base.specs.Walk.{walk, from}
use Rattle.base.specs.Digit.{digit_of, value_of}
use Rattle.base.specs.Vectors.{results, expected}
use Rattle.record.specs.Name.{letter, name_byte, lower, same_name}
use Rattle.encoding.specs.WellFormed.{in_range, fits, sequence_in, sequence_at, ill_formed_from}
use Rattle.encoding.specs.Scalar.{is_scalar_value, scalar_of, scalar_at}
use Rattle.scan.specs.Class.{white, in_class, span, run}
use Rattle.string_literal.specs.Char.{unicode_char, raw_at, plain_escape, hex_run, unicode_escape, escape_at, char_at}
use Rattle.string_literal.specs.Text.{text_at, end_or, string_literal}
use Rattle.numeral.specs.Numeral.{signed, unsigned_integer, decimal_literal, binary_body, binary_literal, hex_pairs, hex_body, hex_literal, exact_numeric, exponent_part, real_body, real_literal}
use Rattle.token.specs.Token.{is_token, fitted, longer, word_kind, word_token, number_token, text_token, pair_kind, single_kind, symbol_of, symbol_token, longest_at, token_from, token_at, word_or_number, apart, token_after}
use Rattle.terminal.specs.Terminal.{same, word, literal, comparing, joining, quantifying, opening, unsigned}
use Rattle.syntax.specs.Property.{one_more, dotted, property, close_index, index_number, indexed, with_index, with_path, reference}
use Rattle.syntax.specs.Comparison.{left_of, left_by, left_at, left_side, not_like, like, operation_by, operation, elements, list_from, array_literal, operand_of, operand, pattern, right_side, comp_of, comp_operation, comp_left, property_comp}
use Rattle.query_text.specs.Query.{at_end, open_group, outer_by, after_group, outer, join_by, join_after, next_of, next_by, next_comparison, before, query_from, start_at, query_start, query, verdict}
use Rattle.query_text.specs.Text.{encoded_verdict, text_verdict}
use Rattle.query_examples.specs.Queries.{times, answer, answers, accepted, grammar_faults, encoding_faults, comparison_limit, grouped_limit, element_limit, length_limit}

pub queries_right :
    (results answer accepted ≡ expected accepted)
    × (results answers grammar_faults ≡ expected grammar_faults)
    × (results answer encoding_faults ≡ expected encoding_faults)
    × (results answer comparison_limit ≡ expected comparison_limit)
    × (results answer grouped_limit ≡ expected grouped_limit)
    × (results answer element_limit ≡ expected element_limit)
    × (results answer length_limit ≡ expected length_limit)
unfolding times encoded_verdict text_verdict ill_formed_from same word literal comparing joining quantifying opening unsigned one_more dotted property close_index index_number indexed with_index with_path reference left_of left_by left_at left_side not_like like operation_by operation elements list_from array_literal operand_of operand pattern right_side comp_of comp_operation comp_left property_comp at_end open_group outer_by after_group outer join_by join_after next_of next_by next_comparison before query_from start_at query_start query verdict token_after apart word_or_number token_at token_from longest_at symbol_token symbol_of single_kind pair_kind text_token number_token word_token word_kind longer fitted is_token signed unsigned_integer decimal_literal binary_body binary_literal hex_pairs hex_body hex_literal exact_numeric exponent_part real_body real_literal text_at end_or string_literal unicode_char raw_at plain_escape hex_run unicode_escape escape_at char_at value_of digit_of white in_class span run in_range fits sequence_in sequence_at is_scalar_value scalar_of scalar_at walk from within letter name_byte same_name lower
queries_right = (refl, refl, refl, refl, refl, refl, refl)
