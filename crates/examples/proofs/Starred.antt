-- What check and evaluate say of 01's starred examples, mark and watch of runs, what the program prints, which properties queries name, and what conjoin makes of two, computed from
-- their definitions.
use mathlib.Core.Path.{◌≡◌, refl}
use lib.Ieee.{of_int, of_bits, mul, div, neg, round, lt, eq}
use Rattle.base.specs.Vectors.{results, expected}
use Rattle.base.specs.Digit as base-digit
use Rattle.base.specs.LittleEndian as base-little-endian
use Rattle.base.specs.Order as base-order
use Rattle.base.specs.Part as base-part
use Rattle.base.specs.Range as base-range
use Rattle.base.specs.Walk as base-walk
use Rattle.encoding.specs.Characters as unicode-characters
use Rattle.encoding.specs.Lead as unicode-lead
use Rattle.encoding.specs.Scalar as unicode-scalar
use Rattle.encoding.specs.WellFormed as unicode-well-formed
use Rattle.record.specs.Kind as record-kind
use Rattle.record.specs.Name as record-name
use Rattle.record.specs.Record as record-record
use Rattle.record.specs.Reserved as record-reserved
use Rattle.record.specs.Write as record-write
use Rattle.real.specs.Real as real-real
use Rattle.real.specs.Scale as real-scale
use Rattle.datetime.specs.Calendar as datetime-calendar
use Rattle.datetime.specs.Datetime as datetime-datetime
use Rattle.datetime.specs.Order as datetime-order
use Rattle.datetime.specs.Text as datetime-text
use Rattle.datetime.specs.Unknown as datetime-unknown
use Rattle.pattern.specs.Character as pattern-character
use Rattle.pattern.specs.Reading as pattern-reading
use Rattle.pattern.specs.Regex as pattern-regex
use Rattle.matcher.specs.Run as pattern-run
use Rattle.table.specs.Properties as table-properties
use Rattle.table.specs.Table as table-table
use Rattle.instance.specs.Body as instance-body
use Rattle.instance.specs.Conforms as instance-conforms
use Rattle.instance.specs.Fault as instance-fault
use Rattle.instance.specs.Start as instance-start
use Rattle.instance.specs.Value as instance-value
use Rattle.scan.specs.Class as scan-class
use Rattle.numeral.specs.Numeral as numeral-numeral
use Rattle.string_literal.specs.Abnf as string-literal-abnf
use Rattle.string_literal.specs.Char as string-literal-char
use Rattle.string_literal.specs.Text as string-literal-text
use Rattle.token.specs.Token as token-token
use Rattle.literal.specs.Integer as literal-integer
use Rattle.literal.specs.Literal as literal-literal
use Rattle.literal.specs.RealLiteral as literal-real-literal
use Rattle.literal.specs.Sort as literal-sort
use Rattle.terminal.specs.Terminal as terminal-terminal
use Rattle.syntax.specs.Comparison as syntax-comparison
use Rattle.syntax.specs.Property as syntax-property
use Rattle.query_text.specs.Query as query-text-query
use Rattle.query_text.specs.Text as query-text-text
use Rattle.query_text.specs.Tree as query-text-tree
use Rattle.value.specs.Compare as value-compare
use Rattle.value.specs.Item as value-item
use Rattle.value.specs.Read as value_read_law
use Rattle.value.specs.Unit as value-unit
use Rattle.value_literal.specs.LiteralValue as value-literal-literal-value
use Rattle.short_circuit.specs.Count as short-circuit-count
use Rattle.short_circuit.specs.Walk as short-circuit-walk
use Rattle.operand.specs.Element as operand-element
use Rattle.operand.specs.Index as operand-index
use Rattle.operand.specs.LiteralReading as operand-literal-reading
use Rattle.operand.specs.Named as operand-named
use Rattle.operand.specs.PatternLiteral as operand-pattern-literal
use Rattle.place.specs.Place as place-place
use Rattle.search.specs.Search as search-search
use Rattle.arrays.specs.Arrays as arrays-arrays
use Rattle.like.specs.Like as like-like
use Rattle.predicate.specs.Test as predicate-test
use Rattle.judge.specs.Environment as judge-environment
use Rattle.judge.specs.Meaning as judge-meaning
use Rattle.filter.specs.Check as filter-check
use Rattle.filter.specs.Evaluate as filter-evaluate
use Rattle.filter.specs.Meaning as filter-meaning
use Rattle.filter.specs.Refusal as filter-refusal
use Rattle.conjunction.specs.Groups as conjunction-groups
use Rattle.conjunction.specs.Conjunction as conjunction-conjunction
use Rattle.conjunction.specs.Conjoin as conjunction-conjoin
use Rattle.run.specs.Run as run-run
use Rattle.run.specs.Totals as run-totals
use Rattle.mark.specs.Mark as mark-mark
use Rattle.watch.specs.Window as watch-window
use Rattle.watch.specs.Watch as watch-watch
use Rattle.invariance.specs.NamedProperties as invariance-named-properties
use Rattle.text_writer.specs.Decimal as text-writer-decimal
use Rattle.report.specs.Line as report-line
use Rattle.report.specs.Text as report-text
use Rattle.report.specs.Output as report-output
use Rattle.examples.specs.Starred.{outcomes, starred}
use Rattle.examples.specs.Marks.{outcome, calls}
use Rattle.examples.specs.Watches as watches
use Rattle.examples.specs.Printed.{printed, outputs}
use Rattle.examples.specs.Namings.{named, namings}
use Rattle.examples.specs.Conjunctions as conjunctions

-- all in one computation, so that what it unfolds is listed once
every_one :
    (results outcomes starred ≡ expected starred)
    × (results outcome calls ≡ expected calls)
    × (results printed outputs ≡ expected outputs)
    × (results named namings ≡ expected namings)
    × (results watches.outcome watches.calls ≡ expected watches.calls)
    × (results conjunctions.outcome conjunctions.calls ≡ expected conjunctions.calls)
unfolding
    of_int of_bits mul div neg round lt eq base-walk.walk
    base-digit.digit_of base-digit.all_digits base-digit.value_of base-digit.size_under
    base-little-endian.unsigned base-little-endian.twos_complement
    base-order.order_of_whole
    base-part.same_bytes
    base-range.within
    base-walk.from
    unicode-characters.characters_from
    unicode-lead.starts_with unicode-lead.row_in unicode-lead.row_of unicode-lead.lead_length unicode-lead.second_low unicode-lead.second_high
    unicode-scalar.is_scalar_value unicode-scalar.scalar_of unicode-scalar.scalar_at unicode-scalar.encode
    unicode-well-formed.in_range unicode-well-formed.fits unicode-well-formed.sequence_in unicode-well-formed.sequence_at unicode-well-formed.ill_formed_from
    record-kind.integer_kind record-kind.scalar_kind record-kind.kind_of
    record-name.letter record-name.name_byte record-name.valid_name record-name.lower record-name.same_name
    record-record.record_at record-record.records
    record-reserved.reserved_words record-reserved.among record-reserved.is_reserved
    record-write.little_endian record-write.stored record-write.write
    real-real.magnitude real-real.real_of
    real-scale.scale_of
    datetime-calendar.leap_years datetime-calendar.days_before_month
    datetime-datetime.datetime_of
    datetime-order.order_of_spans
    datetime-text.shaped datetime-text.date_in datetime-text.time_in
    datetime-unknown.star_from datetime-unknown.known datetime-unknown.filled datetime-unknown.lowest_text datetime-unknown.highest_text
    pattern-character.special pattern-character.starts_with
    pattern-reading.escaped pattern-reading.member pattern-reading.range pattern-reading.members pattern-reading.set_from pattern-reading.symbol pattern-reading.repeated pattern-reading.symbol_item pattern-reading.ends pattern-reading.parse pattern-reading.alternatives pattern-reading.sequence pattern-reading.item
    pattern-regex.in_ranges pattern-regex.stands_for
    pattern-run.nullable pattern-run.final pattern-run.shift pattern-run.with_live pattern-run.run pattern-run.likes
    table-properties.kinds_in table-properties.names_in table-properties.names_before table-properties.find_in table-properties.find_property
    table-table.properties table-table.table_reading
    instance-body.boolean_fits instance-body.text_fits instance-body.char16_fits instance-body.datetime_fits
    instance-conforms.count
    instance-fault.elements_fit instance-fault.further_fault instance-fault.fault_in instance-fault.fault_under instance-fault.step_at
    instance-start.start_of
    instance-value.family_value instance-value.elements instance-value.value_at instance-value.environment_under
    scan-class.white scan-class.in_class scan-class.span scan-class.run
    numeral-numeral.signed numeral-numeral.unsigned_integer numeral-numeral.decimal_literal numeral-numeral.binary_body numeral-numeral.binary_literal numeral-numeral.hex_pairs numeral-numeral.hex_body numeral-numeral.hex_literal numeral-numeral.exact_numeric numeral-numeral.exponent_part numeral-numeral.real_body numeral-numeral.real_literal
    string-literal-abnf.member
    string-literal-char.unicode_char string-literal-char.raw_at string-literal-char.plain_escape string-literal-char.hex_run string-literal-char.unicode_escape string-literal-char.escape_at string-literal-char.char_at
    string-literal-text.text_at string-literal-text.characters_of string-literal-text.bytes_of string-literal-text.end_or string-literal-text.string_literal string-literal-text.filled
    token-token.is_token token-token.fitted token-token.longer token-token.word_kind token-token.word_token token-token.number_token token-token.text_token token-token.pair_kind token-token.single_kind token-token.symbol_of token-token.symbol_token token-token.longest_at token-token.token_from token-token.token_at token-token.word_or_number token-token.apart token-token.token_after
    literal-integer.base_of literal-integer.lead_of literal-integer.digit_count literal-integer.magnitude_from literal-integer.magnitude literal-integer.with_sign literal-integer.integer_by literal-integer.integer_of
    literal-literal.word_literal literal-literal.hex_literal_of literal-literal.number_literal literal-literal.literal_of
    literal-real-literal.digits_of literal-real-literal.exponent_size literal-real-literal.exponent_below literal-real-literal.real_from literal-real-literal.real_literal_of
    literal-sort.word_sort literal-sort.form_sort literal-sort.sort_of literal-sort.unsigned_hex
    terminal-terminal.same terminal-terminal.word terminal-terminal.literal terminal-terminal.comparing terminal-terminal.joining terminal-terminal.quantifying terminal-terminal.opening terminal-terminal.unsigned
    syntax-comparison.left_of syntax-comparison.left_by syntax-comparison.left_at syntax-comparison.left_side syntax-comparison.not_like syntax-comparison.like syntax-comparison.operation_by syntax-comparison.operation syntax-comparison.elements syntax-comparison.list_from syntax-comparison.array_literal syntax-comparison.operand_of syntax-comparison.operand syntax-comparison.pattern syntax-comparison.right_side syntax-comparison.comp_of syntax-comparison.comp_operation syntax-comparison.comp_left syntax-comparison.property_comp
    syntax-property.one_more syntax-property.dotted syntax-property.property syntax-property.close_index syntax-property.index_number syntax-property.indexed syntax-property.with_index syntax-property.with_path syntax-property.reference
    query-text-query.at_end query-text-query.open_group query-text-query.outer_by query-text-query.after_group query-text-query.outer query-text-query.join_by query-text-query.join_after query-text-query.next_of query-text-query.next_by query-text-query.next_comparison query-text-query.before query-text-query.query_from query-text-query.start_at query-text-query.query_start query-text-query.query query-text-query.verdict
    query-text-text.encoded_verdict query-text-text.text_verdict
    query-text-tree.front query-text-tree.tree query-text-tree.every query-text-tree.some query-text-tree.holds query-text-tree.total query-text-tree.step
    value-compare.order_of_scalars value-compare.compares
    value-item.listed value-item.item_value
    value_read_law.value_in_record
    value-unit.hex_pairs value-unit.utf8_after value-unit.units_from
    value-literal-literal-value.text_value value-literal-literal-value.literal_value
    short-circuit-count.every_steps short-circuit-count.some_steps short-circuit-count.tree_steps short-circuit-count.sum_of
    short-circuit-walk.walk short-circuit-walk.walk_query
    operand-element.elements_from operand-element.first_element
    operand-index.index_of
    operand-literal-reading.fits operand-literal-reading.no_datetime operand-literal-reading.read_literal operand-literal-reading.is_null_literal
    operand-named.named
    operand-pattern-literal.pattern_of
    place-place.body_at place-place.body_value place-place.value_read place-place.literal_values
    search-search.some_holds search-search.all_hold search-search.search_holds search-search.elements_seen search-search.search_steps
    arrays-arrays.same_elements arrays-arrays.same_arrays arrays-arrays.pairs_seen arrays-arrays.array_steps
    like-like.as_text like-like.like_holds like-like.size
    predicate-test.truth predicate-test.steps predicate-test.reads
    judge-environment.entry_named
    judge-meaning.as_scalar judge-meaning.as_array judge-meaning.element_of judge-meaning.left_scalar judge-meaning.left_array judge-meaning.elements judge-meaning.right_scalar judge-meaning.right_array judge-meaning.right_kind judge-meaning.right_property judge-meaning.right_of judge-meaning.both judge-meaning.ordered judge-meaning.meet judge-meaning.meant_by judge-meaning.meant_as judge-meaning.meaning
    filter-check.first filter-check.demand filter-check.each_token filter-check.check_right_name filter-check.shape_of filter-check.left_shape filter-check.right_shape filter-check.beside filter-check.is_fitting filter-check.all_fit filter-check.row_fits filter-check.order_fits filter-check.check_index filter-check.check_left_index filter-check.check_ranges filter-check.check_pattern filter-check.check_datetimes filter-check.check_kind filter-check.check_comparison filter-check.check_all filter-check.check
    filter-evaluate.evaluate filter-evaluate.steps filter-evaluate.bound
    filter-meaning.truth_of filter-meaning.steps_of filter-meaning.reads_of filter-meaning.unless_failing filter-meaning.query_meaning filter-meaning.query_steps filter-meaning.query_bound
    filter-refusal.call_of
    conjunction-groups.last_within conjunction-groups.last conjunction-groups.group_at conjunction-groups.follow conjunction-groups.terms_within conjunction-groups.terms_from
    conjunction-conjunction.chained conjunction-conjunction.each conjunction-conjunction.products conjunction-conjunction.term_text conjunction-conjunction.text conjunction-conjunction.conjunction conjunction-conjunction.size conjunction-conjunction.comparisons conjunction-conjunction.count conjunction-conjunction.is_too_large
    conjunction-conjoin.conjoin conjunction-conjoin.buffer_after conjunctions.ored
    run-run.reading_from run-run.run_reading run-run.bodies_of run-run.instances_of
    run-totals.count
    mark-mark.mark mark-mark.marks_after
    watch-window.watch_marks_from
    watch-watch.watch watch-watch.marks_after
    invariance-named-properties.named_by invariance-named-properties.named_in invariance-named-properties.without invariance-named-properties.distinct invariance-named-properties.named_properties
    text-writer-decimal.digits_within text-writer-decimal.decimal
    report-line.spaced report-line.line report-line.refused_line report-line.spaced_totals report-line.total_line report-line.answer_lines
    report-text.terminated report-text.text
    report-output.output_lines
every_one = (refl, refl, refl, refl, refl, refl)

pub starred_right : results outcomes starred ≡ expected starred
starred_right = every_one.0

pub calls_right : results outcome calls ≡ expected calls
calls_right = every_one.1

pub outputs_right : results printed outputs ≡ expected outputs
outputs_right = every_one.2

pub namings_right : results named namings ≡ expected namings
namings_right = every_one.3

pub watches_right : results watches.outcome watches.calls ≡ expected watches.calls
watches_right = every_one.4

pub conjunctions_right : results conjunctions.outcome conjunctions.calls ≡ expected conjunctions.calls
conjunctions_right = every_one.5
