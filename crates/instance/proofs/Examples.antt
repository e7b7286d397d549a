-- The examples of specs/Examples, computed.
use Prim.Native.Nat.{ℕ}
use mathlib.Core.List.{List}
use mathlib.Core.Path.{◌≡◌, refl}
use lib.ListN.{length}
use Rattle.base.specs.LittleEndian
use Rattle.base.specs.Part
use Rattle.base.specs.Range
use Rattle.base.specs.Walk
use Rattle.base.specs.Digit
use Rattle.base.specs.Vectors.{results, expected}
use Rattle.record.specs.Record
use Rattle.record.specs.Write
use Rattle.record.specs.Write.{write}
use Rattle.record.specs.Kind
use Rattle.encoding.specs.WellFormed
use Rattle.encoding.specs.Scalar
use Rattle.encoding.specs.Characters
use Rattle.text_writer.specs.Decimal
use Rattle.datetime.specs.Calendar
use Rattle.datetime.specs.Text
use Rattle.datetime.specs.Unknown
use Rattle.datetime.specs.Datetime
use Rattle.table.specs.Properties
use Rattle.table.specs.Sample.{sample_table}
use Rattle.instance.specs.Body
use Rattle.instance.specs.Fault
use Rattle.instance.specs.Fault.{conformity}
use Rattle.instance.specs.Start
use Rattle.instance.specs.Start.{start_of}
use Rattle.instance.specs.Value
use Rattle.instance.specs.Value.{environment}
use Rattle.instance.specs.Noted
use Rattle.instance.specs.Noted.{notes_after}
use Rattle.instance.specs.Sample.{sample_instance}
use Rattle.instance.specs.Examples.{one, types, samples, lengths, readings, integers, starts, walks}

all_judged : (results (λ (p : List ℕ × List ℕ). conformity p.0 p.1) types ≡ expected types)
    × (results (conformity sample_table) samples ≡ expected samples) × (results (conformity sample_table) lengths ≡ expected lengths)
unfolding
    LittleEndian.unsigned Walk.walk Walk.from Record.record_at Record.records Write.little_endian Write.stored Write.write Kind.integer_kind Kind.scalar_kind Kind.kind_of
    Range.within Digit.digit_of Digit.all_digits Digit.value_of Properties.kinds_in
    WellFormed.in_range WellFormed.fits WellFormed.sequence_in WellFormed.sequence_at WellFormed.ill_formed_from
    Calendar.leap_years Calendar.days_before_month Text.shaped Text.date_in Text.time_in
    Decimal.digits_within Decimal.decimal Part.same_bytes Unknown.star_from Unknown.known Unknown.filled Unknown.lowest_text Unknown.highest_text Datetime.datetime_of
    Body.boolean_fits Body.text_fits Body.char16_fits Body.datetime_fits Fault.elements_fit Fault.further_fault Fault.fault_in Fault.fault_under
all_judged = (refl, refl, refl)

all_read : (results (environment sample_table sample_instance) readings ≡ expected readings)
    × (results (λ (p : ℕ × List ℕ). environment (one p.0) (write p.0 p.1) 0) integers ≡ expected integers)
unfolding
    LittleEndian.unsigned LittleEndian.twos_complement Walk.walk Walk.from Record.record_at Record.records Write.little_endian Write.stored Write.write
    Kind.integer_kind Kind.scalar_kind Kind.kind_of Range.within Properties.kinds_in
    WellFormed.in_range WellFormed.fits WellFormed.sequence_in WellFormed.sequence_at Scalar.scalar_of Scalar.scalar_at Characters.characters_from
    Start.start_of Value.family_value Value.elements Value.value_at Value.environment_under
all_read = (refl, refl)

sample_laid : (results (start_of sample_instance) starts ≡ expected starts) × (length sample_instance ≡ 95)
unfolding LittleEndian.unsigned Record.record_at Write.little_endian Write.stored Write.write Start.start_of
sample_laid = (refl, refl)

all_walked : results (λ (p : List ℕ × List ℕ). notes_after sample_table p.0 p.1) walks ≡ expected walks
unfolding
    LittleEndian.unsigned Walk.walk Walk.from Record.record_at Record.records Write.little_endian Write.stored Write.write Kind.integer_kind Kind.scalar_kind Kind.kind_of
    Range.within Digit.digit_of Digit.all_digits Digit.value_of Properties.kinds_in
    WellFormed.in_range WellFormed.fits WellFormed.sequence_in WellFormed.sequence_at WellFormed.ill_formed_from
    Calendar.leap_years Calendar.days_before_month Text.shaped Text.date_in Text.time_in
    Decimal.digits_within Decimal.decimal Part.same_bytes Unknown.star_from Unknown.known Unknown.filled Unknown.lowest_text Unknown.highest_text Datetime.datetime_of
    Body.boolean_fits Body.text_fits Body.char16_fits Body.datetime_fits Fault.elements_fit Start.start_of Noted.noted Noted.fitting Noted.notes_under
all_walked = refl
