-- The sample with Temp and Dev in one byte beside the sample itself, which has them in eight: no query tells them apart.
use Prim.Native.Nat.{ℕ}
use mathlib.Core.List.{List}
use mathlib.Core.Path.{◌≡◌, refl}
use mathlib.Core.Logic.{inl, inr}
use native.Mathlib.Omega.{arith}
use Rattle.base.specs.LittleEndian
use Rattle.base.specs.Part
use Rattle.base.specs.Range
use Rattle.base.specs.Walk
use Rattle.base.specs.Digit
use Rattle.record.specs.Record
use Rattle.record.specs.Write
use Rattle.record.specs.Kind
use Rattle.record.specs.Name
use Rattle.record.specs.Reserved
use Rattle.encoding.specs.WellFormed
use Rattle.text_writer.specs.Decimal
use Rattle.datetime.specs.Calendar
use Rattle.datetime.specs.Text
use Rattle.datetime.specs.Unknown
use Rattle.datetime.specs.Datetime
use Rattle.table.specs.Properties
use Rattle.table.specs.Table
use Rattle.table.specs.Table.{FreeOfFaults}
use Rattle.table.specs.Sample.{table_in, sample_table}
use Rattle.instance.specs.Body
use Rattle.instance.specs.Conforms.{Conforms}
use Rattle.instance.specs.Fault
use Rattle.instance.specs.Fault.{conforming, conformity}
use Rattle.instance.specs.Sample.{instance_in, sample_instance}
use Rattle.instance.proofs.Decides.{no_fault_conforms}
use Rattle.invariance.specs.Wider.{ends, both, scalars, arrays, scalar, array, kept, integers, further, next, Wider, KeepsAnswer}
use Rattle.invariance.proofs.Wider.{widening}

narrow_free : FreeOfFaults (table_in 1)
unfolding
    LittleEndian.unsigned Walk.walk Walk.from Record.record_at Record.records Write.little_endian Write.write
    Range.within Name.letter Name.name_byte Name.valid_name Name.lower Name.same_name
    Reserved.reserved_words Reserved.among Reserved.is_reserved Kind.integer_kind Kind.scalar_kind Kind.kind_of Table.properties Table.table_reading
narrow_free = tt

narrow_fits : conformity (table_in 1) (instance_in 1) ≡ conforming
unfolding
    LittleEndian.unsigned Walk.walk Walk.from Record.record_at Record.records Write.little_endian Write.stored Write.write
    Kind.integer_kind Kind.scalar_kind Kind.kind_of Range.within Digit.digit_of Digit.all_digits Digit.value_of Properties.kinds_in
    WellFormed.in_range WellFormed.fits WellFormed.sequence_in WellFormed.sequence_at WellFormed.ill_formed_from
    Calendar.leap_years Calendar.days_before_month Text.shaped Text.date_in Text.time_in
    Decimal.digits_within Decimal.decimal Part.same_bytes Unknown.star_from Unknown.known Unknown.filled Unknown.lowest_text Unknown.highest_text Datetime.datetime_of
    Body.boolean_fits Body.text_fits Body.char16_fits Body.datetime_fits Fault.elements_fit Fault.further_fault Fault.fault_in Fault.fault_under
narrow_fits = refl

narrow_conforms : Conforms (table_in 1) (instance_in 1)
narrow_conforms = no_fault_conforms (table_in 1) (instance_in 1) narrow_free narrow_fits

sample_wider : Wider (table_in 1) (instance_in 1) sample_table sample_instance
unfolding
    LittleEndian.unsigned LittleEndian.twos_complement Walk.walk Walk.from Record.record_at Record.records Record.Fit
    Write.little_endian Write.stored Write.write Kind.integer_kind Kind.scalar_kind Kind.kind_of Properties.kinds_in
sample_wider =
    record {
      tables =
          both (inl refl, refl)
          (both (inl refl, refl)
          (both (inr (scalars (refl, refl)), refl)
          (both (inr (arrays (refl, refl)), refl) (both (inl refl, refl) (both (inl refl, refl) (both (inl refl, refl) ends))))));
      numbers =
          next (kept refl refl refl)
          (next (integers refl refl (scalar (refl, refl) (refl, refl)))
          (next
          (integers refl refl (array (refl, refl) (both (inr (refl, (refl, (refl, refl)))) (both (inr (refl, (refl, (refl, refl)))) ends))))
          (next (kept refl refl refl) (next (kept refl refl refl) (next (kept refl refl refl) (further tt))))));
      within = omega arith;
    }

pub sample_keeps : (q : List ℕ) → KeepsAnswer q (table_in 1) (instance_in 1) sample_table sample_instance
sample_keeps q = widening q (table_in 1) (instance_in 1) sample_table sample_instance narrow_conforms sample_wider
