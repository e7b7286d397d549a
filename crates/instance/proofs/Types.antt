-- The test of a body says what 01 says of it: both agree for every type and all bytes.
use Rattle.std.specs.Prelude.{Result, Ok, Err}
use Prim.Native.Nat.{ℕ}
use mathlib.Core.List.{List}
use mathlib.Core.Bool.{◌||◌}
use mathlib.Core.Path.{◌≡◌, refl}
use native.Mathlib.Omega.{arith}
use lib.ListN.{length}
use lib.Dec.{ltb, leb, eqb}
use Rattle.base.specs.Part.{byte_at}
use Rattle.base.proofs.Says.{Says, apart, says_eqb, says_leb, says_ltb, says_true, says_and, says_or}
use Rattle.record.specs.Record.{number_at}
use Rattle.record.specs.declared.kind.Family.{Family}
use Rattle.record.specs.declared.kind.Family.TheVariants.{Boolean, Integer, Real, Text, Char16, Octets, Datetime, Reference}
use Rattle.record.specs.declared.kind.ValueType.{ValueType}
use Rattle.encoding.specs.WellFormed.{first_ill_formed}
use Rattle.datetime.specs.Datetime.{datetime_of}
use Rattle.datetime.specs.declared.Datetime as calendar
use Rattle.datetime.specs.declared.Datetime.TheVariants.{Timestamp, Interval, Malformed}
use Rattle.instance.specs.Body.{HasFamily, HasType, boolean_fits, is_well_formed, text_fits, char16_fits, is_datetime, datetime_fits, family_fits, value_fits}

says_well_formed : (u : Result (Unit {0}) ℕ) → Says (is_well_formed u) (u ≡ Ok tt)
says_well_formed (Ok all) = record { to = λ e. refl; from = λ h. refl }
says_well_formed (Err p) = record { to = λ e. absurd (apart e); from = λ h. absurd (let z : ◌≡◌ {A = ℕ} 0 1 = cc in omega arith) }

says_datetime_law : (d : calendar.Datetime) → Says (is_datetime d) (d ≡ Malformed → ⊥)
says_datetime_law (Timestamp m) = record { to = λ e h. let z : ◌≡◌ {A = ℕ} 0 1 = cc in omega arith; from = λ h. refl }
says_datetime_law (Interval m) = record { to = λ e h. let z : ◌≡◌ {A = ℕ} 0 1 = cc in omega arith; from = λ h. refl }
says_datetime_law Malformed = record { to = λ e. absurd (apart e); from = λ h. absurd (h refl) }

says_family : (f : Family) (w : ℕ) (s : List ℕ) → Says (family_fits f w s) (HasFamily f w s)
unfolding boolean_fits text_fits char16_fits datetime_fits
says_family Boolean w s = says_and (eqb (length s) 1) (leb (byte_at s 0) 1) (says_eqb (length s) 1) (says_leb (byte_at s 0) 1)
says_family Integer w s = says_eqb (length s) w
says_family Real w s = says_eqb (length s) w
says_family Text w s = says_well_formed (first_ill_formed s)
says_family Char16 w s =
    says_and (eqb (length s) 2) (ltb (number_at s 0) 0xd800 || ltb 0xdfff (number_at s 0)) (says_eqb (length s) 2)
    (says_or (ltb (number_at s 0) 0xd800) (ltb 0xdfff (number_at s 0)) (says_ltb (number_at s 0) 0xd800) (says_ltb 0xdfff (number_at s 0)))
says_family Octets w s = says_true
says_family Datetime w s = says_datetime_law (datetime_of s)
says_family Reference w s = says_well_formed (first_ill_formed s)

pub says_value : (t : ValueType) (s : List ℕ) → Says (value_fits t s) (HasType t s)
says_value t s = says_family t.family t.width s
