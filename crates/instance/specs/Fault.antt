-- Of 01 "What can go wrong with a call", numbers 30 and 31: an instance that is too long, or else the start of its first record at fault.
use Rattle.std.specs.Prelude.{ℕ, ◌+◌, List, [], ◌∷◌, Result, Ok, Err, Bool, true, false, ◌&&◌, ◌||◌, length, ltb, eqb}
use Rattle.base.specs.Pick.{pick}
use Rattle.base.specs.Part.{part}
use Rattle.record.specs.Record.{record_at, Records, item, broken, ended, records}
use Rattle.record.specs.Kind.{kind_of}
use Rattle.record.specs.declared.read.RecordAt.{RecordAt}
use Rattle.record.specs.declared.read.RecordAt.TheVariants.{Whole, Broken, End}
use Rattle.record.specs.declared.kind.ValueType.{ValueType}
use Rattle.record.specs.declared.kind.Kind.{Kind}
use Rattle.record.specs.declared.kind.Kind.TheVariants.{Unknown, Scalar, Array}
use Rattle.table.specs.Properties.{kinds_of}
use Rattle.instance.specs.Body.{value_fits}
use Rattle.instance.specs.declared.conform.InstanceFault.{InstanceFault}
use Rattle.instance.specs.declared.conform.InstanceFault.TheVariants.{TooLong, Nonconforming}
use Rattle.instance.specs.declared.conform.InstanceRefusal.{InstanceRefusal}

-- 01's numbers of the faults: instance too long; instance doesn't conform
abbrev pub number_of : InstanceFault → ℕ
number_of TooLong = 30
number_of Nonconforming = 31

abbrev pub nonconforming : (place : ℕ) → InstanceRefusal
nonconforming place = record { cause = Nonconforming; place = place }

abbrev pub too_long : InstanceRefusal
too_long = record { cause = TooLong; place = 0 }

-- what an instance is found to be: it conforms, or its first fault
abbrev pub Conformity : Type 0
Conformity = Result (Unit {0}) InstanceRefusal

abbrev pub conforming : Conformity
conforming = Ok tt

abbrev pub fault_at : (place : ℕ) → Conformity
fault_at place = Err (nonconforming place)

abbrev pub is_null : (kind : ℕ) (body : List ℕ) → Bool
is_null kind body = eqb kind 0 && eqb (length body) 0

-- a record where a value of kind `asked` is asked for, whose body keeps the value's rules or not
abbrev pub slot_fits : (asked kind : ℕ) (body : List ℕ) (rules : Bool) → Bool
slot_fits asked kind body rules = is_null kind body || eqb kind asked && rules

-- the elements of an array, of which `n` have been seen
unfoldable pub elements_fit : (element : ℕ) → ValueType → List ℕ → (n : ℕ) → Records → Bool
elements_fit element t s n (item place kind start len rest) =
    ltb n 256 && (slot_fits element kind (part s start len) (value_fits t (part s start len)) && elements_fit element t s (n + 1) rest)
elements_fit element t s n (broken place) = false
elements_fit element t s n ended = true

abbrev pub array_fits : (element : ℕ) → ValueType → List ℕ → Bool
array_fits element t s = elements_fit element t s 0 (records s 0)

abbrev pub body_fits : Kind → List ℕ → Bool
body_fits Unknown s = false
body_fits (Scalar t) s = value_fits t s
body_fits (Array element t) s = array_fits element t s

abbrev pub record_fits : (asked kind : ℕ) (body : List ℕ) → Bool
record_fits asked kind body = slot_fits asked kind body (body_fits (kind_of asked) body)

-- the first further record whose length doesn't fit
unfoldable pub further_fault : Records → Conformity
further_fault (item place kind start len rest) = further_fault rest
further_fault (broken place) = fault_at place
further_fault ended = conforming

-- the first record at fault; a missing one is placed at the end
unfoldable pub fault_in : List ℕ → (kinds : List ℕ) → Records → Conformity
fault_in i [] rs = further_fault rs
fault_in i (k ∷ ks) (item place kind start len rest) = pick (record_fits k kind (part i start len)) (fault_in i ks rest) (fault_at place)
fault_in i (k ∷ ks) (broken place) = fault_at place
fault_in i (k ∷ ks) ended = fault_at (length i)

-- what an instance is found to be under the kinds of a table's properties
unfoldable pub fault_under : (kinds instance : List ℕ) → Conformity
fault_under ks i = pick (ltb 65535 (length i)) (Err too_long) (fault_in i ks (records i 0))

abbrev pub conformity : (table instance : List ℕ) → Conformity
conformity t i = fault_under (kinds_of t) i

-- the record of a property that should start at a place: where it ends, or its fault
abbrev pub step_of : List ℕ → (place asked : ℕ) → RecordAt → Result ℕ InstanceRefusal
step_of i place asked (Whole kind start len next) = pick (record_fits asked kind (part i start len)) (Ok next) (Err (nonconforming place))
step_of i place asked Broken = Err (nonconforming place)
step_of i place asked End = Err (nonconforming (length i))

unfoldable pub step_at : List ℕ → (place asked : ℕ) → Result ℕ InstanceRefusal
step_at i place asked = step_of i place asked (record_at i place)
