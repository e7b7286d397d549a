-- 01 "Table" and, of "What can go wrong with a call", numbers 2 and 3: at most 8,192 bytes; a record 0x0200 with the class name, no reserved word,
-- then 0 to 128 properties, whose kind is the type, plus 0x0100 for an array, and whose body is the name. Records are tried in turn, 2 before 3 in each.
use Rattle.std.specs.Prelude.{ℕ, List, [], ◌∷◌, ◌++◌, Result, Ok, Err, Bool, true, false, not, ◌&&◌, length, ltb, eqb}
use Rattle.base.specs.Pick.{pick}
use Rattle.base.specs.Part.{part}
use Rattle.record.specs.Record.{Records, item, broken, ended, records}
use Rattle.record.specs.Name.{valid_name}
use Rattle.record.specs.Reserved.{is_reserved, among}
use Rattle.record.specs.Kind.{kind_of}
use Rattle.record.specs.declared.kind.Kind.{Kind}
use Rattle.record.specs.declared.kind.Kind.TheVariants.{Unknown, Scalar, Array}
use Rattle.table.specs.declared.validate.TableFault.{TableFault}
use Rattle.table.specs.declared.validate.TableFault.TheVariants.{Malformed, NameTwice}
use Rattle.table.specs.declared.validate.TableRefusal.{TableRefusal}

-- 01's numbers of the faults: table too long, malformed, bad name; table name twice
abbrev pub number_of : TableFault → ℕ
number_of Malformed = 2
number_of NameTwice = 3

abbrev pub malformed : (place : ℕ) → TableRefusal
malformed place = record { cause = Malformed; place = place }

abbrev pub name_twice : (place : ℕ) → TableRefusal
name_twice place = record { cause = NameTwice; place = place }

-- the number of a table's properties, or its first fault
abbrev pub Reading : Type 0
Reading = Result ℕ TableRefusal

abbrev pub malformed_at : (place : ℕ) → Reading
malformed_at place = Err (malformed place)

abbrev pub is_known : Kind → Bool
is_known Unknown = false
is_known (Scalar type) = true
is_known (Array element type) = true

abbrev pub is_class : (kind : ℕ) (name : List ℕ) → Bool
is_class kind name = eqb kind 0x0200 && valid_name name && not (is_reserved name)

abbrev pub is_property : (kind : ℕ) (name : List ℕ) → Bool
is_property kind name = is_known (kind_of kind) && valid_name name

-- the properties in records, after those of the names given
unfoldable pub properties : List ℕ → (names : List (List ℕ)) → Records → Reading
properties t names (item place kind start len rest) =
    pick (ltb (length names) 128 && is_property kind (part t start len))
    (pick (among (part t start len) names) (Err (name_twice place)) (properties t (names ++ (part t start len ∷ [])) rest))
    (malformed_at place)
properties t names (broken place) = malformed_at place
properties t names ended = Ok (length names)

-- the class, then the properties; a missing record is placed at the end
abbrev pub class : List ℕ → Records → Reading
class t (item place kind start len rest) = pick (is_class kind (part t start len)) (properties t [] rest) (malformed_at place)
class t (broken place) = malformed_at place
class t ended = malformed_at (length t)

-- what a table is found to be: good, with the number of its properties, or its first fault
unfoldable pub table_reading : List ℕ → Reading
table_reading t = pick (ltb 8192 (length t)) (malformed_at 0) (class t (records t 0))

abbrev pub IsGood : Reading → Type 0
IsGood (Ok count) = Unit
IsGood (Err refusal) = ⊥

-- a table free of 2 and 3
abbrev pub FreeOfFaults : List ℕ → Type 0
FreeOfFaults t = IsGood (table_reading t)
