-- The examples of specs/Examples, computed.
use Prim.Native.Nat.{ℕ}
use mathlib.Core.List.{List, [], ◌∷◌}
use mathlib.Core.Bool.{true}
use mathlib.Core.Path.{◌≡◌, refl}
use lib.ListN.{length}
use Rattle.base.specs.LittleEndian
use Rattle.base.specs.Range
use Rattle.base.specs.Walk
use Rattle.record.specs.Record
use Rattle.record.specs.Record.{Records, item, broken, ended, records}
use Rattle.record.specs.Write
use Rattle.record.specs.Name
use Rattle.record.specs.Name.{same_name}
use Rattle.record.specs.Reserved
use Rattle.base.specs.Ascii.{bytes}
use Rattle.record.specs.Kind
use Rattle.base.specs.Vectors.{results, expected}
use Rattle.table.specs.Table
use Rattle.table.specs.Table.{table_reading}
use Rattle.table.specs.Properties
use Rattle.table.specs.Properties.{class_name, find_property}
use Rattle.table.specs.Sample.{sample_table}
use Rattle.table.specs.Examples.{tables, lookups, sample_starts}

tables_read : results table_reading tables ≡ expected tables
unfolding
    LittleEndian.unsigned Walk.walk Walk.from Record.record_at Record.records Write.little_endian Write.write
    Range.within Name.letter Name.name_byte Name.valid_name Name.lower Name.same_name
    Reserved.reserved_words Reserved.among Reserved.is_reserved Kind.integer_kind Kind.scalar_kind Kind.kind_of Table.properties Table.table_reading
tables_read = refl

names_found : results (find_property sample_table) lookups ≡ expected lookups
unfolding
    LittleEndian.unsigned Walk.walk Walk.from Record.record_at Record.records Write.little_endian Write.write
    Range.within Name.lower Name.same_name Properties.find_in Properties.find_property
names_found = refl

class_found : same_name (class_name sample_table) (bytes "p") ≡ true
unfolding LittleEndian.unsigned Record.record_at Write.little_endian Write.write Range.within Name.lower Name.same_name
class_found = refl

places : Records → List ℕ
places (item place kind start len rest) = place ∷ places rest
places (broken place) = []
places ended = []

sample_laid : (places (records sample_table 0) ≡ sample_starts) × (length sample_table ≡ 48)
unfolding places LittleEndian.unsigned Walk.walk Walk.from Record.record_at Record.records Write.little_endian Write.write
sample_laid = (refl, refl)
