-- Examples of tables with what they are found to be, and of names with what is found under them in the sample table.
use Rattle.std.specs.Prelude.{ℕ, zero, suc, ◌+◌, ◌/◌, ◌%◌, List, [], ◌∷◌, ◌++◌, Option, None, Ok, Err, replicate}
use Rattle.base.specs.Ascii.{bytes}
use Rattle.record.specs.Write.{write}
use Rattle.table.specs.declared.lookup.Property.{Property}
use Rattle.table.specs.Table.{Reading, malformed, name_twice}
use Rattle.table.specs.Properties.{found}
use Rattle.table.specs.Sample.{sample_class, sample_properties, sample_table}

-- boolean properties a0 to a7, b0 to b7 ..: as many as said, the last one first
abbrev pub booleans : ℕ → List ℕ
booleans zero = []
booleans (suc n) = write 1 ((97 + n / 8) ∷ (48 + n % 8) ∷ []) ++ booleans n

abbrev pub tables : List (List ℕ × Reading)
tables =
    (sample_table, Ok 6)
    ∷ ([], Err (malformed 0))
    ∷ (sample_properties, Err (malformed 0))
    ∷ (sample_class, Ok 0)
    -- 1 to 3 bytes left over, and a body past the end
    ∷ (sample_table ++ (0 ∷ []), Err (malformed 48))
    ∷ (sample_table ++ (0 ∷ 0 ∷ 1 ∷ []), Err (malformed 48))
    ∷ (sample_table ++ (2 ∷ 0 ∷ 1 ∷ 0 ∷ 97 ∷ []), Err (malformed 48))
    -- a class named by a reserved word, or by no name
    ∷ (write 0x0200 (bytes "Any") ++ sample_properties, Err (malformed 0))
    ∷ (write 0x0200 (bytes "true"), Err (malformed 0))
    ∷ (write 0x0200 [], Err (malformed 0))
    ∷ (write 0x0200 (replicate 65 120), Err (malformed 0))
    -- a property named by a reserved word, or as the class
    ∷ (sample_class ++ write 0x0011 (bytes "And") ++ write 1 (bytes "p"), Ok 2)
    -- kinds that say nothing, and a second class
    ∷ (sample_class ++ write 0 (bytes "a"), Err (malformed 5))
    ∷ (sample_class ++ write 11 (bytes "a"), Err (malformed 5))
    ∷ (sample_class ++ write 0x0013 (bytes "a"), Err (malformed 5))
    ∷ (sample_class ++ write 0x0100 (bytes "a"), Err (malformed 5))
    ∷ (sample_class ++ write 0x010b (bytes "a"), Err (malformed 5))
    ∷ (sample_class ++ write 0x0202 (bytes "a"), Err (malformed 5))
    ∷ (sample_class ++ write 1 (bytes "a") ++ sample_class, Err (malformed 10))
    -- the kinds of integers before their widths were written out
    ∷ (sample_class ++ write 1 (bytes "a") ++ write 2 (bytes "b"), Err (malformed 10))
    ∷ (sample_class ++ write 1 (bytes "a") ++ write 3 (bytes "b"), Err (malformed 10))
    ∷ (sample_class ++ write 1 (bytes "a") ++ write 0x0102 (bytes "b"), Err (malformed 10))
    ∷ (sample_class ++ write 1 (bytes "a") ++ write 0x0103 (bytes "b"), Err (malformed 10))
    -- a name twice, in another case too; before a later fault; after one in the same record
    ∷ (sample_table ++ write 6 (bytes "tEMP"), Err (name_twice 48))
    ∷ (sample_class ++ write 1 (bytes "a") ++ write 1 (bytes "A") ++ write 0 (bytes "b"), Err (name_twice 10))
    ∷ (sample_class ++ write 1 (bytes "a") ++ write 11 (bytes "A"), Err (malformed 10))
    -- 128 properties, and a 129th, whatever it holds
    ∷ (sample_class ++ booleans 128, Ok 128)
    ∷ (sample_class ++ booleans 129, Err (malformed 773))
    ∷ (sample_class ++ booleans 128 ++ write 1 (bytes "a0"), Err (malformed 773))
    -- the length before the records
    ∷ (sample_class ++ replicate 8187 255, Err (malformed 5))
    ∷ (sample_class ++ replicate 8188 255, Err (malformed 0))
    ∷ []

abbrev pub lookups : List (List ℕ × Option Property)
lookups =
    (bytes "On", found 0 1)
    ∷ (bytes "dEV", found 2 0x0118)
    ∷ (bytes "R", found 5 5)
    ∷ (bytes "P", None)
    ∷ (bytes "Tem", None)
    ∷ []

-- where the sample's records start
abbrev pub sample_starts : List ℕ
sample_starts = 0 ∷ 5 ∷ 11 ∷ 19 ∷ 26 ∷ 34 ∷ 43 ∷ []
