-- 01 "A fan to try", with the kinds of 02 Q-2: the sample table, class P with On (1), Temp (0x0028), Dev (0x0118), Name (6), Since (9), R (5).
use Rattle.std.specs.Prelude.{ℕ, ◌+◌, List, ◌++◌}
use Rattle.base.specs.Ascii.{bytes}
use Rattle.record.specs.Write.{write}

abbrev pub sample_class : List ℕ
sample_class = write 0x0200 (bytes "P")

-- with the integers in a width
abbrev pub properties_in : (width : ℕ) → List ℕ
properties_in w =
    write 1 (bytes "On")
    ++ write (0x0020 + w) (bytes "Temp")
    ++ write (0x0110 + w) (bytes "Dev")
    ++ write 6 (bytes "Name")
    ++ write 9 (bytes "Since")
    ++ write 5 (bytes "R")

abbrev pub table_in : (width : ℕ) → List ℕ
table_in w = sample_class ++ properties_in w

abbrev pub sample_properties : List ℕ
sample_properties = properties_in 8

abbrev pub sample_table : List ℕ
sample_table = table_in 8
