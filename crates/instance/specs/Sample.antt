-- 01 "A fan to try", with the kinds of 02 Q-2: the sample instance, TRUE, −5, {3,14}, FAN_2, 20051003112233.000000+000, 0.5.
use Rattle.std.specs.Prelude.{ℕ, ◌+◌, List, [], ◌∷◌, ◌++◌, pos, negsuc}
use Rattle.base.specs.Ascii.{bytes}
use Rattle.record.specs.Write.{little_endian, stored, write}

-- with the integers in a width
abbrev pub instance_in : (width : ℕ) → List ℕ
instance_in w =
    write 1 (1 ∷ [])
    ++ write (0x0020 + w) (stored w (negsuc 4))
    ++ write (0x0110 + w) (write (0x0010 + w) (stored w (pos 3)) ++ write (0x0010 + w) (stored w (pos 14)))
    ++ write 6 (bytes "FAN_2")
    ++ write 9 (bytes "20051003112233.000000+000")
    ++ write 5 (little_endian 8 0x3fe0000000000000)

abbrev pub sample_instance : List ℕ
sample_instance = instance_in 8
