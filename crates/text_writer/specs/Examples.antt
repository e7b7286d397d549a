-- Numbers in decimal digits, the largest of 64 bits among them.
use Rattle.std.specs.Prelude.{ℕ, List, [], ◌∷◌}
use Rattle.base.specs.Ascii.{bytes}

abbrev pub numbers : List (ℕ × List ℕ)
numbers =
    (0, bytes "0")
    ∷ (9, bytes "9")
    ∷ (10, bytes "10")
    ∷ (65536, bytes "65536")
    ∷ (18446744073709551615, bytes "18446744073709551615")
    ∷ []
