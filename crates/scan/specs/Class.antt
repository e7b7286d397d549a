-- Classes of bytes in a query's text, and runs of one class: 000 5.2.3 (whitespace), 5.3.2 (binary-digit, decimal-digit, hex-digit), 01 "Records" (names).
use Rattle.std.specs.Prelude.{ℕ, suc, ◌+◌, List, [], ◌∷◌, Bool, true, false, ◌||◌, drop, ltb, eqb}
use Rattle.base.specs.Digit.{digit_of}
use Rattle.record.specs.Name.{name_byte}
use Rattle.scan.specs.declared.Class.{Class}
use Rattle.scan.specs.declared.Class.TheVariants.{White, Word, Digit}

-- TAB, CR, LF, space
unfoldable pub white : ℕ → Bool
white b = eqb b 9 || (eqb b 13 || (eqb b 10 || eqb b 32))

-- whitespace, bytes of words, digits of a base
unfoldable pub in_class : Class → ℕ → Bool
in_class White b = white b
in_class Word b = name_byte b
in_class (Digit base) b = ltb (digit_of b) base

-- how many of the first bytes are of a class
unfoldable pub span : Class → List ℕ → ℕ
span c [] = 0
span c (b ∷ s) = elim (in_class c b) [ true ↦ suc (span c s) | false ↦ 0 ]

-- *(class): the end of the run of a class's bytes from a place on; the place itself if there is none
unfoldable pub run : Class → List ℕ → ℕ → ℕ
run c q at = at + span c (drop at q)
