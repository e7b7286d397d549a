-- Well-formed UTF-8: Table 3-7 of the Unicode Standard, "Well-Formed UTF-8 Byte Sequences", as a table.
use Rattle.std.specs.Prelude.{ℕ, ◌+◌, List, [], ◌∷◌, Bool, true, false, ◌&&◌, length, drop, ltb, eqb, Result, Ok, Err}
use Rattle.base.specs.Pick.{pick}
use Rattle.base.specs.Range.{within}
use Rattle.base.specs.Walk.{from}

-- the bytes from one to another, both included
pub data Range : Type 0 where
  ◌‥◌ : ℕ → ℕ → Range

infix 80 ◌‥◌
-- a continuation byte that the table doesn't narrow
abbrev pub continuation : Range
continuation = 0x80 ‥ 0xBF

-- the table's rows: the first, second, third and fourth byte
abbrev pub table : List (List Range)
table =
    (0x00 ‥ 0x7F ∷ [])
    ∷ (0xC2 ‥ 0xDF ∷ 0x80 ‥ 0xBF ∷ [])
    ∷ (0xE0 ‥ 0xE0 ∷ 0xA0 ‥ 0xBF ∷ 0x80 ‥ 0xBF ∷ [])
    ∷ (0xE1 ‥ 0xEC ∷ 0x80 ‥ 0xBF ∷ 0x80 ‥ 0xBF ∷ [])
    ∷ (0xED ‥ 0xED ∷ 0x80 ‥ 0x9F ∷ 0x80 ‥ 0xBF ∷ [])
    ∷ (0xEE ‥ 0xEF ∷ 0x80 ‥ 0xBF ∷ 0x80 ‥ 0xBF ∷ [])
    ∷ (0xF0 ‥ 0xF0 ∷ 0x90 ‥ 0xBF ∷ 0x80 ‥ 0xBF ∷ 0x80 ‥ 0xBF ∷ [])
    ∷ (0xF1 ‥ 0xF3 ∷ 0x80 ‥ 0xBF ∷ 0x80 ‥ 0xBF ∷ 0x80 ‥ 0xBF ∷ [])
    ∷ (0xF4 ‥ 0xF4 ∷ 0x80 ‥ 0x8F ∷ 0x80 ‥ 0xBF ∷ 0x80 ‥ 0xBF ∷ [])
    ∷ []

unfoldable pub in_range : Range → ℕ → Bool
in_range (low ‥ high) b = within low high b

-- a text starts with a byte of each of a row's ranges
unfoldable pub fits : List Range → List ℕ → Bool
fits [] s = true
fits (r ∷ row) [] = false
fits (r ∷ row) (b ∷ s) = in_range r b && fits row s

-- the number of ranges of the first row that fits; 0 if none does
unfoldable pub sequence_in : List (List Range) → List ℕ → ℕ
sequence_in [] s = 0
sequence_in (row ∷ rows) s = pick (fits row s) (length row) (sequence_in rows s)

-- the length of the well-formed sequence at a place (01: a byte offset); 0 if none starts there
unfoldable pub sequence_at : List ℕ → ℕ → ℕ
sequence_at s at = sequence_in table (drop at s)

abbrev pub ill_formed_step : List ℕ → ℕ → (ℕ → Result (Unit {0}) ℕ) → Result (Unit {0}) ℕ
ill_formed_step s at rest =
    pick (ltb at (length s)) (pick (eqb (sequence_at s at) 0) (Err at) (rest (at + sequence_at s at))) (Ok tt)

-- the first place, from one on, at which a sequence should start and no well-formed one does
unfoldable pub ill_formed_from : List ℕ → ℕ → Result (Unit {0}) ℕ
ill_formed_from s = from (ill_formed_step s) (Ok tt) (length s)

-- whether a text is well-formed; the error is the first byte of its first ill-formed sequence
abbrev pub first_ill_formed : List ℕ → Result (Unit {0}) ℕ
first_ill_formed s = ill_formed_from s 0
