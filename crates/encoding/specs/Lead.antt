-- What Table 3-7 says of a first byte by itself: the row whose first range holds it.
use Rattle.std.specs.Prelude.{ℕ, List, [], ◌∷◌, Bool, false, length, get_or}
use Rattle.base.specs.Pick.{pick}
use Rattle.encoding.specs.WellFormed.{Range, ◌‥◌, continuation, table, in_range}

unfoldable pub starts_with : List Range → ℕ → Bool
starts_with [] b = false
starts_with (r ∷ row) b = in_range r b

-- the first row that starts with the byte; no ranges if none does
unfoldable pub row_in : List (List Range) → ℕ → List Range
row_in [] b = []
row_in (row ∷ rows) b = pick (starts_with row b) row (row_in rows b)

unfoldable pub row_of : ℕ → List Range
row_of b = row_in table b

abbrev pub low : Range → ℕ
low (a ‥ b) = a

abbrev pub high : Range → ℕ
high (a ‥ b) = b

-- the length of the row, and the ends of its second range
unfoldable pub lead_length : ℕ → ℕ
lead_length b = length (row_of b)

unfoldable pub second_low : ℕ → ℕ
second_low b = low (get_or (row_of b) 1 continuation)

unfoldable pub second_high : ℕ → ℕ
second_high b = high (get_or (row_of b) 1 continuation)
