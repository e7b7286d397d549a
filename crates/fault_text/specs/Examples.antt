-- What each number shows of a query and of a table (01 "What can go wrong with a call"), at a place inside, at the end and past it.
use Rattle.std.specs.Prelude.{ℕ, List, [], ◌∷◌}
use Rattle.base.specs.Ascii.{bytes}
use Rattle.fault_text.specs.FaultText.{shown_of, fault_text}
use Rattle.fault_text.specs.Part.{ShownPart, part_of}

-- of the query `query` and a table that is longer
abbrev pub shown : ℕ × ℕ → List ℕ
shown x = fault_text (bytes "query") (bytes "table's") x.0 x.1

abbrev pub places : List ((ℕ × ℕ) × List ℕ)
places =
    ((11, 0), bytes "query")
    ∷ ((11, 2), bytes "ery")
    -- the query's end, and past it
    ∷ ((11, 5), [])
    ∷ ((11, 6), [])
    ∷ ((2, 5), bytes "'s")
    ∷ ((3, 6), bytes "s")
    -- the table's
    ∷ ((3, 7), [])
    ∷ ((2, 8), [])
    ∷ []

abbrev pub numbers : List ((ℕ × ℕ) × List ℕ)
numbers =
    ((0, 3), [])
    ∷ ((1, 3), bytes "ry")
    ∷ ((2, 3), bytes "le's")
    ∷ ((3, 3), bytes "le's")
    ∷ ((4, 3), bytes "ry")
    ∷ ((9, 3), bytes "ry")
    ∷ ((10, 3), bytes "ry")
    ∷ ((12, 3), bytes "ry")
    ∷ ((13, 3), bytes "ry")
    ∷ ((19, 3), bytes "ry")
    ∷ ((20, 3), bytes "ry")
    ∷ ((25, 3), bytes "ry")
    ∷ ((26, 3), [])
    ∷ ((30, 3), [])
    ∷ ((40, 3), [])
    ∷ []

abbrev pub shown_part : ℕ × ℕ → ShownPart
shown_part x = part_of (shown_of 5 7 x.0 x.1) 5 7 x.1

abbrev part_with : (source start length : ℕ) → ShownPart
part_with source start n = record { source = source; start = start; length = n }

-- of texts of these lengths
abbrev pub parts : List ((ℕ × ℕ) × ShownPart)
parts =
    ((11, 2), part_with 1 2 3)
    ∷ ((11, 5), part_with 1 5 0)
    ∷ ((11, 6), part_with 0 0 0)
    ∷ ((3, 6), part_with 2 6 1)
    ∷ ((26, 3), part_with 0 0 0)
    ∷ []
