-- 01 "What can go wrong with a call": "Fault text takes query, table, number and place and shows the part of the query or of the table from the place on: table
-- for 2 and 3, query for 1 to 25 otherwise, an empty part of the query for other numbers or a place past the end."
use Rattle.std.specs.Prelude.{ℕ, List, [], Bool, ◌&&◌, ◌||◌, length, drop, leb, eqb, None, Option, Some}
use Rattle.base.specs.Pick.{pick}
use Rattle.fault_text.specs.declared.Shown.{Shown}
use Rattle.fault_text.specs.declared.Shown.TheVariants.{Query, Table}

abbrev pub shows_table : (number : ℕ) → Bool
shows_table n = eqb n 2 || eqb n 3

-- also 4 to 9 and 13 to 19, which no cause has
abbrev pub shows_query : (number : ℕ) → Bool
shows_query n = leb 1 n && leb n 25

-- a place at a text's end is not past it
abbrev pub unless_past : (place length : ℕ) → Option Shown → Option Shown
unless_past p n text = pick (leb p n) text None

unfoldable pub shown_of : (queryLength tableLength number place : ℕ) → Option Shown
shown_of ql tl n p = pick (shows_table n) (unless_past p tl (Some Table)) (pick (shows_query n) (unless_past p ql (Some Query)) None)

abbrev pub text_of : Option Shown → (query table : List ℕ) (place : ℕ) → List ℕ
text_of None q t p = []
text_of (Some Query) q t p = drop p q
text_of (Some Table) q t p = drop p t

unfoldable pub fault_text : (query table : List ℕ) (number place : ℕ) → List ℕ
fault_text q t n p = text_of (shown_of (length q) (length t) n p) q t p
