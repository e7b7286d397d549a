-- 02 Q-3: "every property the query names, in any of its comparisons", and "The property set is that of the text, skipped comparisons included."
-- A property goes by its number in the table, counted from 0, so that two spellings of one property are one.
use Rattle.std.specs.Prelude.{ℕ, List, [], ◌∷◌, ◌++◌, ◌≡◌, ◌⊎◌, eqb, None, Option, Some}
use Rattle.base.specs.Pick.{pick}
use Rattle.table.specs.declared.lookup.Property as lookup
use Rattle.syntax.specs.declared.right_side.RightSide.{RightSide}
use Rattle.syntax.specs.declared.right_side.RightSide.TheVariants.{Literal, Elements, Property, Pattern}
use Rattle.syntax.specs.declared.comparison.Comparison.{Comparison}
use Rattle.query_text.specs.Query.{Comparisons, only, more}
use Rattle.operand.specs.Named.{named}
use Rattle.filter.specs.Refusal.{Call, refused, compares, call_of}

-- the property that a path names, if there is one
abbrev pub property_of : Option lookup.Property → List ℕ
property_of (Some p) = p.number ∷ []
property_of None = []

abbrev pub named_right : (query table : List ℕ) → RightSide → List ℕ
named_right q t (Literal x) = []
named_right q t (Elements start count end) = []
named_right q t (Property p i) = property_of (named q t p)
named_right q t (Pattern x) = []

-- on either side of a comparison
unfoldable pub named_by : (query table : List ℕ) → Comparison → List ℕ
named_by q t c = property_of (named q t c.left.path) ++ named_right q t c.right

-- in any comparison, whether it is judged or skipped
unfoldable pub named_in : (query table : List ℕ) → Comparisons → List ℕ
named_in q t (only c) = named_by q t c
named_in q t (more c j r) = named_by q t c ++ named_in q t r

unfoldable pub without : ℕ → List ℕ → List ℕ
without n [] = []
without n (m ∷ ms) = pick (eqb n m) (without n ms) (m ∷ without n ms)

-- each number once, in the order in which they come first
unfoldable pub distinct : List ℕ → List ℕ
distinct [] = []
distinct (n ∷ ns) = n ∷ without n (distinct ns)

-- what is refused before any comparison is looked at names none
abbrev pub named_call : (query table : List ℕ) → Call → List ℕ
named_call q t (refused c p) = []
named_call q t (compares l) = distinct (named_in q t l)

-- the properties that a query names
unfoldable pub named_properties : (query table : List ℕ) → List ℕ
named_properties q t = named_call q t (call_of q t)

-- a number stands in a list
abbrev pub Member : ℕ → List ℕ → Type 0
Member n [] = ⊥
Member n (m ∷ ms) = (n ≡ m) ⊎ Member n ms

-- none of its numbers stands there again
unfoldable pub Once : List ℕ → Type 0
Once [] = Unit
Once (n ∷ ns) = (Member n ns → ⊥) × Once ns
