-- The comparisons of a query, one by one, and those that are read from its text.
use Rattle.std.specs.Prelude.{ℕ, List, ◌≡◌}
use Rattle.syntax.specs.declared.comparison.Comparison.{Comparison}
use Rattle.query_text.specs.declared.join.Join.{Join}
use Rattle.query_text.specs.Query.{Comparisons, only, more, good, query}

pub data Among (c : Comparison) : Comparisons → Type 0 where
  alone : Among c (only c)
  first : {j : Join} {l : Comparisons} → Among c (more c j l)
  later : {d : Comparison} {j : Join} {l : Comparisons} → Among c l → Among c (more d j l)

abbrev pub IsRead : (query : List ℕ) → Comparison → Type 0
IsRead q c = (l : Comparisons) × (query q ≡ good l) × Among c l
