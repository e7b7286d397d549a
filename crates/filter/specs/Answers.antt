-- What the code's parts give: the check of a query's comparisons, the truth and the steps of each comparison by the notes.
use Rattle.std.specs.Prelude.{ℕ, List, Bool, Ok, Result}
use Rattle.syntax.specs.declared.comparison.Comparison.{Comparison}
use Rattle.query_text.specs.Query.{Query, bad, good}
use Rattle.filter.specs.Check.{check_all, as_checked}
use Rattle.filter.specs.Meaning.{truth_of, steps_of}
use Rattle.filter.specs.Noted.{meant_noted}
use Rattle.filter.specs.declared.refusal.Refusal.{Refusal}

-- of a text that the grammar takes
abbrev pub check_query : (query table : List ℕ) → Query → Result (Unit {0}) Refusal
check_query q t (bad f) = Ok tt
check_query q t (good l) = as_checked (check_all q t l)

abbrev pub truth_noted : (query table instance notes : List ℕ) → Comparison → Bool
truth_noted q t i notes c = truth_of (meant_noted q t i notes c)

abbrev pub steps_noted : (query table instance notes : List ℕ) → Comparison → ℕ
steps_noted q t i notes c = steps_of (meant_noted q t i notes c)
