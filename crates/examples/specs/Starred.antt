-- 01 "A fan to try": every example on a line that has a star, with what check and evaluate say of it over the sample's table and instance.
use Rattle.std.specs.Prelude.{ℕ, List, [], ◌∷◌, Err, Ok, Result}
use Rattle.base.specs.Ascii.{bytes}
use Rattle.table.specs.Sample.{sample_table}
use Rattle.instance.specs.Sample.{sample_instance}
use Rattle.filter.specs.Refusal.{number_of}
use Rattle.filter.specs.Check.{check}
use Rattle.filter.specs.Evaluate.{evaluate}
use Rattle.filter.specs.declared.refusal.Answer.{Answer}
use Rattle.filter.specs.declared.refusal.Answer.TheVariants as answer
use Rattle.filter.specs.declared.refusal.Refusal.{Refusal}

-- in 01's words: a refusal by its number and place
pub data Outcome : Type 0 where
  accepted : Outcome
  included : (steps : ℕ) → Outcome
  excluded : (steps : ℕ) → Outcome
  refused : (number place : ℕ) → Outcome

abbrev pub check_outcome : Result (Unit {0}) Refusal → Outcome
check_outcome (Ok tt) = accepted
check_outcome (Err r) = refused (number_of r.cause) r.place

abbrev pub answer_outcome : Result Answer Refusal → Outcome
answer_outcome (Ok (answer.Included n)) = included n
answer_outcome (Ok (answer.Excluded n)) = excluded n
answer_outcome (Err r) = refused (number_of r.cause) r.place

-- check, then evaluate
abbrev pub outcomes_in : (table instance : List ℕ) → (query : List ℕ) → List Outcome
outcomes_in t i q = check_outcome (check q t) ∷ answer_outcome (evaluate q t i) ∷ []

abbrev pub outcomes : List ℕ → List Outcome
outcomes q = outcomes_in sample_table sample_instance q

abbrev yes : (steps : ℕ) → List Outcome
yes n = accepted ∷ included n ∷ []

abbrev never : (steps : ℕ) → List Outcome
never n = accepted ∷ excluded n ∷ []

abbrev refusal : (number place : ℕ) → List Outcome
refusal n p = refused n p ∷ refused n p ∷ []

abbrev pub starred : List (List ℕ × List Outcome)
starred =
    (bytes "On = TRUE", yes 1)
    ∷ (bytes "Dev = {3,14}", yes 3)
    ∷ (bytes "Dev = {14,3}", never 2)
    ∷ (bytes "ANY Dev = 14", yes 3)
    ∷ (bytes "NOT EVERY Dev = 3", yes 3)
    ∷ (bytes "Dev[2] = NULL", yes 1)
    ∷ (bytes "Name NOT LIKE 'FAN_.*'", never 6)
    ∷ (bytes "Temp > 0 AND On = TRUE OR R = .5", yes 2)
    ∷ (bytes "Temp < 18446744073709551615", yes 1)
    ∷ (bytes "Temp < 18446744073709551616", refusal 23 7)
    ∷ (bytes "Since = '20051003122233.000000+060'", yes 1)
    ∷ (bytes "R = 5", refusal 21 0)
    ∷ (bytes "On = TRUE AND", refusal 11 13)
    ∷ (bytes "Dev ANY 3", refusal 11 4)
    ∷ (bytes "ANY Dev LIKE 'x'", refusal 11 8)
    ∷ ([], refusal 11 0)
    ∷ []
