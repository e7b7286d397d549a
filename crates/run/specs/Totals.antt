-- 01 "What can go wrong with a call": "Mark writes 1 included, 0 excluded, 255 for 31, one per instance; .. it returns the three totals."
use Rattle.std.specs.Prelude.{ℕ, ◌+◌, List, [], ◌∷◌, map, Bool, true, false, Err, Ok, Result}
use Rattle.base.specs.Pick.{pick}
use Rattle.filter.specs.Evaluate.{evaluate}
use Rattle.filter.specs.declared.refusal.Answer.{Answer}
use Rattle.filter.specs.declared.refusal.Answer.TheVariants.{Included, Excluded}
use Rattle.run.specs.declared.totals.Totals.{Totals}
use Rattle.run.specs.Run.{instances_of}
use Rattle.filter.specs.declared.refusal.Refusal.{Refusal}

-- the byte of an answer; in a run an accepted query fails with 31 only (proofs/Corollaries `failed_31`)
abbrev pub mark_of : Result Answer Refusal → ℕ
mark_of (Ok (Included steps)) = 1
mark_of (Ok (Excluded steps)) = 0
mark_of (Err r) = 255

-- evaluate of each instance, in order
abbrev pub answers_of : (query table run : List ℕ) → List (Result Answer Refusal)
answers_of q t run = map (evaluate q t) (instances_of run)

abbrev pub marks_of : (query table run : List ℕ) → List ℕ
marks_of q t run = map mark_of (answers_of q t run)

abbrev pub is_included : Result Answer Refusal → Bool
is_included (Ok (Included steps)) = true
is_included (Ok (Excluded steps)) = false
is_included (Err r) = false

abbrev pub is_excluded : Result Answer Refusal → Bool
is_excluded (Ok (Included steps)) = false
is_excluded (Ok (Excluded steps)) = true
is_excluded (Err r) = false

-- "an evaluation that returns a refusal has failed"
abbrev pub is_failed : Result Answer Refusal → Bool
is_failed (Ok (Included steps)) = false
is_failed (Ok (Excluded steps)) = false
is_failed (Err r) = true

-- how many members of a list are of a sort
unfoldable pub count : {A : Type 0} → (A → Bool) → List A → ℕ
count sort [] = 0
count sort (a ∷ rest) = pick (sort a) 1 0 + count sort rest

abbrev pub totals_of : List (Result Answer Refusal) → Totals
totals_of answers = record { included = count is_included answers; excluded = count is_excluded answers; failed = count is_failed answers }

-- the totals with one answer more, as the code counts
abbrev pub counted : Totals → Result Answer Refusal → Totals
counted x (Ok (Included steps)) = record { included = x.included + 1; excluded = x.excluded; failed = x.failed }
counted x (Ok (Excluded steps)) = record { included = x.included; excluded = x.excluded + 1; failed = x.failed }
counted x (Err r) = record { included = x.included; excluded = x.excluded; failed = x.failed + 1 }
