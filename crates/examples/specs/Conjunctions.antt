-- Calls of conjoin over the sample table, with what they return and the buffer after them: 02 Q-7.
use Rattle.std.specs.Prelude.{ℕ, zero, suc, List, [], ◌∷◌, ◌++◌, length, replicate, Err, Ok, Result}
use Rattle.base.specs.Ascii.{bytes}
use Rattle.table.specs.Sample.{sample_table}
use Rattle.conjunction.specs.Conjoin.{number_of, query_of, conjoin, buffer_after}
use Rattle.conjunction.specs.declared.refusal.ConjoinRefusal.{ConjoinRefusal}

-- in 02's words: the text's length, or a refusal by its number and place, and which query it is about, 0 for neither
pub data Outcome : Type 0 where
  written : (length : ℕ) → Outcome
  refused : (number place query : ℕ) → Outcome

abbrev pub outcome_of : Result ℕ ConjoinRefusal → Outcome
outcome_of (Ok n) = written n
outcome_of (Err r) = refused (number_of r.cause) r.place (query_of r.cause)

pub record Call : Type 0 where
  pub first : List ℕ
  pub second : List ℕ
  pub table : List ℕ
  pub buffer : List ℕ

abbrev call : (first second table buffer : List ℕ) → Call
call q p t b = record { first = q; second = p; table = t; buffer = b }

abbrev pub outcome : Call → Outcome × List ℕ
outcome c = (
  outcome_of (conjoin c.first c.second c.table (length c.buffer)),
  buffer_after c.first c.second c.table c.buffer,
)

abbrev over : (first second buffer : List ℕ) → Call
over q p b = call q p sample_table b

abbrev on : List ℕ
on = bytes "On = TRUE"

abbrev hot : List ℕ
hot = bytes "(Temp > 9)"

abbrev hot_and_on : List ℕ
hot_and_on = bytes "(On = TRUE) AND (Temp > 9)"

-- a term of one comparison, and so many more
unfoldable pub ored : ℕ → List ℕ
ored zero = bytes "(R=5.)"
ored (suc n) = bytes "(R=5.) OR " ++ ored n

abbrev pub calls : List (Call × (Outcome × List ℕ))
calls =
    (over on hot (replicate 26 7), (written 26, hot_and_on))
    -- bytes beyond the text
    ∷ (over on hot (replicate 29 7), (written 26, hot_and_on ++ (7 ∷ 7 ∷ 7 ∷ [])))
    -- a buffer too short
    ∷ (over on hot (replicate 25 7), (refused 44 0 0, replicate 25 7))
    ∷ (over on hot [], (refused 44 0 0, []))
    -- the first's fault before the second's, whatever their numbers; a table's comes with the first
    ∷ (over (bytes "Nope = 1") (bytes "On = TRUE AND") (7 ∷ []), (refused 20 0 1, 7 ∷ []))
    ∷ (over on (bytes "On = TRUE AND") (7 ∷ []), (refused 11 13 2, 7 ∷ []))
    ∷ (call on (bytes "Nope = 1") (sample_table ++ (0 ∷ [])) (7 ∷ []), (refused 2 (length sample_table) 1, 7 ∷ []))
    -- 64 comparisons, 8 times 4 and 4 times 8, are few enough; 65, 5 times 5 and 5 times 8, are too many; both after the two checks and before the buffer's size
    ∷ (over (ored 3) (ored 7) (7 ∷ []), (refused 44 0 0, 7 ∷ []))
    ∷ (over (ored 4) (bytes "(R=5. AND R=5. AND R=5. AND R=5.) OR " ++ ored 3) (7 ∷ []), (refused 43 0 0, 7 ∷ []))
    ∷ (over (ored 7) (ored 7 ++ bytes " OR (Nope = 1)") (7 ∷ []), (refused 20 81 2, 7 ∷ []))
    ∷ []
