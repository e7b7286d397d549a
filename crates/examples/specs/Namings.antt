-- 02 Q-3: queries with the properties that they name; in the sample's table On is 0, Temp 1, Dev 2, Name 3, Since 4, R 5.
use Rattle.std.specs.Prelude.{ℕ, List, [], ◌∷◌, ◌++◌, replicate}
use Rattle.base.specs.Ascii.{bytes}
use Rattle.table.specs.Sample.{sample_table}
use Rattle.invariance.specs.NamedProperties.{named_properties}

pub record Call : Type 0 where
  pub query : List ℕ
  pub table : List ℕ

abbrev over : (table query : List ℕ) → Call
over t q = record { query = q; table = t }

abbrev sample : (query : List ℕ) → Call
sample q = over sample_table q

abbrev pub named : Call → List ℕ
named c = named_properties c.query c.table

abbrev pub namings : List (Call × List ℕ)
namings =
    (sample (bytes "On = TRUE"), 0 ∷ [])
    -- two spellings of one property
    ∷ (sample (bytes "P.Temp = 1 OR temp <> 2"), 1 ∷ [])
    ∷ (sample (bytes "R = p.r"), 5 ∷ [])
    -- the other side, with an index, under ANY, beside an array literal and beside a pattern
    ∷ (sample (bytes "Dev[0] = Temp"), 2 ∷ 1 ∷ [])
    ∷ (sample (bytes "ANY Dev = Temp"), 2 ∷ 1 ∷ [])
    ∷ (sample (bytes "Dev = {3,14}"), 2 ∷ [])
    ∷ (sample (bytes "Name NOT LIKE 'Temp.*'"), 3 ∷ [])
    -- a comparison that the sample's instance skips, and groups
    ∷ (sample (bytes "On = TRUE OR Since = NULL"), 0 ∷ 4 ∷ [])
    ∷ (sample (bytes "(R > .5 AND Temp < 0) OR (On = TRUE AND Temp > 9)"), 5 ∷ 1 ∷ 0 ∷ [])
    -- names of no property, and a name in a text
    ∷ (sample (bytes "Nope = 1 OR Q.On = TRUE OR Name = 'On'"), 3 ∷ [])
    -- a fault of the text or of the table
    ∷ (sample (bytes "On = TRUE AND"), [])
    ∷ (sample (bytes "On = TRUE" ++ replicate 4088 32), [])
    ∷ (over (sample_table ++ (0 ∷ [])) (bytes "On = TRUE"), [])
    ∷ []
