-- 01 "Records": "Run: records 0x0300, each body an instance"; and of "What can go wrong with a call" the place of 40, "the start of the first record at fault".
use Rattle.std.specs.Prelude.{ℕ, ◌+◌, List, [], ◌∷◌, Result, Ok, Err, eqb}
use Rattle.base.specs.Pick.{pick}
use Rattle.base.specs.Part.{part}
use Rattle.record.specs.Record.{Records, item, broken, ended, records}

-- records after `n` of kind 0x0300: how many these are in all, or the start of the first that is broken or of another kind
unfoldable pub reading_from : (n : ℕ) → Records → Result ℕ ℕ
reading_from n (item place kind start len rest) = pick (eqb kind 0x0300) (reading_from (n + 1) rest) (Err place)
reading_from n (broken place) = Err place
reading_from n ended = Ok n

unfoldable pub run_reading : (run : List ℕ) → Result ℕ ℕ
run_reading run = reading_from 0 (records run 0)

-- the bodies of records, in order
unfoldable pub bodies_of : (run : List ℕ) → Records → List (List ℕ)
bodies_of run (item place kind start len rest) = part run start len ∷ bodies_of run rest
bodies_of run (broken place) = []
bodies_of run ended = []

unfoldable pub instances_of : (run : List ℕ) → List (List ℕ)
instances_of run = bodies_of run (records run 0)
