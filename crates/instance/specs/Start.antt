-- 01 "Instance": where each record of an instance starts, the first being that of the first property.
use Rattle.std.specs.Prelude.{ℕ, zero, suc, List}
use Rattle.record.specs.Record.{record_at}
use Rattle.record.specs.declared.read.RecordAt.{RecordAt}
use Rattle.record.specs.declared.read.RecordAt.TheVariants.{Whole, Broken, End}

-- past the record at a place, if a whole one is there
abbrev pub next_of : ℕ → RecordAt → ℕ
next_of at (Whole kind start len next) = next
next_of at Broken = at
next_of at End = at

abbrev pub next_at : List ℕ → ℕ → ℕ
next_at i at = next_of at (record_at i at)

-- the start of a record by its number, counted from 0; past the last one, the end
unfoldable pub start_of : List ℕ → (number : ℕ) → ℕ
start_of i zero = 0
start_of i (suc n) = next_at i (start_of i n)
