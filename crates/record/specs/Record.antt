-- 01 "Records": a record is a body length (2 bytes), a kind (2 bytes), the body; least byte first.
use Rattle.std.specs.Prelude.{ℕ, ◌+◌, List, length, leb}
use Rattle.base.specs.Pick.{pick}
use Rattle.base.specs.Part.{part}
use Rattle.base.specs.LittleEndian.{unsigned}
use Rattle.base.specs.Walk.{from}
use Rattle.record.specs.declared.read.RecordAt.{RecordAt}
use Rattle.record.specs.declared.read.RecordAt.TheVariants.{Whole, Broken, End}

-- the number in the two bytes at an offset
abbrev pub number_at : List ℕ → ℕ → ℕ
number_at s at = unsigned (part s at 2)

-- what stands at an offset: the end, a whole record, or one that runs past the end
unfoldable pub record_at : List ℕ → ℕ → RecordAt
record_at s at =
    pick (leb (length s) at) End
    (pick (leb (at + 4 + number_at s at) (length s))
    (Whole (number_at s (at + 2)) (at + 4) (number_at s at) (at + 4 + number_at s at))
    Broken)

-- records one after the other, each with its place, its kind, and its body's start and length; at last one that runs past the end, with its place, or the end.
-- `place` is 01's term: a byte offset
pub data Records : Type 0 where
  item : (place kind start len : ℕ) → Records → Records
  broken : (place : ℕ) → Records
  ended : Records

abbrev pub follow : ℕ → RecordAt → (ℕ → Records) → Records
follow at (Whole kind start len next) later = item at kind start len (later next)
follow at Broken later = broken at
follow at End later = ended

-- the records from an offset on
unfoldable pub records : List ℕ → ℕ → Records
records s = from (λ at later. follow at (record_at s at) later) ended (length s)

-- the lengths of all records fit: none runs past the end
unfoldable pub Fit : Records → Type 0
Fit (item at kind start len rest) = Fit rest
Fit (broken at) = ⊥
Fit ended = Unit
