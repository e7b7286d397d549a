-- 02 Q-5: "The walk notes where each property's record starts; each noted place is proved to be the one that 01's layout gives, and every comparison reads from it."
-- Notes are a list of places, by the numbers of the properties.
use Rattle.std.specs.Prelude.{ℕ, zero, suc, ◌<◌, List, [], ◌∷◌, ◌≡◌, length, get_or, set, ltb}
use Rattle.std.proofs.Math.ListN.{get_elem?}
use Rattle.base.specs.Pick.{pick}
use Rattle.base.specs.Part.{part}
use Rattle.record.specs.Record.{Records, item, broken, ended, records}
use Rattle.table.specs.Properties.{kinds_of}
use Rattle.instance.specs.Start.{start_of}
use Rattle.instance.specs.Fault.{record_fits}
use Rattle.instance.specs.Value.{Entry, entry_at}

-- the place noted for a property; where the notes end before it, 0
abbrev pub place_noted : (notes : List ℕ) (number : ℕ) → ℕ
place_noted notes n = get_or notes n 0

-- the notes are right: each property's place is where its record starts
abbrev pub RightNotes : (table instance notes : List ℕ) → Type 0
RightNotes t i notes = (n : ℕ) → n < length (kinds_of t) → place_noted notes n ≡ start_of i n

-- the environment by the notes, whatever is noted
unfoldable pub environment_noted : (table instance notes : List ℕ) → (number : ℕ) → Entry
environment_noted t i notes n = entry_at (get_elem? (kinds_of t) n) i (place_noted notes n)

-- the starts of the first `count` records, written over the notes as far as these reach
unfoldable pub noted : (instance : List ℕ) (count : ℕ) (notes : List ℕ) → List ℕ
noted i zero notes = notes
noted i (suc n) notes = set (noted i n notes) n (start_of i n)

-- how many properties' records stand before the first at fault
unfoldable pub fitting : List ℕ → (kinds : List ℕ) → Records → ℕ
fitting i [] rs = 0
fitting i (k ∷ ks) (item place kind start len rest) = pick (record_fits k kind (part i start len)) (suc (fitting i ks rest)) 0
fitting i (k ∷ ks) (broken place) = 0
fitting i (k ∷ ks) ended = 0

-- the notes after a walk: of each property before the first fault; of an instance that is too long, none
unfoldable pub notes_under : (kinds instance notes : List ℕ) → List ℕ
notes_under ks i notes = pick (ltb 65535 (length i)) notes (noted i (fitting i ks (records i 0)) notes)

abbrev pub notes_after : (table instance notes : List ℕ) → List ℕ
notes_after t i notes = notes_under (kinds_of t) i notes
