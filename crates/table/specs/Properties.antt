-- 01 "Table": the class and the properties of a table, with their names and kinds, and a property by its name. Of any bytes: what a malformed table lacks is absent.
use Rattle.std.specs.Prelude.{ℕ, ◌+◌, List, [], ◌∷◌, Option, Some, None, length, ltb}
use Rattle.base.specs.Pick.{pick}
use Rattle.base.specs.Part.{part}
use Rattle.record.specs.Record.{record_at, Records, item, broken, ended, records}
use Rattle.record.specs.Name.{same_name}
use Rattle.record.specs.declared.read.RecordAt.{RecordAt}
use Rattle.record.specs.declared.read.RecordAt.TheVariants.{Whole, Broken, End}
use Rattle.table.specs.declared.lookup.Property.{Property}

abbrev pub class_in : List ℕ → RecordAt → List ℕ
class_in t (Whole kind start len next) = part t start len
class_in t Broken = []
class_in t End = []

-- the class name: the body of the first record
abbrev pub class_name : List ℕ → List ℕ
class_name t = class_in t (record_at t 0)

abbrev pub after_first : List ℕ → RecordAt → ℕ
after_first t (Whole kind start len next) = next
after_first t Broken = length t
after_first t End = length t

-- where the first property's record starts
abbrev pub first_property : List ℕ → ℕ
first_property t = after_first t (record_at t 0)

-- the records of the properties
abbrev pub property_records : List ℕ → Records
property_records t = records t (first_property t)

unfoldable pub kinds_in : Records → List ℕ
kinds_in (item place kind start len rest) = kind ∷ kinds_in rest
kinds_in (broken place) = []
kinds_in ended = []

-- the kinds of the properties, in order
abbrev pub kinds_of : List ℕ → List ℕ
kinds_of t = kinds_in (property_records t)

unfoldable pub names_in : List ℕ → Records → List (List ℕ)
names_in t (item place kind start len rest) = part t start len ∷ names_in t rest
names_in t (broken place) = []
names_in t ended = []

-- their names
abbrev pub names_of : List ℕ → List (List ℕ)
names_of t = names_in t (property_records t)

-- the names of the records before a place
unfoldable pub names_before : List ℕ → (stop : ℕ) → Records → List (List ℕ)
names_before t stop (item place kind start len rest) = pick (ltb place stop) (part t start len ∷ names_before t stop rest) []
names_before t stop (broken place) = []
names_before t stop ended = []

-- a property that is found
abbrev pub found : (number kind : ℕ) → Option Property
found n k = Some (record { number = n; kind = k })

-- the first record with a name, where the records' numbers start with the one given
unfoldable pub find_in : List ℕ → (name : List ℕ) (number : ℕ) → Records → Option Property
find_in t name number (item place kind start len rest) =
    pick (same_name (part t start len) name) (found number kind) (find_in t name (number + 1) rest)
find_in t name number (broken place) = None
find_in t name number ended = None

-- the property of a name: its number, counted from 0, and its kind
unfoldable pub find_property : List ℕ → (name : List ℕ) → Option Property
find_property t name = find_in t name 0 (property_records t)
