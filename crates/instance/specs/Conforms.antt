-- 01 "Instance": "one record per property in table order, with the property's kind, or kind 0 and an empty body for NULL. An array body is 0 to 256 records of the
-- element's type or NULL. More records may follow; of these only the lengths must fit." `Conforms` is 01's term: "An instance conforms to a table free of 2 and 3
-- exactly when all this holds and each value keeps its type's rules"; one of more than 65,535 bytes doesn't.
use Rattle.std.specs.Prelude.{ℕ, suc, ◌≤◌, List, [], ◌∷◌, ◌≡◌, ◌⊎◌, length}
use Rattle.base.specs.Part.{part}
use Rattle.record.specs.Record.{Records, item, broken, ended, records, Fit}
use Rattle.record.specs.Kind.{kind_of}
use Rattle.record.specs.declared.kind.ValueType.{ValueType}
use Rattle.record.specs.declared.kind.Kind.{Kind}
use Rattle.record.specs.declared.kind.Kind.TheVariants.{Unknown, Scalar, Array}
use Rattle.table.specs.Table.{FreeOfFaults}
use Rattle.table.specs.Properties.{kinds_of}
use Rattle.instance.specs.Body.{HasType}

-- a record where a value of kind `asked` is asked for: kind 0 and an empty body for NULL, or that kind and the value's rules kept
abbrev pub Slot : (asked kind : ℕ) (body : List ℕ) → (Rules : Type 0) → Type 0
Slot asked kind body Rules = ((kind ≡ 0) × (length body ≡ 0)) ⊎ ((kind ≡ asked) × Rules)

-- how many records there are
unfoldable pub count : Records → ℕ
count (item place kind start len rest) = suc (count rest)
count (broken place) = 0
count ended = 0

-- records of the element's type or NULL
unfoldable pub Elements : List ℕ → (element : ℕ) → ValueType → Records → Type 0
Elements s element t (item place kind start len rest) =
    Slot element kind (part s start len) (HasType t (part s start len)) × Elements s element t rest
Elements s element t (broken place) = ⊥
Elements s element t ended = Unit

-- an array body
abbrev pub HasArray : (element : ℕ) → ValueType → List ℕ → Type 0
HasArray element t s = (count (records s 0) ≤ 256) × Elements s element t (records s 0)

-- the body of a value of a kind
abbrev pub HasKind : Kind → List ℕ → Type 0
HasKind Unknown s = ⊥
HasKind (Scalar t) s = HasType t s
HasKind (Array element t) s = HasArray element t s

-- one record per property in table order, then more records
unfoldable pub Lays : List ℕ → (kinds : List ℕ) → Records → Type 0
Lays i [] rs = Fit rs
Lays i (k ∷ ks) (item place kind start len rest) = Slot k kind (part i start len) (HasKind (kind_of k) (part i start len)) × Lays i ks rest
Lays i (k ∷ ks) (broken place) = ⊥
Lays i (k ∷ ks) ended = ⊥

pub record Conforms (table instance : List ℕ) : Type 0 where
  pub free : FreeOfFaults table
  pub short : length instance ≤ 65535
  pub lays : Lays instance (kinds_of table) (records instance 0)
