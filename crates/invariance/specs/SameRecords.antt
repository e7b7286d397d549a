-- 02 Q-3: "two conforming instances that hold the same records for every property the query names, in any of its comparisons, give the same answer and the same steps,
-- however else they differ."
use Rattle.std.specs.Prelude.{ℕ, suc, ◌≤◌, ◌<◌, List, [], ◌∷◌, ◌++◌, ◌≡◌, length, get_or, take, drop, Ok, Result}
use Rattle.base.specs.Part.{part}
use Rattle.record.specs.Record.{record_at}
use Rattle.record.specs.Kind.{kind_of}
use Rattle.record.specs.Write.{write}
use Rattle.record.specs.declared.read.RecordAt.{RecordAt}
use Rattle.record.specs.declared.read.RecordAt.TheVariants.{Whole, Broken, End}
use Rattle.table.specs.Properties.{kinds_of}
use Rattle.instance.specs.Start.{start_of}
use Rattle.instance.specs.Conforms.{Slot, HasKind, Conforms}
use Rattle.instance.specs.Value.{environment}
use Rattle.filter.specs.declared.refusal.Answer.{Answer}
use Rattle.filter.specs.declared.refusal.Answer.TheVariants.{Included, Excluded}
use Rattle.mark.specs.Mark.{mark, marks_after}
use Rattle.invariance.specs.NamedProperties.{Member}
use Rattle.filter.specs.declared.refusal.Refusal.{Refusal}

-- what an instance holds for a property: a record, which is its kind and its body, or nothing
pub data Held : Type 0 where
  nothing : Held
  held : (kind : ℕ) (body : List ℕ) → Held

abbrev pub held_in : List ℕ → RecordAt → Held
held_in i (Whole kind start len next) = held kind (part i start len)
held_in i Broken = nothing
held_in i End = nothing

unfoldable pub held_for : (instance : List ℕ) (number : ℕ) → Held
held_for i n = held_in i (record_at i (start_of i n))

-- of each property of a set
abbrev pub SameRecords : (numbers instance other : List ℕ) → Type 0
SameRecords ns i j = (n : ℕ) → Member n ns → held_for i n ≡ held_for j n

-- less to ask: that the same is read, in whatever bytes it is stored
abbrev pub SameValues : (numbers table instance other : List ℕ) → Type 0
SameValues ns t i j = (n : ℕ) → Member n ns → environment t i n ≡ environment t j n

-- both included or both excluded, in as many steps
pub data SameVerdict : Result Answer Refusal → Result Answer Refusal → Type 0 where
  included : {n : ℕ} → SameVerdict (Ok (Included n)) (Ok (Included n))
  excluded : {n : ℕ} → SameVerdict (Ok (Excluded n)) (Ok (Excluded n))

-- ---- a change to one property
-- all others have the same records
abbrev pub SameBut : (number : ℕ) (table instance other : List ℕ) → Type 0
SameBut n t i j = (m : ℕ) → m < length (kinds_of t) → (m ≡ n → ⊥) → held_for i m ≡ held_for j m

-- the instance with another record for a property
unfoldable pub replaced : (instance : List ℕ) (number kind : ℕ) (body : List ℕ) → List ℕ
replaced i n kind body = take (start_of i n) i ++ (write kind body ++ drop (start_of i (suc n)) i)

-- a record that the property's kind allows, a value or NULL, within the instance's 65,535 bytes
pub record Replaces (t i : List ℕ) (n kind : ℕ) (body : List ℕ) : Type 0 where
  pub property : n < length (kinds_of t)
  pub allowed : Slot (get_or (kinds_of t) n 0) kind body (HasKind (kind_of (get_or (kinds_of t) n 0)) body)
  pub within : length (replaced i n kind body) ≤ 65535

-- ---- runs, instance by instance
-- left as it is; conforming and with the same records; or not conforming
pub data SameInstance (ns t : List ℕ) : (instance other : List ℕ) → Type 0 where
  kept : {i : List ℕ} → SameInstance ns t i i
  conforming : {i j : List ℕ} → Conforms t i → Conforms t j → SameRecords ns i j → SameInstance ns t i j
  failing : {i j : List ℕ} → (Conforms t i → ⊥) → (Conforms t j → ⊥) → SameInstance ns t i j

pub data SameInstances (ns t : List ℕ) : (instances others : List (List ℕ)) → Type 0 where
  ends : SameInstances ns t [] []
  next : {i j : List ℕ} {is js : List (List ℕ)} → SameInstance ns t i j → SameInstances ns t is js → SameInstances ns t (i ∷ is) (j ∷ js)

-- what mark returns, and the marks after it
pub record SameMarks (q t run other m : List ℕ) : Type 0 where
  pub returns : mark q t run (length m) ≡ mark q t other (length m)
  pub marks : marks_after q t run m ≡ marks_after q t other m
