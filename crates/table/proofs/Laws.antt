-- One law for each way out of the functions of src/.
use Rattle.std.specs.Prelude.{Option, None, Ok, Err}
use Prim.Native.Nat.{ℕ, ◌+◌, ◌≤◌, ◌<◌}
use mathlib.Core.List.{List, [], ◌∷◌, ◌++◌}
use mathlib.Core.Bool.{Bool, true, false, not}
use mathlib.Core.Path.{◌≡◌, sym, ap, ◌∙◌}
use native.Mathlib.Omega.{arith}
use lib.ListN.{length, take, set, length-append}
use borrow.Author.Tests.{lt-ltb, le-ltb, not-true, not-false}
use Rattle.base.specs.Part.{part}
use Rattle.record.specs.Record.{record_at, Records, item, broken, ended, records}
use Rattle.record.specs.Name.{same_name}
use Rattle.record.specs.Reserved.{among}
use Rattle.record.specs.declared.read.RecordAt.{RecordAt}
use Rattle.record.specs.declared.read.RecordAt.TheVariants.{Whole, Broken, End}
use Rattle.record.proofs.Records.{records_whole, records_broken, records_end}
use Rattle.record.proofs.Reach.{Reaches, reaches_next}
use Rattle.record.specs.declared.walk.Record.{Record}
use Rattle.record.specs.declared.walk.Records.{Records as Walk}
use Rattle.record.specs.Walked.{left, Passes}
use Rattle.table.specs.declared.lookup.Property.{Property}
use Rattle.table.specs.Table.{Reading, malformed_at, name_twice, is_class, is_property, properties, table_reading}
use Rattle.table.specs.Properties.{class_name, first_property, names_before, found, find_in}
use Rattle.table.specs.Hash.{hash_of, hashes_of}
use Rattle.table.proofs.Before.{before_none, before_next}
use Rattle.table.proofs.Hashes.{hashes_set}

-- a name among those before a place
module _ (t name : List ℕ) (stop : ℕ) (w : Bool) (rs : Records) (inv : w ≡ among name (names_before t stop rs)) where
  pub used_broken : (place : ℕ) → rs ≡ broken place → false ≡ w
  unfolding among names_before
  used_broken place f = sym (inv ∙ rw f)

  pub used_end : rs ≡ ended → false ≡ w
  unfolding among names_before
  used_end f = sym (inv ∙ rw f)

  module _ (place kind start len : ℕ) (rest : Records) (f : rs ≡ item place kind start len rest) where
    pub used_past : stop ≤ place → false ≡ w
    unfolding among names_before
    used_past h = sym (inv ∙ rw (f, le-ltb place stop h))

    module _ (h : place < stop) (b : List ℕ) (g : b ≡ part t start len) (x : Bool) (y : x ≡ same_name name b) where
      told : x ≡ same_name name (part t start len)
      told = y ∙ rw g

      pub used_found : x ≡ true → true ≡ w
      unfolding among names_before
      used_found z = sym (inv ∙ rw (f, lt-ltb place stop h, ← told, z))

      pub used_next : x ≡ false → w ≡ among name (names_before t stop rest)
      unfolding among names_before
      used_next z = inv ∙ rw (f, lt-ltb place stop h, ← told, z)

-- the properties, one after the other
module _ (t : List ℕ) (names : List (List ℕ)) (count : ℕ) (size : count ≡ length names) (w : Reading) (rs : Records) (inv : w ≡ properties t names rs) where
  pub properties_broken : (place : ℕ) → rs ≡ broken place → malformed_at place ≡ w
  unfolding properties
  properties_broken place f = sym (inv ∙ rw f)

  pub properties_end : rs ≡ ended → Ok count ≡ w
  unfolding properties
  properties_end f = sym (inv ∙ rw (f, size))

  module _ (place kind start len : ℕ) (rest : Records) (f : rs ≡ item place kind start len rest) where
    pub properties_many : 128 ≤ count → malformed_at place ≡ w
    unfolding properties
    properties_many h = sym (inv ∙ rw (f, le-ltb (length names) 128 (omega arith)))

    module _ (h : count < 128) (b : List ℕ) (g : b ≡ part t start len) (p : Bool) (q : p ≡ is_property kind b) where
      few : length names < 128
      few = omega arith

      judged : p ≡ is_property kind (part t start len)
      judged = q ∙ rw g

      pub properties_bad : not p ≡ true → malformed_at place ≡ w
      unfolding properties
      properties_bad z = sym (inv ∙ rw (f, lt-ltb (length names) 128 few, ← judged, not-true p z))

      module _ (z : not p ≡ false) (u : Bool) (v : u ≡ among b names) where
        used : u ≡ among (part t start len) names
        used = v ∙ rw g

        pub properties_twice : u ≡ true → Err (name_twice place) ≡ w
        unfolding properties
        properties_twice a = sym (inv ∙ rw (f, lt-ltb (length names) 128 few, ← judged, not-false p z, ← used, a))

        pub properties_next : u ≡ false → w ≡ properties t (names ++ (part t start len ∷ [])) rest
        unfolding properties
        properties_next a = inv ∙ rw (f, lt-ltb (length names) 128 few, ← judged, not-false p z, ← used, a)

-- the same along the names before the place
pub properties_start : (t : List ℕ) (first : ℕ) → properties t [] (records t first) ≡ properties t (names_before t first (records t first)) (records t first)
properties_start t first = let h : first ≤ first = omega arith in rw (before_none t first first h)

pub count_start : (t : List ℕ) (first : ℕ) → 0 ≡ length (names_before t first (records t first))
count_start t first = let h : first ≤ first = omega arith in rw (before_none t first first h)

pub hashes_start : (t : List ℕ) (first : ℕ) (hashes : List ℕ) → take 0 hashes ≡ hashes_of (names_before t first (records t first))
unfolding hashes_of
hashes_start t first hashes = let h : first ≤ first = omega arith in rw (before_none t first first h)

module _ (t : List ℕ) (first : ℕ) {w v : Walk} {r : Record} (p : Passes w r v) (same : w.bytes.now ≡ t) (reach : Reaches t first w.at) where
  stands : record_at t w.at ≡ Whole r.kind r.start r.length v.at
  stands = sym (ap (λ (s : List ℕ). record_at s w.at) same) ∙ p.found

  pub stays : v.bytes.now ≡ t
  stays = rw p.same same

  pub walked : Reaches t first v.at
  walked = reaches_next t reach stands

  pub count_next : (count : ℕ) → count ≡ length (names_before t w.at (records t first)) → count + 1 ≡ length (names_before t v.at (records t first))
  count_next count h = rw (before_next t reach stands) (omega (arith, length-append (names_before t w.at (records t first)) (part t r.start r.length ∷ [])))

  pub properties_walked : (x : Reading) → x ≡ properties t (names_before t w.at (records t first) ++ (part t r.start r.length ∷ [])) (left v)
      → x ≡ properties t (names_before t v.at (records t first)) (left v)
  properties_walked x h = rw (before_next t reach stands) h

  pub hashes_next : (hashes : List ℕ) (count : ℕ) → length hashes ≡ 128 → count < 128 → take count hashes ≡ hashes_of (names_before t w.at (records t first))
      → (b : List ℕ) → b ≡ part t r.start r.length → (h : ℕ) → h ≡ hash_of b → take (count + 1) (set hashes count h) ≡ hashes_of (names_before t v.at (records t first))
  hashes_next hashes count size few inv b g h i =
      rw (before_next t reach stands, ← g) (hashes_set hashes count (names_before t w.at (records t first)) b h (omega arith) inv i)

-- a table
module _ (t : List ℕ) where
  pub table_long : 8192 < length t → malformed_at 0 ≡ table_reading t
  unfolding table_reading
  table_long h = rw (lt-ltb 8192 (length t) h)

  module _ (h : length t ≤ 8192) (r : RecordAt) (e : r ≡ record_at t 0) where
    pub table_broken : r ≡ Broken → malformed_at 0 ≡ table_reading t
    unfolding table_reading
    table_broken f = rw (le-ltb 8192 (length t) h, records_broken t 0 (sym e ∙ f))

    pub table_end : r ≡ End → malformed_at (length t) ≡ table_reading t
    unfolding table_reading
    table_end f = rw (le-ltb 8192 (length t) h, records_end t 0 (sym e ∙ f))

    module _ (kind start len next : ℕ) (f : r ≡ Whole kind start len next) (b : List ℕ) (g : b ≡ part t start len) (p : Bool) (q : p ≡ is_class kind b) where
      judged_class : p ≡ is_class kind (part t start len)
      judged_class = q ∙ rw g

      pub table_no_class : not p ≡ true → malformed_at 0 ≡ table_reading t
      unfolding table_reading
      table_no_class z = rw (le-ltb 8192 (length t) h, records_whole t 0 kind start len next (sym e ∙ f), ← judged_class, not-true p z)

      pub table_class : not p ≡ false → (x : Reading) → x ≡ properties t [] (records t next) → x ≡ table_reading t
      unfolding table_reading
      table_class z x y = y ∙ rw (le-ltb 8192 (length t) h, records_whole t 0 kind start len next (sym e ∙ f), ← judged_class, not-false p z)

-- the first record of a table
module _ (t : List ℕ) (r : RecordAt) (e : r ≡ record_at t 0) where
  pub first_whole : (kind start len next : ℕ) → r ≡ Whole kind start len next → next ≡ first_property t
  first_whole kind start len next f = rw (← e, f)

  pub first_broken : r ≡ Broken → length t ≡ first_property t
  first_broken f = rw (← e, f)

  pub first_end : r ≡ End → length t ≡ first_property t
  first_end f = rw (← e, f)

  pub class_whole : (kind start len next : ℕ) → r ≡ Whole kind start len next → (b : List ℕ) → b ≡ part t start len → b ≡ class_name t
  class_whole kind start len next f b g = g ∙ rw (← e, f)

  pub class_broken : r ≡ Broken → (b : List ℕ) → b ≡ part t 0 0 → b ≡ class_name t
  class_broken f b g = g ∙ rw (← e, f)

  pub class_end : r ≡ End → (b : List ℕ) → b ≡ part t 0 0 → b ≡ class_name t
  class_end f b g = g ∙ rw (← e, f)

-- a property by its name
module _ (t name : List ℕ) (number : ℕ) (w : Option Property) (rs : Records) (inv : w ≡ find_in t name number rs) where
  pub find_broken : (place : ℕ) → rs ≡ broken place → None ≡ w
  unfolding find_in
  find_broken place f = sym (inv ∙ rw f)

  pub find_end : rs ≡ ended → None ≡ w
  unfolding find_in
  find_end f = sym (inv ∙ rw f)

  module _ (place kind start len : ℕ) (rest : Records) (f : rs ≡ item place kind start len rest) (b : List ℕ) (g : b ≡ part t start len) (x : Bool) (y : x ≡ same_name b name) where
    pub find_found : x ≡ true → found number kind ≡ w
    unfolding find_in
    find_found z = sym (inv ∙ rw (f, ← g, ← y, z))

    pub find_next : x ≡ false → w ≡ find_in t name (number + 1) rest
    unfolding find_in
    find_next z = inv ∙ rw (f, ← g, ← y, z)
