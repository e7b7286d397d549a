-- A table with wider integers has the same class and the same names, finds the same properties, and is as free of 2 and 3.
use Rattle.std.specs.Prelude.{Err, None, Option}
use Prim.Native.Nat.{ℕ, ◌+◌}
use mathlib.Core.Path.{◌≡◌, refl, sym, ap}
use mathlib.Core.List.{List, [], ◌∷◌, ◌++◌}
use mathlib.Core.Bool.{Bool, true, false, ◌&&◌}
use mathlib.Core.Logic.{inl, inr}
use lib.ListN.{length}
use lib.Dec.{ltb, eqb}
use borrow.Author.Tests.{eqb-true}
use Rattle.base.specs.Pick.{pick}
use Rattle.base.specs.Part.{part}
use Rattle.base.proofs.Says.{apart}
use Rattle.record.specs.Record.{Records, item, records}
use Rattle.record.specs.Kind.{integer_kind, scalar_kind, kind_of}
use Rattle.record.specs.Name.{same_name}
use Rattle.record.specs.Reserved.{among}
use Rattle.record.specs.declared.kind.Kind.{Kind}
use Rattle.record.proofs.Records.{records_end}
use Rattle.table.specs.Table.{Reading, is_known, is_class, is_property, name_twice, properties, class, table_reading, IsGood, FreeOfFaults, malformed_at}
use Rattle.table.specs.Properties.{class_name, kinds_in, property_records, find_in}
use Rattle.table.specs.declared.lookup.Property.{Property}
use Rattle.table.specs.Properties as properties-found
use Rattle.invariance.specs.Wider.{IntegerKinds, scalars, arrays, Widens, Paired, ends, both, SameName}
use Rattle.invariance.proofs.Paired.{Stand, at_end_law, at_record, stand, same_length}

-- ---- kinds
pub known_both : {k l : Kind} → IntegerKinds k l → (is_known k ≡ true) × (is_known l ≡ true)
known_both (scalars h) = (refl, refl)
known_both (arrays h) = (refl, refl)

known_same : (k l : ℕ) → Widens k l → is_known (kind_of l) ≡ is_known (kind_of k)
known_same k l (inl e) = ap (λ (x : ℕ). is_known (kind_of x)) (sym e)
known_same k l (inr h) = rw ((known_both h).0, (known_both h).1) refl

-- the class's kind says no type, so it stays
class_kind : (k l : ℕ) → eqb k 0x0200 ≡ true → Widens k l → l ≡ k
unfolding kind_of scalar_kind integer_kind
class_kind k l e (inl h) = sym h
class_kind k l e (inr h) = absurd (apart (rw (eqb-true k 0x0200 e) at (known_both h).0))

-- ---- free of 2 and 3
module _ (t u : List ℕ) where
  good_by : (b c : Bool) (p o m n : ℕ) (x y : Reading) → (IsGood x → IsGood y)
      → IsGood (pick b (pick c (Err (name_twice p)) x) (malformed_at m)) → IsGood (pick b (pick c (Err (name_twice o)) y) (malformed_at n))
  good_by true true p o m n x y h g = g
  good_by true false p o m n x y h g = h g
  good_by false c p o m n x y h g = g

  properties_good : (names : List (List ℕ)) {rs qs : Records} → Paired t u SameName rs qs → IsGood (properties t names rs) → IsGood (properties u names qs)
  unfolding properties
  properties_good names ends g = g
  properties_good names (both {p} {k} {a} {n} {o} {l} w r) g =
      rw (sym w.1, known_same k l w.0)
      (good_by (ltb (length names) 128 && is_property k (part t a n)) (among (part t a n) names) p o p o _ _ (properties_good (names ++ (part t a n ∷ [])) r) g)

  class_by : (b : Bool) (p o : ℕ) (x y : Reading) → (IsGood x → IsGood y) → IsGood (pick b x (malformed_at p)) → IsGood (pick b y (malformed_at o))
  class_by true p o x y h g = h g
  class_by false p o x y h g = g

  class_good : {rs qs : Records} → Paired t u SameName rs qs → IsGood (class t rs) → IsGood (class u qs)
  class_good ends g = absurd g
  class_good (both {p} {k} {a} {n} {o} {l} {b} {m} {rs} {qs} w r) g = go (eqb k 0x0200) refl
    where
      go : (c : Bool) → eqb k 0x0200 ≡ c → IsGood (class u (item o l b m qs))
      go true e =
          rw (class_kind k l e w.0, sym w.1)
          (class_by (is_class k (part t a n)) p o (properties t [] rs) (properties u [] qs) (properties_good [] r) g)
      go false e = absurd (rw e at g)

  module _ (w : Paired t u SameName (records t 0) (records u 0)) (free : FreeOfFaults t) where
    has_class : IsGood (class t (records t 0))
    unfolding table_reading
    has_class = go (ltb 8192 (length t)) free
      where
        go : (b : Bool) → IsGood (pick b (malformed_at 0) (class t (records t 0))) → IsGood (class t (records t 0))
        go true h = absurd h
        go false h = h

    pub wider_free : FreeOfFaults u
    unfolding table_reading
    wider_free = go (ltb 8192 (length t)) refl
      where
        go : (b : Bool) → ltb 8192 (length t) ≡ b → IsGood (pick (ltb 8192 (length u)) (malformed_at 0) (class u (records u 0)))
        go true e = absurd (rw e at free)
        go false e = rw (same_length t u w, e) (class_good w has_class)

    -- ---- the class name and the records behind it
    pub behind : (class_name u ≡ class_name t) × Paired t u SameName (property_records t) (property_records u)
    behind = go (stand t u SameName 0 0 w)
      where
        go : Stand t u SameName 0 0 → (class_name u ≡ class_name t) × Paired t u SameName (property_records t) (property_records u)
        go (at_end_law e f) = absurd (rw (records_end t 0 e) at has_class)
        go (at_record e f z r) = rw (e, f) (sym z.1, r)

-- ---- the property of a name
pub data FoundWider : Option Property → Option Property → Type 0 where
  not_found : FoundWider None None
  found : {n k l : ℕ} → Widens k l → FoundWider (properties-found.found n k) (properties-found.found n l)

found_by : (b : Bool) (number k l : ℕ) (x y : Option Property) → Widens k l → FoundWider x y → FoundWider (pick b (properties-found.found number k) x) (pick b (properties-found.found number l) y)
found_by true number k l x y h g = found h
found_by false number k l x y h g = g

-- ---- the lists of kinds
pub data WiderKinds : List ℕ → List ℕ → Type 0 where
  none : WiderKinds [] []
  more : {k l : ℕ} {ks ls : List ℕ} → Widens k l → WiderKinds ks ls → WiderKinds (k ∷ ks) (l ∷ ls)

module _ (t u : List ℕ) where
  pub find_wider : (name : List ℕ) (number : ℕ) {rs qs : Records} → Paired t u SameName rs qs → FoundWider (find_in t name number rs) (find_in u name number qs)
  unfolding find_in
  find_wider name number ends = not_found
  find_wider name number (both {k = k} {a} {n} {l = l} w r) =
      rw (sym w.1) (found_by (same_name (part t a n) name) number k l _ _ w.0 (find_wider name (number + 1) r))

  pub kinds_wider : {rs qs : Records} → Paired t u SameName rs qs → WiderKinds (kinds_in rs) (kinds_in qs)
  unfolding kinds_in
  kinds_wider ends = none
  kinds_wider (both w r) = more w.0 (kinds_wider r)
