-- What looking up a name finds: a property of that name, with its kind; and where it finds nothing there is none.
use Rattle.std.specs.Prelude.{Option, Some, None, Ok}
use Prim.Native.Nat.{ℕ, zero, suc, ◌+◌, ◌<◌}
use mathlib.Core.List.{List, [], ◌∷◌}
use mathlib.Core.Bool.{Bool, true, false}
use mathlib.Core.Option.{some}
use mathlib.Core.Path.{◌≡◌, refl, ap}
use native.Mathlib.Omega.{arith}
use lib.ListN.{length, get_or, get_elem?}
use Rattle.base.specs.Pick.{pick}
use Rattle.base.specs.Part.{part}
use Rattle.record.specs.Record.{Records, item, broken, ended}
use Rattle.record.specs.Name.{same_name}
use Rattle.record.specs.Kind.{kind_of}
use Rattle.record.proofs.Names.{same_turned, same_through}
use Rattle.table.specs.declared.lookup.Property.{Property}
use Rattle.table.specs.Table.{is_known, table_reading}
use Rattle.table.specs.Properties.{property_records, kinds_in, kinds_of, names_in, names_of, found, find_in, find_property}
use Rattle.table.proofs.Good.{Known, good_table, only_one}

-- the property of number n has kind k and the name
pub record FoundAt (t name : List ℕ) (n k : ℕ) : Type 0 where
  pub within : n < length (kinds_of t)
  pub kind : get_elem? (kinds_of t) n ≡ some k
  pub same : same_name (get_or (names_of t) n []) name ≡ true

record FoundFrom (t name : List ℕ) (rs : Records) (number n k : ℕ) : Type 0 where
  steps : ℕ
  is : n ≡ number + steps
  within : steps < length (kinds_in rs)
  kind : get_elem? (kinds_in rs) steps ≡ some k
  same : same_name (get_or (names_in t rs) steps []) name ≡ true

later_one : (t name : List ℕ) (place kind start len : ℕ) (rest : Records) (number n k : ℕ) → FoundFrom t name rest (number + 1) n k
    → FoundFrom t name (item place kind start len rest) number n k
unfolding kinds_in names_in
later_one t name place kind start len rest number n k r =
    record { steps = suc r.steps; is = omega (arith, r.is); within = omega (arith, r.within); kind = r.kind; same = r.same }

given : {x y : Property} → ◌≡◌ {A = Option Property} (Some x) (Some y) → x ≡ y
given e = cc

this_one : (t name : List ℕ) (place kind start len : ℕ) (rest : Records) (number n k : ℕ) → same_name (part t start len) name ≡ true
    → found number kind ≡ found n k → FoundFrom t name (item place kind start len rest) number n k
unfolding kinds_in names_in
this_one t name place kind start len rest number n k h e =
    let p = given e in
    let a : number ≡ n = ap (λ (x : Property). x.number) p in
    let b : kind ≡ k = ap (λ (x : Property). x.kind) p in
    record { steps = zero; is = omega arith; within = omega arith; kind = ap some b; same = h }

absent_apart : {n k : ℕ} → None ≡ found n k → ⊥
absent_apart e = let z : ◌≡◌ {A = ℕ} 0 1 = cc in omega arith

chosen : (t name : List ℕ) (place kind start len : ℕ) (rest : Records) (number n k : ℕ) → (find_in t name (number + 1) rest ≡ found n k → FoundFrom t name rest (number + 1) n k)
    → (b : Bool) → same_name (part t start len) name ≡ b → pick b (found number kind) (find_in t name (number + 1) rest) ≡ found n k
    → FoundFrom t name (item place kind start len rest) number n k
chosen t name place kind start len rest number n k again true h e = this_one t name place kind start len rest number n k h e
chosen t name place kind start len rest number n k again false h e = later_one t name place kind start len rest number n k (again e)

found_from : (t name : List ℕ) (rs : Records) (number n k : ℕ) → find_in t name number rs ≡ found n k → FoundFrom t name rs number n k
unfolding find_in
found_from t name (item place kind start len rest) number n k e =
    chosen t name place kind start len rest number n k (found_from t name rest (number + 1) n k) (same_name (part t start len) name) refl e
found_from t name (broken place) number n k e = absurd (absent_apart e)
found_from t name ended number n k e = absurd (absent_apart e)

pub found_at : (t name : List ℕ) (n k : ℕ) → find_property t name ≡ found n k → FoundAt t name n k
unfolding find_property
found_at t name n k e =
    let r = found_from t name (property_records t) 0 n k e in
    let i : n ≡ r.steps = omega (arith, r.is) in
    rw i (record { within = r.within; kind = r.kind; same = r.same })

known_at : (ks : List ℕ) → Known ks → (n k : ℕ) → get_elem? ks n ≡ some k → is_known (kind_of k) ≡ true
unfolding Known
known_at [] h n k e = absurd (let z : ◌≡◌ {A = ℕ} 0 1 = cc in omega arith)
known_at (j ∷ ks) h zero k e = let q : j ≡ k = cc in rw (← q) h.0
known_at (j ∷ ks) h (suc n) k e = known_at ks h.1 n k e

-- in a good table its number is below the count, its kind says something, and no other property has the name
pub found_within : (t name : List ℕ) (m n k : ℕ) → table_reading t ≡ Ok m → find_property t name ≡ found n k → n < m
found_within t name m n k g e = let r = found_at t name n k e in omega (arith, (good_table t m g).kinds, r.within)

pub found_known : (t name : List ℕ) (m n k : ℕ) → table_reading t ≡ Ok m → find_property t name ≡ found n k → is_known (kind_of k) ≡ true
found_known t name m n k g e = known_at (kinds_of t) (good_table t m g).known n k (found_at t name n k e).kind

pub found_only : (t name : List ℕ) (m n k : ℕ) → table_reading t ≡ Ok m → find_property t name ≡ found n k
    → (j : ℕ) → j < m → same_name (get_or (names_of t) j []) name ≡ true → j ≡ n
found_only t name m n k g e j h s =
    let r = found_at t name n k e in
    let d = good_table t m g in
    only_one (names_of t) d.distinct j n (omega (arith, d.names)) (omega (arith, d.names, d.kinds, r.within))
    (same_through (get_or (names_of t) j []) name (get_or (names_of t) n []) s (same_turned (get_or (names_of t) n []) name r.same))

-- where nothing is found no property has the name
not_absent : (t name : List ℕ) (number kind : ℕ) (x : List ℕ) (rest : Option Property) → same_name x name ≡ true → pick (same_name x name) (found number kind) rest ≡ None → ⊥
not_absent t name number kind x rest h e = let f = rw h at e in let z : ◌≡◌ {A = ℕ} 0 1 = cc in omega arith

still_absent : (b : Bool) (number kind : ℕ) (rest : Option Property) → pick b (found number kind) rest ≡ None → rest ≡ None
still_absent true number kind rest e = absurd (let z : ◌≡◌ {A = ℕ} 0 1 = cc in omega arith)
still_absent false number kind rest e = e

absent_from : (t name : List ℕ) (rs : Records) (number : ℕ) → find_in t name number rs ≡ None
    → (j : ℕ) → j < length (names_in t rs) → same_name (get_or (names_in t rs) j []) name ≡ true → ⊥
unfolding find_in names_in
absent_from t name (item place kind start len rest) number e zero h s = not_absent t name number kind (part t start len) _ s e
absent_from t name (item place kind start len rest) number e (suc j) h s =
    absent_from t name rest (number + 1) (still_absent (same_name (part t start len) name) number kind _ e) j (omega arith) s
absent_from t name (broken place) number e j h s = omega arith
absent_from t name ended number e j h s = omega arith

pub absent_name : (t name : List ℕ) → find_property t name ≡ None → (j : ℕ) → j < length (names_of t) → same_name (get_or (names_of t) j []) name ≡ true → ⊥
unfolding find_property
absent_name t name e = absent_from t name (property_records t) 0 e
