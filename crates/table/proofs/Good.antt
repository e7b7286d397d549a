-- A table free of 2 and 3: at most 8,192 bytes and 128 properties, each of a known kind and a name of its own.
use Rattle.std.specs.Prelude.{Ok, Err}
use Prim.Native.Nat.{ℕ, zero, suc, ◌+◌, ◌≤◌, ◌<◌}
use mathlib.Core.List.{List, [], ◌∷◌, ◌++◌}
use mathlib.Core.Bool.{Bool, true, false, ◌&&◌, ◌||◌}
use mathlib.Core.Path.{◌≡◌, refl, sym, ap, ◌∙◌}
use native.Mathlib.Omega.{arith}
use lib.ListN.{length, get_or, length-append}
use lib.Dec.{ltb}
use borrow.Author.Tests.{ltb-true, ltb-false}
use Rattle.base.specs.Pick.{pick}
use Rattle.base.specs.Part.{part}
use Rattle.base.proofs.Says.{apart, and_both}
use Rattle.record.specs.Record.{record_at, Records, item, broken, ended, records, Fit}
use Rattle.record.specs.Name.{valid_name, same_name}
use Rattle.record.specs.Reserved.{among}
use Rattle.record.specs.Kind.{kind_of}
use Rattle.record.specs.declared.read.RecordAt.{RecordAt}
use Rattle.record.specs.declared.read.RecordAt.TheVariants.{Whole, Broken, End}
use Rattle.record.proofs.Records.{records_whole, records_broken, records_end}
use Rattle.record.proofs.Names.{same_self, same_turned, same_through}
use Rattle.table.specs.declared.validate.TableRefusal.{TableRefusal}
use Rattle.table.specs.Table.{Reading, is_known, is_class, is_property, properties, class, table_reading, IsGood, FreeOfFaults}
use Rattle.table.specs.Properties.{after_first, property_records, kinds_in, kinds_of, names_in, names_of}

-- every kind says something
unfoldable pub Known : List ℕ → Type 0
Known [] = Unit
Known (k ∷ ks) = (is_known (kind_of k) ≡ true) × Known ks

-- every name is a name, and no two are the same
unfoldable pub Distinct : List (List ℕ) → Type 0
Distinct [] = Unit
Distinct (x ∷ xs) = (valid_name x ≡ true) × ((among x xs ≡ false) × Distinct xs)

pub record GoodTable (t : List ℕ) (m : ℕ) : Type 0 where
  pub short : length t ≤ 8192
  pub few : m ≤ 128
  pub kinds : length (kinds_of t) ≡ m
  pub known : Known (kinds_of t)
  pub names : length (names_of t) ≡ m
  pub distinct : Distinct (names_of t)
  pub fit : Fit (property_records t)

no_good : {x : TableRefusal} {m : ℕ} → ◌≡◌ {A = Reading} (Err x) (Ok m) → ⊥
no_good e = let z : ◌≡◌ {A = ℕ} 0 1 = cc in omega arith

kept : {m : ℕ} (b : Bool) (x : Reading) (y : TableRefusal) → pick b x (Err y) ≡ Ok m → (b ≡ true) × (x ≡ Ok m)
kept true x y e = (refl, e)
kept false x y e = absurd (no_good e)

passed : {m : ℕ} (b : Bool) (x : Reading) (y : TableRefusal) → pick b (Err y) x ≡ Ok m → (b ≡ false) × (x ≡ Ok m)
passed true x y e = absurd (no_good e)
passed false x y e = (refl, e)

-- a name among others
or_left : (a b : Bool) → a ≡ true → (a || b) ≡ true
or_left true b h = refl
or_left false b h = absurd (apart h)

or_right : (a b : Bool) → b ≡ true → (a || b) ≡ true
or_right true b h = refl
or_right false b h = h

or_either : (a b c : Bool) → (b ≡ true → c ≡ true) → (a || b) ≡ true → (a || c) ≡ true
or_either true b c f h = refl
or_either false b c f h = f h

among_more : (x : List ℕ) (names more : List (List ℕ)) → among x names ≡ true → among x (names ++ more) ≡ true
unfolding among
among_more x [] more h = absurd (apart h)
among_more x (y ∷ names) more h = or_either (same_name x y) _ _ (among_more x names more) h

among_last : (x : List ℕ) (names : List (List ℕ)) → among x (names ++ (x ∷ [])) ≡ true
unfolding among
among_last x [] = or_left (same_name x x) false (same_self x)
among_last x (y ∷ names) = or_right (same_name x y) _ (among_last x names)

-- where a name is among others, so is any that is the same
same_among : (x y z : List ℕ) (a b : Bool) → same_name x y ≡ true → (a ≡ true → b ≡ true) → (t : Bool) → same_name x z ≡ t
    → (t || a) ≡ true → (same_name y z || b) ≡ true
same_among x y z a b e f true g h = or_left (same_name y z) b (same_through y x z (same_turned x y e) g)
same_among x y z a b e f false g h = or_right (same_name y z) b (f h)

among_same : (x y : List ℕ) (names : List (List ℕ)) → same_name x y ≡ true → among x names ≡ true → among y names ≡ true
unfolding among
among_same x y [] e h = absurd (apart h)
among_same x y (z ∷ names) e h = same_among x y z (among x names) (among y names) e (among_same x y names e) (same_name x z) refl h

-- the names of properties are not among those before them
fresh_one : (x y : List ℕ) (names : List (List ℕ)) (rest : Bool) → among x names ≡ true → among y names ≡ false → rest ≡ false
    → (t : Bool) → same_name x y ≡ t → (t || rest) ≡ false
fresh_one x y names rest h g r true e = absurd (apart (sym g ∙ among_same x y names e h))
fresh_one x y names rest h g r false e = r

fresh : (t : List ℕ) (names : List (List ℕ)) (rs : Records) (m : ℕ) → properties t names rs ≡ Ok m
    → (x : List ℕ) → among x names ≡ true → among x (names_in t rs) ≡ false
unfolding properties among names_in
fresh t names (item place kind start len rest) m e x h =
    let a = kept (ltb (length names) 128 && is_property kind (part t start len)) _ _ e in
    let d = passed (among (part t start len) names) _ _ a.1 in
    fresh_one x (part t start len) names (among x (names_in t rest)) h d.0
    (fresh t (names ++ (part t start len ∷ [])) rest m d.1 x (among_more x names _ h)) (same_name x (part t start len)) refl
fresh t names (broken place) m e x h = refl
fresh t names ended m e x h = refl

record GoodFrom (t : List ℕ) (rs : Records) (n m : ℕ) : Type 0 where
  few : m ≤ 128
  kinds : n + length (kinds_in rs) ≡ m
  known : Known (kinds_in rs)
  names : n + length (names_in t rs) ≡ m
  distinct : Distinct (names_in t rs)
  fit : Fit rs

good_from : (t : List ℕ) (names : List (List ℕ)) (rs : Records) (m : ℕ) → length names ≤ 128 → properties t names rs ≡ Ok m → GoodFrom t rs (length names) m
unfolding properties kinds_in names_in Known Distinct Fit
good_from t names (item place kind start len rest) m h e =
    let name = part t start len in
    let a = kept (ltb (length names) 128 && is_property kind name) _ _ e in
    let b = and_both (ltb (length names) 128) (is_property kind name) a.0 in
    let c = and_both (is_known (kind_of kind)) (valid_name name) b.1 in
    let l = ltb-true (length names) 128 b.0 in
    let d = passed (among name names) _ _ a.1 in
    let s = length-append names (name ∷ []) in
    let r = good_from t (names ++ (name ∷ [])) rest m (omega arith) d.1 in
    record {
      few = r.few;
      kinds = omega (arith, r.kinds);
      known = (c.0, r.known);
      names = omega (arith, r.names);
      distinct = (c.1, (fresh t (names ++ (name ∷ [])) rest m d.1 name (among_last name names), r.distinct));
      fit = r.fit;
    }
good_from t names (broken place) m h e = absurd (no_good e)
good_from t names ended m h e =
    let q : length names ≡ m = cc in
    record { few = omega arith; kinds = omega arith; known = tt; names = omega arith; distinct = tt; fit = tt }

good_class : (t : List ℕ) (m : ℕ) (r : RecordAt) → record_at t 0 ≡ r → class t (records t 0) ≡ Ok m → GoodFrom t (records t (after_first t r)) 0 m
good_class t m (Whole kind start len next) f e =
    let a = kept (is_class kind (part t start len)) (properties t [] (records t next)) _ (rw (records_whole t 0 kind start len next f) at e) in
    good_from t [] (records t next) m (omega arith) a.1
good_class t m Broken f e = absurd (no_good (rw (records_broken t 0 f) at e))
good_class t m End f e = absurd (no_good (rw (records_end t 0 f) at e))

pub good_table : (t : List ℕ) (m : ℕ) → table_reading t ≡ Ok m → GoodTable t m
unfolding table_reading
good_table t m e =
    let a = passed (ltb 8192 (length t)) (class t (records t 0)) _ e in
    let l = ltb-false 8192 (length t) a.0 in
    let g = good_class t m (record_at t 0) refl a.1 in
    record {
      short = l;
      few = g.few;
      kinds = omega (arith, g.kinds);
      known = g.known;
      names = omega (arith, g.names);
      distinct = g.distinct;
      fit = g.fit;
    }

-- two properties of one name are one property
apart_names : (x : List ℕ) (xs : List (List ℕ)) → among x xs ≡ false → (j : ℕ) → j < length xs → same_name x (get_or xs j []) ≡ true → ⊥
unfolding among
apart_names x [] h j l e = omega arith
apart_names x (y ∷ xs) h zero l e = apart (sym h ∙ or_left (same_name x y) _ e)
apart_names x (y ∷ xs) h (suc j) l e = apart_names x xs (rest (same_name x y) h) j (omega arith) e
  where
    rest : (b : Bool) → (b || among x xs) ≡ false → among x xs ≡ false
    rest true g = absurd (apart (sym g))
    rest false g = g

pub only_one : (xs : List (List ℕ)) → Distinct xs → (i j : ℕ) → i < length xs → j < length xs → same_name (get_or xs i []) (get_or xs j []) ≡ true → i ≡ j
unfolding Distinct
only_one [] d i j h g e = absurd (omega arith)
only_one (x ∷ xs) d zero zero h g e = refl
only_one (x ∷ xs) d zero (suc j) h g e = absurd (apart_names x xs d.1.0 j (omega arith) e)
only_one (x ∷ xs) d (suc i) zero h g e = absurd (apart_names x xs d.1.0 i (omega arith) (same_turned (get_or xs i []) x e))
only_one (x ∷ xs) d (suc i) (suc j) h g e = ap suc (only_one xs d.1.1 i j (omega arith) (omega arith) e)

-- a table free of 2 and 3 has a count
pub record Counted (t : List ℕ) : Type 0 where
  pub count : ℕ
  pub is : table_reading t ≡ Ok count

pub counted : (t : List ℕ) → FreeOfFaults t → Counted t
counted t = go (table_reading t) refl
  where
    go : (r : Reading) → table_reading t ≡ r → IsGood r → Counted t
    go (Ok n) e h = record { count = n; is = e }
    go (Err x) e h = absurd h
