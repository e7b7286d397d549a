-- Demand 3 for one comparison: its steps are at most one and what it reads; what it reads of an instance is at most the instance's length.
use Rattle.std.specs.Prelude.{Option as Optional, None, Some}
use Prim.Native.Nat.{ℕ, zero, suc, ◌+◌, ◌-◌, ◌≤◌, ◌<◌}
use mathlib.Core.List.{List, [], ◌∷◌}
use mathlib.Core.Bool.{Bool, true, false}
use mathlib.Core.Path.{◌≡◌, refl}
use mathlib.Core.Option.{Option, none, some}
use native.Mathlib.Omega.{arith}
use lib.ListN.{length, length-take, length-drop}
use lib.Dec.{eqb}
use Rattle.base.specs.Pick.{pick}
use Rattle.base.specs.Part.{part}
use Rattle.record.specs.Record.{number_at, record_at, records}
use Rattle.record.specs.declared.read.RecordAt.{RecordAt}
use Rattle.record.specs.declared.read.RecordAt.TheVariants.{Whole, Broken, End}
use Rattle.record.specs.declared.kind.Family.{Family}
use Rattle.record.specs.declared.kind.Family.TheVariants as family
use Rattle.record.specs.declared.kind.ValueType.{ValueType}
use Rattle.record.proofs.Records.{View, ends, breaks, stands, view, whole_in_law, records_whole, records_broken, records_end}
use Rattle.encoding.proofs.Characters.{characters_fewer}
use Rattle.instance.specs.Conforms.{count}
use Rattle.instance.specs.Value.{ScalarValue, family_value, scalar_in}
use Rattle.instance.proofs.Formed.{length_elements}
use Rattle.value.specs.Compare.{compares}
use Rattle.value.specs.Read.{value_in, value_in_record}
use Rattle.base.specs.declared.order.Operator.TheVariants.{Equal}
use Rattle.place.specs.Place.{Array, source_bytes, spot_value, elements_of, body_value}
use Rattle.place.specs.declared.Source.{Source}
use Rattle.place.specs.declared.Source.TheVariants as source
use Rattle.place.specs.declared.Spot.{Spot}
use Rattle.place.specs.declared.Part.{Part}
use Rattle.search.specs.Search.{besides, decides, elements_seen, search_steps}
use Rattle.arrays.specs.Arrays.{pairs_seen, array_steps}
use Rattle.like.specs.Like.{as_text, size}
use Rattle.predicate.specs.Test.{Test, values, arrays, search, like, steps, reads}

-- steps
pairs_few : (xs ys : List (Option ScalarValue)) → pairs_seen xs ys ≤ length xs
unfolding pairs_seen
pairs_few [] ys = omega arith
pairs_few (x ∷ xs) [] = omega arith
pairs_few (x ∷ xs) (y ∷ ys) = go (compares Equal x y) (pairs_few xs ys)
  where
    go : (b : Bool) → pairs_seen xs ys ≤ length xs → suc (pick b (pairs_seen xs ys) 0) ≤ suc (length xs)
    go true h = omega arith
    go false h = omega arith

arrays_few : (xs ys : Array) → array_steps xs ys ≤ size xs
unfolding array_steps size
arrays_few none ys = omega arith
arrays_few (some xs) none = omega arith
arrays_few (some xs) (some ys) = go (eqb (length xs) (length ys))
  where
    go : (b : Bool) → pick b (pairs_seen xs ys) 0 ≤ length xs
    go true = pairs_few xs ys
    go false = omega arith

seen_few : (any : Bool) (p : Option ScalarValue → Bool) (xs : List (Option ScalarValue)) → elements_seen any p xs ≤ length xs
unfolding elements_seen
seen_few any p [] = omega arith
seen_few any p (x ∷ xs) = go (decides any (p x)) (seen_few any p xs)
  where
    go : (b : Bool) → elements_seen any p xs ≤ length xs → suc (pick b 0 (elements_seen any p xs)) ≤ suc (length xs)
    go true h = omega arith
    go false h = omega arith

search_few : (any : Bool) (p : Option ScalarValue → Bool) (xs : Array) → search_steps any p xs ≤ size xs
unfolding search_steps size
search_few any p none = omega arith
search_few any p (some xs) = seen_few any p xs

pub steps_bounded : (x : Test) → steps x ≤ 1 + reads x
unfolding steps reads
steps_bounded (values op x y) = omega arith
steps_bounded (arrays op xs ys) = omega (arith, arrays_few xs ys)
steps_bounded (search negated any op xs y) = omega (arith, search_few any (besides op y) xs)
steps_bounded (like negated w r) = omega arith

-- records are no more than bytes
count_few : (s : List ℕ) (f at : ℕ) → length s - at < f → count (records s at) ≤ length s - at
unfolding count
count_few s zero at h = absurd (omega arith)
count_few s (suc f) at h = go (view s at) (count_few s f)
  where
    go : View s at → ((n : ℕ) → length s - n < f → count (records s n) ≤ length s - n) → count (records s at) ≤ length s - at
    go (ends l e) k = rw (records_end s at e) (omega arith)
    go (breaks l g e) k = rw (records_broken s at e) (omega arith)
    go (stands l e) k = rw (records_whole s at _ _ _ _ e) (omega (arith, k (at + 4 + number_at s at) (omega arith)))

pub elements_few : (t : ValueType) (s : List ℕ) → length (elements_of t s) ≤ length s
elements_few t s = omega (arith, length_elements t s (records s 0), count_few s (suc (length s)) 0 (omega arith))

part_few : (s : List ℕ) (start len : ℕ) → length (part s start len) ≤ length s
part_few s start len = simp (length-take, length-drop) (omega arith)

-- an array's elements, of any body and so of the one in a record
pub body_few : (t : ValueType) (i : List ℕ) (x : Optional Part) → size (body_value t i x) ≤ length i
unfolding body_value size
body_few t i None = omega arith
body_few t i (Some p) = omega (arith, elements_few t (part i p.start p.length), part_few i p.start p.length)

-- a text's characters
family_few : (f : Family) (w : ℕ) (g : Bool) (s : List ℕ) → size (as_text (some (family_value f w g s))) ≤ 1 + length s
unfolding family_value as_text size
family_few family.Boolean w g s = omega arith
family_few family.Integer w g s = omega arith
family_few family.Real w g s = omega arith
family_few family.Text w g s = omega (arith, characters_fewer s 0)
family_few family.Char16 w g s = omega arith
family_few family.Octets w g s = omega arith
family_few family.Datetime w g s = omega arith
family_few family.Reference w g s = omega arith

pub text_few : (t : ValueType) (i : List ℕ) (place : ℕ) → size (as_text (value_in_record t i place)) ≤ length i
unfolding value_in_record as_text size
text_few t i place = go (record_at i place) refl
  where
    by : (b : Bool) (s : List ℕ) → size (as_text (some (scalar_in t s))) ≤ length i → size (as_text (pick b none (some (scalar_in t s)))) ≤ length i
    by true s h = omega arith
    by false s h = h

    go : (r : RecordAt) → record_at i place ≡ r → size (as_text (value_in t i r)) ≤ length i
    go (Whole kind start len next) e =
        let w = whole_in_law i place kind start len next e in
        let l : length (part i start len) ≤ len = simp length-take (omega arith) in
        by (eqb kind 0) (part i start len) (omega (arith, family_few t.family t.width t.signed (part i start len)))
    go Broken e = omega arith
    go End e = omega arith

-- the spots of an instance
abbrev pub InInstance : Source → Type 0
InInstance source.Query = ⊥
InInstance source.Instance = Unit
InInstance (source.Part p) = Unit

pub spot_few : (t : ValueType) (q i : List ℕ) (s : Spot) → InInstance s.source → size (as_text (spot_value t q i s)) ≤ length i
spot_few t q i s h = go s.source h
  where
    go : (o : Source) → InInstance o → size (as_text (value_in_record t (source_bytes q i o) s.place)) ≤ length i
    go source.Query h = absurd h
    go source.Instance h = text_few t i s.place
    go (source.Part p) h = omega (arith, text_few t (part i p.start p.length) s.place, part_few i p.start p.length)
