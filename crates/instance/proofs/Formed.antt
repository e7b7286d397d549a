-- In an instance that conforms every value has the form of its property's kind.
use Prim.Native.Nat.{ℕ, suc, ◌≤◌, ◌<◌}
use mathlib.Core.List.{List, [], ◌∷◌}
use mathlib.Core.Bool.{Bool, true, false}
use mathlib.Core.Option.{Option, none, some}
use mathlib.Core.Path.{◌≡◌, refl, ap}
use mathlib.Core.Logic.{◌⊎◌, inl, inr}
use native.Mathlib.Omega.{arith}
use lib.ListN.{length, get_or, get_elem?}
use lib.Dec.{ltb, eqb}
use lib.IntN.{ℤ}
use lib.Ieee.{Float}
use borrow.Author.Tests.{ltb-true, ltb-false, eqb-false}
use Rattle.base.specs.Pick.{pick}
use Rattle.base.specs.Part.{part}
use Rattle.record.specs.Record.{number_at, Records, item, broken, ended, records}
use Rattle.record.specs.Kind.{kind_of}
use Rattle.record.specs.declared.kind.Family as family
use Rattle.record.specs.declared.kind.Family.TheVariants.{Boolean, Integer, Real, Text, Char16, Octets, Datetime, Reference}
use Rattle.record.specs.declared.kind.ValueType.{ValueType}
use Rattle.record.specs.declared.kind.Kind.{Kind}
use Rattle.record.specs.declared.kind.Kind.TheVariants.{Unknown, Scalar, Array}
use Rattle.base.proofs.ByteLists.{Bytes, bytes_part}
use Rattle.record.proofs.Small.{number_below}
use Rattle.record.proofs.Types.{Said, SizedBy, Sized, sized}
use Rattle.encoding.proofs.Characters.{Scalars, characters_scalar}
use Rattle.datetime.specs.declared.Datetime as calendar
use Rattle.datetime.specs.declared.Datetime.TheVariants.{Malformed}
use Rattle.table.specs.Properties.{kinds_of}
use Rattle.instance.specs.Body.{HasFamily, HasType}
use Rattle.instance.specs.Conforms.{Slot, count, Elements, HasKind, Conforms}
use Rattle.instance.specs.Start.{start_of}
use Rattle.instance.specs.Value.{ScalarValue, truth, whole, real, text, octets, datetime, reference, Value, null, single, array, Entry, absent, property, family_value, scalar_in, element_in, elements, body_value, value_at, entry_at, environment_under, environment}
use Rattle.instance.specs.Integers.{InRange}
use Rattle.instance.proofs.Integers.{reads_whole}
use Rattle.instance.proofs.Environment.{record_of, some_at, none_at}

-- a value has the form of a family
pub data Formed (w : ℕ) (signed : Bool) : family.Family → ScalarValue → Type 0 where
  of_boolean : {b : Bool} → Formed w signed Boolean (truth b)
  of_integer : {n : ℤ} → InRange signed w n → Formed w signed Integer (whole n)
  of_real : {x : Float} → Formed w signed Real (real x)
  of_text : {cs : List ℕ} → Scalars cs → Formed w signed Text (text cs)
  of_char16 : {c : ℕ} → c < 65536 → (c < 0xd800) ⊎ (0xdfff < c) → Formed w signed Char16 (text (c ∷ []))
  of_octets : {s : List ℕ} → Formed w signed Octets (octets s)
  of_datetime : {d : calendar.Datetime} → (d ≡ Malformed → ⊥) → Formed w signed Datetime (datetime d)
  of_reference : {s : List ℕ} → Formed w signed Reference (reference s)

abbrev pub FormedAs : ValueType → ScalarValue → Type 0
FormedAs t x = Formed t.width t.signed t.family x

unfoldable pub EachFormed : ValueType → List (Option ScalarValue) → Type 0
EachFormed t [] = Unit
EachFormed t (none ∷ xs) = EachFormed t xs
EachFormed t (some x ∷ xs) = FormedAs t x × EachFormed t xs

-- a value has the form of a kind: NULL, a scalar of its type, or an array of 0 to 256 NULLs and scalars of its type
abbrev pub Valued : Kind → Value → Type 0
Valued k null = Unit
Valued Unknown (single x) = ⊥
Valued Unknown (array xs) = ⊥
Valued (Scalar t) (single x) = FormedAs t x
Valued (Scalar t) (array xs) = ⊥
Valued (Array e t) (single x) = ⊥
Valued (Array e t) (array xs) = (length xs ≤ 256) × EachFormed t xs

abbrev pub Entered : Entry → Type 0
Entered absent = Unit
Entered (property k v) = Valued (kind_of k) v

formed : (f : family.Family) (w : ℕ) (g : Bool) (s : List ℕ) → SizedBy f w → Bytes s → HasFamily f w s → Formed w g f (family_value f w g s)
unfolding family_value
formed Boolean w g s z b h = of_boolean
formed Integer w g s z b h = of_integer (reads_whole (record { family = Integer; width = w; signed = g }) s z refl h b).range
formed Real w g s z b h = of_real
formed Text w g s z b h = of_text (characters_scalar s 0)
formed Char16 w g s z b h = of_char16 {c = number_at s 0} (number_below s 0 b) h.1
formed Octets w g s z b h = of_octets
formed Datetime w g s z b h = of_datetime h
formed Reference w g s z b h = of_reference

each_more : (e kind : ℕ) (t : ValueType) (s : List ℕ) (xs : List (Option ScalarValue)) → Sized t → Bytes s → Slot e kind s (HasType t s)
    → EachFormed t xs → EachFormed t (element_in t kind s ∷ xs)
unfolding EachFormed
each_more e kind t s xs z b h m = go (eqb kind 0) refl h
  where
    go : (c : Bool) → eqb kind 0 ≡ c → Slot e kind s (HasType t s) → EachFormed t (pick c none (some (scalar_in t s)) ∷ xs)
    go true f k = m
    go false f (inl k) = absurd (eqb-false kind 0 f k.0)
    go false f (inr k) = (formed t.family t.width t.signed s z b k.1, m)

each : (e : ℕ) (t : ValueType) (s : List ℕ) (rs : Records) → Sized t → Bytes s → Elements s e t rs → EachFormed t (elements t s rs)
unfolding Elements elements EachFormed
each e t s (item place kind start len rest) z b h =
    each_more e kind t (part s start len) (elements t s rest) z (bytes_part s b start len) h.0 (each e t s rest z b h.1)
each e t s (broken place) z b h = absurd h
each e t s ended z b h = tt

pub length_elements : (t : ValueType) (s : List ℕ) (rs : Records) → length (elements t s rs) ≡ count rs
unfolding elements count
length_elements t s (item place kind start len rest) = ap suc (length_elements t s rest)
length_elements t s (broken place) = refl
length_elements t s ended = refl

valued : (k : Kind) (s : List ℕ) → Said Sized k → Bytes s → HasKind k s → Valued k (body_value k s)
valued Unknown s z b h = tt
valued (Scalar t) s z b h = formed t.family t.width t.signed s z b h
valued (Array e t) s z b h = (omega (arith, length_elements t s (records s 0), h.0), each e t s (records s 0) z b h.1)

slot_valued : (k kind : ℕ) (s : List ℕ) → Bytes s → Slot k kind s (HasKind (kind_of k) s) → Valued (kind_of k) (pick (eqb kind 0) null (body_value (kind_of k) s))
slot_valued k kind s b h = go (eqb kind 0) refl h
  where
    go : (c : Bool) → eqb kind 0 ≡ c → Slot k kind s (HasKind (kind_of k) s) → Valued (kind_of k) (pick c null (body_value (kind_of k) s))
    go true f m = tt
    go false f (inl m) = absurd (eqb-false kind 0 f m.0)
    go false f (inr m) = valued (kind_of k) s (sized k) b m.1

-- each property's value has its kind's form
pub value_formed : (t i : List ℕ) → Conforms t i → Bytes i → (n : ℕ) → n < length (kinds_of t)
    → Valued (kind_of (get_or (kinds_of t) n 0)) (value_at (get_or (kinds_of t) n 0) i (start_of i n))
unfolding value_at
value_formed t i c b n h =
    let r = record_of t i c n h in
    rw r.is (slot_valued (get_or (kinds_of t) n 0) r.kind (part i r.start r.len) (bytes_part i b r.start r.len) r.keeps)

pub environment_formed : (t i : List ℕ) → Conforms t i → Bytes i → (n : ℕ) → Entered (environment t i n)
unfolding environment_under
environment_formed t i c b n = go (ltb n (length (kinds_of t))) refl
  where
    go : (x : Bool) → ltb n (length (kinds_of t)) ≡ x → Entered (entry_at (get_elem? (kinds_of t) n) i (start_of i n))
    go true e = let h = ltb-true n (length (kinds_of t)) e in rw (some_at (kinds_of t) n h) (value_formed t i c b n h)
    go false e = rw (none_at (kinds_of t) n (ltb-false n (length (kinds_of t)) e)) tt
