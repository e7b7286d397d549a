-- An instance that holds the same whole numbers in wider kinds conforms to the wider table, and each of its properties has the same value.
use Prim.Native.Nat.{ℕ, zero, suc, ◌≤◌, ◌<◌}
use mathlib.Core.Path.{◌≡◌, refl, sym, ap, ap₂, ◌∙◌, subst}
use mathlib.Core.List.{List, ◌∷◌}
use mathlib.Core.Bool.{Bool, true, false}
use mathlib.Core.Option.{Option, some}
use mathlib.Core.Logic.{inl, inr}
use native.Mathlib.Omega.{arith}
use lib.ListN.{length, get_or, drop}
use lib.Seq.{drop-cons}
use lib.Dec.{eqb}
use borrow.Author.Tests.{eqb-true, eq-eqb}
use Rattle.base.specs.Pick.{pick}
use Rattle.base.specs.Part.{part}
use Rattle.base.proofs.Says.{apart}
use Rattle.record.specs.Record.{record_at, Records, item, broken, ended, records}
use Rattle.record.specs.Kind.{scalar_kind, kind_of}
use Rattle.record.specs.declared.read.RecordAt.{RecordAt}
use Rattle.record.specs.declared.read.RecordAt.TheVariants.{Whole, Broken, End}
use Rattle.record.specs.declared.kind.Family as family
use Rattle.record.specs.declared.kind.ValueType.{ValueType}
use Rattle.record.specs.declared.kind.Kind.{Kind}
use Rattle.record.specs.declared.kind.Kind.TheVariants.{Unknown, Scalar}
use Rattle.record.proofs.Records.{records_whole, records_broken, records_end}
use Rattle.record.proofs.Types.{OfElements, of_elements}
use Rattle.table.specs.Table.{is_known}
use Rattle.instance.specs.Body.{HasFamily, HasType}
use Rattle.instance.specs.Conforms.{Slot, count, Elements, HasKind, Lays}
use Rattle.instance.specs.Start.{start_of}
use Rattle.instance.specs.Value.{ScalarValue, whole, single, array, family_value, scalar_in, element_in, elements, body_value, value_at}
use Rattle.instance.specs.Value as value
use Rattle.invariance.specs.Wider.{Integers, IntegerKinds, scalars, arrays, Paired, ends, both, SameNumber, SameElement, SameBody, scalar, SameRecord, null, kept, integers, SameNumbers, further, next}
use Rattle.invariance.specs.Wider as wider
use Rattle.invariance.proofs.WiderTable.{known_both}

-- ---- kind 0 is of no type
not_zero : (says : ℕ → Kind) → says 0 ≡ Unknown → (k : ℕ) → is_known (says k) ≡ true → eqb k 0 ≡ false
not_zero says z k h = go (eqb k 0) refl
  where
    go : (b : Bool) → eqb k 0 ≡ b → b ≡ false
    go true e = absurd (apart (sym (ap is_known (ap says (eqb-true k 0 e) ∙ z)) ∙ h))
    go false e = refl

property_not_zero : (k : ℕ) → is_known (kind_of k) ≡ true → eqb k 0 ≡ false
unfolding kind_of scalar_kind
property_not_zero = not_zero kind_of refl

element_not_zero : (e : ℕ) {t : ValueType} → scalar_kind e ≡ Scalar t → eqb e 0 ≡ false
unfolding scalar_kind
element_not_zero e h = not_zero scalar_kind refl e (ap is_known h)

integer_kinds : {k l : Kind} {x y : List ℕ} → SameBody k l x y → IntegerKinds k l
integer_kinds (scalar h w) = scalars h
integer_kinds (wider.array h w) = arrays h

-- ---- integers
module _ (a b : ValueType) (i : Integers a b) where
  number_fits : (x y : List ℕ) → SameNumber a b x y → HasType b y
  number_fits x y w = subst (λ (g : family.Family). HasFamily g b.width y) (sym i.1) w.0

  number_same : (x y : List ℕ) → SameNumber a b x y → scalar_in b y ≡ scalar_in a x
  unfolding family_value
  number_same x y w =
      ap (λ (g : family.Family). family_value g b.width b.signed y) i.1
      ∙ ap whole w.1
      ∙ sym (ap (λ (g : family.Family). family_value g a.width a.signed x) i.0)

module _ (e f : ℕ) (a b : ValueType) (i : Integers a b) where
  element_fits : (k : ℕ) (x : List ℕ) (l : ℕ) (y : List ℕ) → SameElement e f a b k x l y → Slot f l y (HasType b y)
  element_fits k x l y (inl w) = inl w.1
  element_fits k x l y (inr w) = inr (w.1.0, number_fits a b i x y w.1.1)

  module _ (x y : List ℕ) where
    counts : {rs qs : Records} → Paired x y (SameElement e f a b) rs qs → count qs ≡ count rs
    unfolding count
    counts ends = refl
    counts (both w r) = ap suc (counts r)

    elements_fit_law : {rs qs : Records} → Paired x y (SameElement e f a b) rs qs → Elements y f b qs
    unfolding Elements
    elements_fit_law ends = tt
    elements_fit_law (both {k = k} {a = s} {n} {l = l} {b = c} {m} w r) = (element_fits k (part x s n) l (part y c m) w, elements_fit_law r)

    module _ (ne : eqb e 0 ≡ false) (nf : eqb f 0 ≡ false) where
      element_same : (k : ℕ) (x : List ℕ) (l : ℕ) (y : List ℕ) → SameElement e f a b k x l y → element_in b l y ≡ element_in a k x
      element_same k x l y (inl w) = rw (eq-eqb k 0 w.0, eq-eqb l 0 w.1.0) refl
      element_same k x l y (inr w) = rw (w.0, w.1.0, ne, nf) (ap some (number_same a b i x y w.1.1))

      elements_same : {rs qs : Records} → Paired x y (SameElement e f a b) rs qs → elements b y qs ≡ elements a x rs
      unfolding elements
      elements_same ends = refl
      elements_same (both {k = k} {a = s} {n} {l = l} {b = c} {m} w r) =
          ap₂ (λ (h : Option ScalarValue) (t : List (Option ScalarValue)). h ∷ t) (element_same k (part x s n) l (part y c m) w) (elements_same r)

-- ---- a property's record
body_fits_law : {k l : Kind} {x y : List ℕ} → SameBody k l x y → HasKind k x → HasKind l y
body_fits_law (scalar {a} {b} {x} {y} i w) h = number_fits a b i x y w
body_fits_law (wider.array {e} {f} {a} {b} {x} {y} i w) h = (omega (arith, counts e f a b i x y w, h.0), elements_fit_law e f a b i x y w)

body_same : {k l : Kind} {x y : List ℕ} → SameBody k l x y → OfElements k → OfElements l → body_value l y ≡ body_value k x
body_same (scalar {a} {b} {x} {y} i w) p q = ap single (number_same a b i x y w)
body_same (wider.array {e} {f} {a} {b} {x} {y} i w) p q = ap array (elements_same e f a b i x y (element_not_zero e p) (element_not_zero f q) w)

module _ (k l kind : ℕ) (x : List ℕ) (other : ℕ) (y : List ℕ) where
  record_fits_law : SameRecord k l kind x other y → Slot k kind x (HasKind (kind_of k) x) → Slot l other y (HasKind (kind_of l) y)
  record_fits_law (null w) h = inl w.1
  record_fits_law (kept e f g) h = rw (sym e, sym f, sym g) h
  record_fits_law (integers e f w) (inl h) = absurd (apart (sym (property_not_zero k (known_both (integer_kinds w)).0) ∙ eq-eqb k 0 (sym e ∙ h.0)))
  record_fits_law (integers e f w) (inr h) = inr (f, body_fits_law w h.1)

  record_same : SameRecord k l kind x other y → pick (eqb other 0) value.null (body_value (kind_of l) y) ≡ pick (eqb kind 0) value.null (body_value (kind_of k) x)
  record_same (null w) = rw (eq-eqb kind 0 w.0, eq-eqb other 0 w.1.0) refl
  record_same (kept e f g) = rw (e, f, g) refl
  record_same (integers e f w) =
      rw (e, f, property_not_zero k (known_both (integer_kinds w)).0, property_not_zero l (known_both (integer_kinds w)).1) (body_same w (of_elements k) (of_elements l))

-- ---- the whole instance
module _ (i j : List ℕ) where
  pub lays_wider : {ks ls : List ℕ} {rs qs : Records} → SameNumbers i j ks ls rs qs → Lays i ks rs → Lays j ls qs
  unfolding Lays
  lays_wider (further w) h = w
  lays_wider (next {k} {l} {kind = kind} {a} {n} {other = other} {b} {m} w r) h =
      (record_fits_law k l kind (part i a n) other (part j b m) w h.0, lays_wider r h.1)

  -- ---- property by property
  pub record PairOf (ks ls : List ℕ) (n : ℕ) : Type 0 where
    pub value : value_at (get_or ls n 0) j (start_of j n) ≡ value_at (get_or ks n 0) i (start_of i n)
    pub later : SameNumbers i j (drop (suc n) ks) (drop (suc n) ls) (records i (start_of i (suc n))) (records j (start_of j (suc n)))

  first : {k l : ℕ} {ks ls : List ℕ} {p kind a n o other b m : ℕ} {rs qs : Records}
      → SameNumbers i j (k ∷ ks) (l ∷ ls) (item p kind a n rs) (item o other b m qs) → SameRecord k l kind (part i a n) other (part j b m)
  first (next w r) = w

  rest : {k l : ℕ} {ks ls : List ℕ} {p kind a n o other b m : ℕ} {rs qs : Records}
      → SameNumbers i j (k ∷ ks) (l ∷ ls) (item p kind a n rs) (item o other b m qs) → SameNumbers i j ks ls rs qs
  rest (next w r) = r

  -- where a property is awaited, a record stands in both
  abbrev AnItem : Records → Type 0
  AnItem (item p k a n rs) = Unit
  AnItem (broken p) = ⊥
  AnItem ended = ⊥

  items : {k l : ℕ} {ks ls : List ℕ} {rs qs : Records} → SameNumbers i j (k ∷ ks) (l ∷ ls) rs qs → AnItem rs × AnItem qs
  items (next w r) = (tt, tt)

  module _ (ks ls : List ℕ) (n : ℕ) (h : n < length ks) (g : n < length ls)
      (w : SameNumbers i j (drop n ks) (drop n ls) (records i (start_of i n)) (records j (start_of j n))) where
    Left : Type 0
    Left = SameNumbers i j (get_or ks n 0 ∷ drop (suc n) ks) (get_or ls n 0 ∷ drop (suc n) ls) (records i (start_of i n)) (records j (start_of j n))

    left : Left
    unfolding Left
    left = rw (drop-cons ks n 0 h, drop-cons ls n 0 g) at w

    pair : PairOf ks ls n
    unfolding value_at start_of Left
    pair = go (record_at i (start_of i n)) (record_at j (start_of j n)) refl refl
      where
        go : (r v : RecordAt) → record_at i (start_of i n) ≡ r → record_at j (start_of j n) ≡ v → PairOf ks ls n
        go (Whole kind s m past) (Whole other c o beyond) e f =
            let x = rw (records_whole i (start_of i n) kind s m past e, records_whole j (start_of j n) other c o beyond f) at left in
            record {
              value = rw (e, f) (record_same (get_or ks n 0) (get_or ls n 0) kind (part i s m) other (part j c o) (first x));
              later = rw (e, f) (rest x);
            }
        go (Whole kind s m past) Broken e f = absurd (rw (records_broken j (start_of j n) f) at (items left).1)
        go (Whole kind s m past) End e f = absurd (rw (records_end j (start_of j n) f) at (items left).1)
        go Broken v e f = absurd (rw (records_broken i (start_of i n) e) at (items left).0)
        go End v e f = absurd (rw (records_end i (start_of i n) e) at (items left).0)

  module _ (ks ls : List ℕ) (w : SameNumbers i j ks ls (records i 0) (records j 0)) where
    numbers_at : (n : ℕ) → n ≤ length ks → n ≤ length ls → SameNumbers i j (drop n ks) (drop n ls) (records i (start_of i n)) (records j (start_of j n))
    unfolding start_of
    numbers_at zero h g = w
    numbers_at (suc n) h g = (pair ks ls n (omega arith) (omega arith) (numbers_at n (omega arith) (omega arith))).later

    pub value_wider : (n : ℕ) → n < length ks → n < length ls → value_at (get_or ls n 0) j (start_of j n) ≡ value_at (get_or ks n 0) i (start_of i n)
    value_wider n h g = (pair ks ls n h g (numbers_at n (omega arith) (omega arith))).value
