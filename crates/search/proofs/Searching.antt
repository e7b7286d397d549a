-- One law for each exit of `src/lib.rt`.
use Rattle.std.specs.Prelude.{Option as Optional, None, Some}
use Prim.Native.Nat.{ℕ, ◌+◌}
use mathlib.Core.List.{List, [], ◌∷◌}
use mathlib.Core.Bool.{Bool, true, false, not}
use mathlib.Core.Path.{◌≡◌, refl, sym, ap, ◌∙◌}
use mathlib.Core.Option.{Option, some}
use native.Mathlib.Omega.{arith}
use Rattle.base.specs.Part.{part}
use Rattle.base.specs.declared.order.Operator.{Operator}
use Rattle.base.proofs.Says.{apart}
use Rattle.record.specs.Record.{Records, item, broken, ended, records}
use Rattle.record.specs.declared.kind.ValueType.{ValueType}
use Rattle.instance.specs.Value.{ScalarValue, element_in, elements}
use Rattle.value.specs.Compare.{compares}
use Rattle.value.specs.Item.{item_value}
use Rattle.short_circuit.specs.Walk.{told}
use Rattle.short_circuit.specs.declared.Told.{Told}
use Rattle.place.specs.Place.{source_bytes, located_value, elements_of, body_value}
use Rattle.place.specs.declared.Located.{Located}
use Rattle.place.specs.declared.Part.{Part}
use Rattle.place.specs.Negation.{reversed_if}
use Rattle.place.proofs.Negating.{of_false}
use Rattle.search.specs.Search.{besides, decides, some_holds, all_hold, search_holds, elements_seen, search_steps, searched}

-- the search of elements, after n steps
abbrev pub search_from : (any : Bool) → (Option ScalarValue → Bool) → ℕ → List (Option ScalarValue) → Told
search_from any p n xs = told (search_holds any p (some xs)) (n + elements_seen any p xs)

module _ (p : Option ScalarValue → Bool) (n : ℕ) where
  from_none : (any : Bool) → told (not any) n ≡ search_from any p n []
  unfolding search_holds some_holds all_hold elements_seen
  from_none true = ap (told false) (omega arith)
  from_none false = ap (told true) (omega arith)

  module _ (x : Option ScalarValue) (xs : List (Option ScalarValue)) where
    from_decided : (any : Bool) → decides any (p x) ≡ true → told any (n + 1) ≡ search_from any p n (x ∷ xs)
    unfolding search_holds some_holds all_hold elements_seen
    from_decided any h = go any (p x) refl h
      where
        go : (any b : Bool) → p x ≡ b → decides any b ≡ true → told any (n + 1) ≡ search_from any p n (x ∷ xs)
        go true true e h = rw e (ap (told true) (omega arith))
        go true false e h = absurd (apart h)
        go false true e h = absurd (apart h)
        go false false e h = rw e (ap (told false) (omega arith))

    from_open : (any : Bool) → decides any (p x) ≡ false → search_from any p n (x ∷ xs) ≡ search_from any p (n + 1) xs
    unfolding search_holds some_holds all_hold elements_seen
    from_open any h = go any (p x) refl h
      where
        go : (any b : Bool) → p x ≡ b → decides any b ≡ false → search_from any p n (x ∷ xs) ≡ search_from any p (n + 1) xs
        go true true e h = absurd (apart (sym h))
        go true false e h = rw e (ap (told (some_holds p xs)) (omega arith))
        go false true e h = rw e (ap (told (all_hold p xs)) (omega arith))
        go false false e h = absurd (apart (sym h))

-- the records of an array
module _ (any : Bool) (op : Operator) (a : List ℕ) (of : ValueType) (y : Option ScalarValue) where
  pub search_start : searched false any op (some (elements_of of a)) y ≡ search_from any (besides op y) 1 (elements of a (records a 0))
  unfolding searched search_steps
  search_start = refl

  module _ (w : Told) (n : ℕ) (rs : Records) (inv : w ≡ search_from any (besides op y) n (elements of a rs)) where
    module _ (t : Told) (et : t ≡ told (not any) n) where
      pub search_broken : (place : ℕ) → rs ≡ broken place → t ≡ w
      unfolding elements
      search_broken place e = et ∙ from_none (besides op y) n any ∙ sym (inv ∙ rw e)

      pub search_end : rs ≡ ended → t ≡ w
      unfolding elements
      search_end e = et ∙ from_none (besides op y) n any ∙ sym (inv ∙ rw e)

    module _ (place kind start len : ℕ) (rest : Records) (e : rs ≡ item place kind start len rest) (h : Bool) (eh : h ≡ compares op (element_in of kind (part a start len)) y)
        (d : Bool) (ed : d ≡ decides any h) where
      whole : w ≡ search_from any (besides op y) n (element_in of kind (part a start len) ∷ elements of a rest)
      unfolding elements
      whole = inv ∙ rw e

      pub search_decided : d ≡ true → told any (n + 1) ≡ w
      search_decided f = from_decided (besides op y) n (element_in of kind (part a start len)) (elements of a rest) any (ap (decides any) (sym eh) ∙ sym ed ∙ f) ∙ sym whole

      pub search_next : d ≡ false → w ≡ search_from any (besides op y) (n + 1) (elements of a rest)
      search_next f = whole ∙ from_open (besides op y) n (element_in of kind (part a start len)) (elements of a rest) any (ap (decides any) (sym eh) ∙ sym ed ∙ f)

-- NOT
pub turned : (negated : Bool) (t : Told) (b : Bool) → b ≡ reversed_if negated t.holds → told b t.steps ≡ told (reversed_if negated t.holds) t.steps
turned negated t b e = ap (λ (z : Bool). told z t.steps) e

module _ (negated any : Bool) (op : Operator) (q i : List ℕ) (of : ValueType) (x : Optional Part) (y : Located) where
  pub search_null : x ≡ None → told negated 1 ≡ searched negated any op (body_value of i x) (located_value q i y)
  unfolding searched body_value search_holds search_steps
  search_null h = rw h (ap (λ (z : Bool). told z 1) (of_false negated))

  pub search_body : (p : Part) → x ≡ Some p → (b : List ℕ) → b ≡ source_bytes q i y.source → (a : List ℕ) → a ≡ part i p.start p.length
      → (t : Told) → t ≡ searched false any op (some (elements_of of a)) (item_value b y.item) → (r : Told) → r ≡ told (reversed_if negated t.holds) t.steps
      → r ≡ searched negated any op (body_value of i x) (located_value q i y)
  unfolding searched body_value
  search_body p h b eb a ea t et r er = er ∙ rw (et, ea, eb, h)
