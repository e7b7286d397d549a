-- One law for each exit of `src/lib.rt`.
use Rattle.std.specs.Prelude.{Option as Optional, None, Some, Result, MatchOption}
use Prim.Native.Nat.{ℕ, zero, suc, ◌+◌}
use mathlib.Core.Logic.{◌⊎◌, inl, inr}
use mathlib.Core.List.{List, [], ◌∷◌}
use mathlib.Core.Bool.{Bool, true, false}
use mathlib.Core.Path.{◌≡◌, refl, sym, ap, subst, ◌∙◌}
use mathlib.Core.Option.{Option, some}
use native.Mathlib.Omega.{arith}
use lib.ListN.{length}
use borrow.Author.Tests.{eq-eqb, ne_eqb}
use Rattle.base.specs.Part.{part}
use Rattle.base.specs.Order.{holds}
use Rattle.base.specs.declared.order.Operator.{Operator}
use Rattle.base.specs.declared.order.Operator.TheVariants.{Equal}
use Rattle.base.specs.declared.order.Order.TheVariants as order
use Rattle.base.proofs.Says.{and_false}
use Rattle.record.specs.Record.{Records, item, broken, ended, records}
use Rattle.record.specs.Walked.{left, Gives}
use Rattle.record.specs.declared.walk.Record.{Record}
use Rattle.record.specs.declared.walk.Records.{Records as Walk}
use Rattle.record.specs.declared.kind.Family.{Family}
use Rattle.record.specs.declared.kind.ValueType.{ValueType}
use Rattle.token.specs.declared.Token.{Token}
use Rattle.instance.specs.Conforms.{count}
use Rattle.instance.specs.Value.{ScalarValue, element_in, elements}
use Rattle.instance.proofs.Formed.{length_elements}
use Rattle.value.specs.Compare.{equality, compares}
use Rattle.value.specs.Item.{item_value}
use Rattle.value.specs.declared.item.Item.{Item}
use Rattle.operand.specs.LiteralReading.{read_literal}
use Rattle.operand.specs.Element.{next_element, elements_from, first_element}
use Rattle.short_circuit.specs.Walk.{told}
use Rattle.short_circuit.specs.declared.Told.{Told}
use Rattle.arrays.specs.Arrays.{same_elements, same_arrays, pairs_seen, array_steps}
use Rattle.place.specs.Place.{elements_of, body_value, value_read, literal_values}
use Rattle.arrays.specs.Answers.{compared}
use Rattle.place.specs.declared.Part.{Part}

-- what an operator makes of an equality
module _ (op : Operator) (same : Bool) (b : Bool) where
  pub equal_holds : same ≡ true → b ≡ holds op order.Same → b ≡ holds op (equality same)
  equal_holds h e = e ∙ rw h

  pub unequal_holds : same ≡ false → b ≡ holds op order.Undecided → b ≡ holds op (equality same)
  unequal_holds h e = e ∙ rw h

  pub equality_told : b ≡ holds op (equality same) → (n : ℕ) → told b n ≡ told (holds op (equality same)) n
  equality_told e n = ap (λ (z : Bool). told z n) e

-- elements pair by pair, after n steps
abbrev pub pairs_from : Operator → ℕ → (xs ys : List (Option ScalarValue)) → Told
pairs_from op n xs ys = told (holds op (equality (same_elements xs ys))) (n + pairs_seen xs ys)

module _ (op : Operator) (n : ℕ) where
  from_none : pairs_from op n [] [] ≡ told (holds op (equality true)) n
  unfolding same_elements pairs_seen
  from_none = ap (told (holds op (equality true))) (omega arith)

  module _ (x y : Option ScalarValue) (xs ys : List (Option ScalarValue)) where
    from_same : compares Equal x y ≡ true → pairs_from op n (x ∷ xs) (y ∷ ys) ≡ pairs_from op (n + 1) xs ys
    unfolding same_elements pairs_seen
    from_same e = rw e (ap (told (holds op (equality (same_elements xs ys)))) (omega arith))

    from_apart : compares Equal x y ≡ false → pairs_from op n (x ∷ xs) (y ∷ ys) ≡ told (holds op (equality false)) (n + 1)
    unfolding same_elements pairs_seen
    from_apart e = rw e (ap (told (holds op (equality false))) (omega arith))

-- arrays of different sizes are not the same, and no pair of them is looked at
sizes_apart : (xs ys : List (Option ScalarValue)) → (length xs ≡ length ys → ⊥) → same_elements xs ys ≡ false
unfolding same_elements
sizes_apart [] [] h = absurd (h refl)
sizes_apart [] (y ∷ ys) h = refl
sizes_apart (x ∷ xs) [] h = refl
sizes_apart (x ∷ xs) (y ∷ ys) h = rw (sizes_apart xs ys (λ e. h (ap suc e))) (and_false (compares Equal x y))

module _ (op : Operator) (xs ys : List (Option ScalarValue)) where
  pairs_start : length xs ≡ length ys → compared op (some xs) (some ys) ≡ pairs_from op 1 xs ys
  unfolding compared same_arrays array_steps
  pairs_start e = rw (eq-eqb (length xs) (length ys) e)

  pairs_never : (length xs ≡ length ys → ⊥) → told (holds op (equality false)) 1 ≡ compared op (some xs) (some ys)
  unfolding compared same_arrays array_steps
  pairs_never h = rw (sizes_apart xs ys h, ne_eqb (length xs) (length ys) h)

-- a walk with nothing left has no element to give
nothing_left : (t : ValueType) (s : List ℕ) (rs : Records) → count rs ≡ 0 → elements t s rs ≡ []
unfolding elements count
nothing_left t s (item place kind start len rest) h = absurd (omega arith)
nothing_left t s (broken place) h = refl
nothing_left t s ended h = refl

-- two walks side by side give a record each, or one of them has ended
module _ (s t u v : Walk) where
  abbrev Beside : Optional (Result Record ℕ × Result Record ℕ) → Type 0
  Beside r = MatchOption r (((z : Walk) × Gives s None z) ⊎ ((z : Walk) × Gives t None z)) (λ p. Gives s (Some p.0) u × Gives t (Some p.1) v)

  pub either_ended : (r : Optional (Result Record ℕ × Result Record ℕ)) → Beside r → r ≡ None → (left s ≡ ended) ⊎ (left t ≡ ended)
  either_ended r h e = by (subst Beside e h)
    where
      by : Beside None → (left s ≡ ended) ⊎ (left t ≡ ended)
      by (inl a) = inl a.1.0
      by (inr b) = inr b.1.0

-- the elements of two arrays of equal size
module _ (op : Operator) (a b : List ℕ) (t u : ValueType) (n : ℕ) (w : Told) (xs ys : Records) (inv : w ≡ pairs_from op n (elements t a xs) (elements u b ys)) (level : count xs ≡ count ys) where
  over : count xs ≡ 0 → (r : Told) → r ≡ told (holds op (equality true)) n → r ≡ w
  over h r e = e ∙ sym (inv ∙ rw (nothing_left t a xs h, nothing_left u b ys (sym level ∙ h)) (from_none op n))

  pub pairs_broken : (place : ℕ) → xs ≡ broken place → (r : Told) → r ≡ told (holds op (equality true)) n → r ≡ w
  unfolding count
  pairs_broken place h = over (rw h)

  pub pairs_other_broken : (place : ℕ) → ys ≡ broken place → (r : Told) → r ≡ told (holds op (equality true)) n → r ≡ w
  unfolding count
  pairs_other_broken place h = over (rw (level, h))

  pub pairs_over : ((xs ≡ ended) ⊎ (ys ≡ ended)) → (r : Told) → r ≡ told (holds op (equality true)) n → r ≡ w
  unfolding count
  pairs_over (inl h) = over (rw h)
  pairs_over (inr h) = over (rw (level, h))

  module _ (place k s m : ℕ) (rest : Records) (f : xs ≡ item place k s m rest) (place2 k2 s2 m2 : ℕ) (rest2 : Records) (g : ys ≡ item place2 k2 s2 m2 rest2)
      (y : Item) (ey : item_value b y ≡ element_in u k2 (part b s2 m2)) (h : Bool) (eh : h ≡ compares Equal (element_in t k (part a s m)) (item_value b y)) where
    pairs_here : w ≡ pairs_from op n (element_in t k (part a s m) ∷ elements t a rest) (element_in u k2 (part b s2 m2) ∷ elements u b rest2)
    unfolding elements
    pairs_here = inv ∙ rw (f, g)

    said : h ≡ compares Equal (element_in t k (part a s m)) (element_in u k2 (part b s2 m2))
    said = eh ∙ ap (compares Equal (element_in t k (part a s m))) ey

    pub pairs_differ : h ≡ false → (r : Told) → r ≡ told (holds op (equality false)) (n + 1) → r ≡ w
    pairs_differ z r e =
        e ∙ sym (pairs_here ∙ from_apart op n (element_in t k (part a s m)) (element_in u k2 (part b s2 m2)) (elements t a rest) (elements u b rest2) (sym said ∙ z))

    pub pairs_next : h ≡ true → w ≡ pairs_from op (n + 1) (elements t a rest) (elements u b rest2)
    pairs_next z = pairs_here ∙ from_same op n (element_in t k (part a s m)) (element_in u k2 (part b s2 m2)) (elements t a rest) (elements u b rest2) (sym said ∙ z)

    pub pairs_level : count rest ≡ count rest2
    unfolding count
    pairs_level = let z : suc (count rest) ≡ suc (count rest2) = rw (f, g) at level in omega arith

-- the values of as many elements of an array literal as a size says
abbrev pub literals_from : Family → (query : List ℕ) → Token → (size : ℕ) → List (Option ScalarValue)
literals_from f q t n = literal_values f q (elements_from q t n)

length_literals : (f : Family) (q : List ℕ) (t : Token) (n : ℕ) → length (literals_from f q t n) ≡ n
unfolding literal_values elements_from
length_literals f q t zero = refl
length_literals f q t (suc n) = ap suc (length_literals f q (next_element q t) n)

-- an array and as many elements of an array literal
module _ (op : Operator) (a q : List ℕ) (of : ValueType) (f : Family) (t : Token) (n : ℕ) (w : Told) (xs : Records)
    (inv : w ≡ pairs_from op n (elements of a xs) (literals_from f q t (count xs))) where
  pub literals_broken : (place : ℕ) → xs ≡ broken place → (r : Told) → r ≡ told (holds op (equality true)) n → r ≡ w
  unfolding elements count elements_from literal_values
  literals_broken place h r e = e ∙ sym (inv ∙ rw h (from_none op n))

  pub literals_over : xs ≡ ended → (r : Told) → r ≡ told (holds op (equality true)) n → r ≡ w
  unfolding elements count elements_from literal_values
  literals_over h r e = e ∙ sym (inv ∙ rw h (from_none op n))

  module _ (place k s m : ℕ) (rest : Records) (e : xs ≡ item place k s m rest) (y : Item) (ey : item_value q y ≡ value_read (read_literal f q t))
      (h : Bool) (eh : h ≡ compares Equal (element_in of k (part a s m)) (item_value q y)) where
    literals_here : w ≡ pairs_from op n (element_in of k (part a s m) ∷ elements of a rest) (value_read (read_literal f q t) ∷ literals_from f q (next_element q t) (count rest))
    unfolding elements count elements_from literal_values
    literals_here = inv ∙ rw e

    literal_said : h ≡ compares Equal (element_in of k (part a s m)) (value_read (read_literal f q t))
    literal_said = eh ∙ ap (compares Equal (element_in of k (part a s m))) ey

    pub literals_differ : h ≡ false → (r : Told) → r ≡ told (holds op (equality false)) (n + 1) → r ≡ w
    literals_differ z r g =
        g
        ∙ sym (literals_here
        ∙ from_apart op n (element_in of k (part a s m)) (value_read (read_literal f q t)) (elements of a rest) (literals_from f q (next_element q t) (count rest)) (sym literal_said ∙ z))

    pub literals_next : h ≡ true → (v : Token) → v ≡ next_element q t → w ≡ pairs_from op (n + 1) (elements of a rest) (literals_from f q v (count rest))
    literals_next z v g =
        literals_here
        ∙ from_same op n (element_in of k (part a s m)) (value_read (read_literal f q t)) (elements of a rest) (literals_from f q (next_element q t) (count rest)) (sym literal_said ∙ z)
        ∙ rw (← g)

-- before the first pair
module _ (op : Operator) (a : List ℕ) (of : ValueType) where
  pub pairs_first : (b : List ℕ) (with : ValueType) → count (records a 0) ≡ count (records b 0)
      → compared op (some (elements_of of a)) (some (elements_of with b)) ≡ pairs_from op 1 (elements of a (records a 0)) (elements with b (records b 0))
  pairs_first b with e = pairs_start op (elements_of of a) (elements_of with b) (length_elements of a (records a 0) ∙ e ∙ sym (length_elements with b (records b 0)))

  pub literals_first : (f : Family) (q : List ℕ) (t : Token)
      → compared op (some (elements_of of a)) (some (literals_from f q t (count (records a 0))))
      ≡ pairs_from op 1 (elements of a (records a 0)) (literals_from f q t (count (records a 0)))
  literals_first f q t =
      pairs_start op (elements_of of a) (literals_from f q t (count (records a 0))) (length_elements of a (records a 0) ∙ sym (length_literals f q t (count (records a 0))))

-- an array of an instance, NULL or not, and another
module _ (op : Operator) (i : List ℕ) (of with : ValueType) (x y : Optional Part) (r : Told) where
  module _ (h : x ≡ None) where
    pub bodies_null : y ≡ None → r ≡ told (holds op (equality true)) 1 → r ≡ compared op (body_value of i x) (body_value with i y)
    unfolding compared same_arrays array_steps body_value
    bodies_null k e = e ∙ rw (h, k)

    pub bodies_first_null : (p : Part) → y ≡ Some p → r ≡ told (holds op (equality false)) 1
        → r ≡ compared op (body_value of i x) (body_value with i y)
    unfolding compared same_arrays array_steps body_value
    bodies_first_null p k e = e ∙ rw (h, k)

  module _ (p : Part) (h : x ≡ Some p) where
    pub bodies_second_null : y ≡ None → r ≡ told (holds op (equality false)) 1 → r ≡ compared op (body_value of i x) (body_value with i y)
    unfolding compared same_arrays array_steps body_value
    bodies_second_null k e = e ∙ rw (h, k)

    module _ (o : Part) (k : y ≡ Some o) (a b : List ℕ) (ea : a ≡ part i p.start p.length) (eb : b ≡ part i o.start o.length) where
      bodies_are : compared op (some (elements_of of a)) (some (elements_of with b)) ≡ compared op (body_value of i x) (body_value with i y)
      unfolding body_value
      bodies_are = rw (h, k, ea, eb)

      pub bodies_pairs : r ≡ compared op (some (elements_of of a)) (some (elements_of with b)) → r ≡ compared op (body_value of i x) (body_value with i y)
      bodies_pairs e = e ∙ bodies_are

      pub bodies_sizes : (m n : ℕ) → m ≡ count (records a 0) → n ≡ count (records b 0) → (m ≡ n → ⊥) → r ≡ told (holds op (equality false)) 1
          → r ≡ compared op (body_value of i x) (body_value with i y)
      bodies_sizes m n em en z e =
          e ∙ pairs_never op (elements_of of a) (elements_of with b) (λ g. z (em ∙ sym (length_elements of a (records a 0)) ∙ g ∙ length_elements with b (records b 0) ∙ sym en)) ∙ bodies_are

pub sizes_same : (a b : List ℕ) (m n : ℕ) → m ≡ count (records a 0) → n ≡ count (records b 0) → m ≡ n → count (records a 0) ≡ count (records b 0)
sizes_same a b m n e f h = sym e ∙ h ∙ f

-- an array of an instance, NULL or not, and an array literal
module _ (op : Operator) (q i : List ℕ) (of : ValueType) (f : Family) (x : Optional Part) (start size : ℕ) (r : Told) where
  pub literal_null : x ≡ None → r ≡ told (holds op (equality false)) 1 → r ≡ compared op (body_value of i x) (some (literals_from f q (first_element q start) size))
  unfolding compared same_arrays array_steps body_value
  literal_null h e = e ∙ rw h

  module _ (p : Part) (h : x ≡ Some p) (a : List ℕ) (ea : a ≡ part i p.start p.length) (m : ℕ) (em : m ≡ count (records a 0)) where
    literal_are : compared op (some (elements_of of a)) (some (literals_from f q (first_element q start) size))
        ≡ compared op (body_value of i x) (some (literals_from f q (first_element q start) size))
    unfolding body_value
    literal_are = rw (h, ea)

    pub literal_sizes : (m ≡ size → ⊥) → r ≡ told (holds op (equality false)) 1 → r ≡ compared op (body_value of i x) (some (literals_from f q (first_element q start) size))
    literal_sizes z e =
        e ∙ pairs_never op (elements_of of a) (literals_from f q (first_element q start) size)
        (λ g. z (em ∙ sym (length_elements of a (records a 0)) ∙ g ∙ length_literals f q (first_element q start) size)) ∙ literal_are

    pub literal_pairs : m ≡ size → (t : Token) → t ≡ first_element q start
        → r ≡ compared op (some (elements_of of a)) (some (literals_from f q t (count (records a 0))))
        → r ≡ compared op (body_value of i x) (some (literals_from f q (first_element q start) size))
    literal_pairs g t et e = let z : count (records a 0) ≡ size = sym em ∙ g in e ∙ rw (z, et) literal_are
