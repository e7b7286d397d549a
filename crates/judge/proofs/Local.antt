-- A comparison that stands in two texts which are alike means the same in both: it fails for the same cause, or is the same test of values.
use Rattle.std.specs.Prelude.{Option as Optional, None, Some}
use Prim.Native.Nat.{ℕ, zero, suc, ◌+◌, ◌≤◌, ◌<◌}
use mathlib.Core.Path.{◌≡◌, refl, sym, ap, ◌∙◌, subst}
use mathlib.Core.List.{List}
use mathlib.Core.Bool.{Bool, true, false, ◌&&◌}
use mathlib.Core.Option.{Option, none, some}
use native.Mathlib.Omega.{arith}
use lib.Dec.{ltb, eqb}
use borrow.Author.Tests.{ltb-true, ltb-false, eqb-true, eqb-false}
use Rattle.base.specs.Pick.{pick}
use Rattle.record.specs.Name.{same_name}
use Rattle.record.specs.Kind.{kind_of, same_row}
use Rattle.record.specs.declared.kind.Family.{Family}
use Rattle.record.specs.declared.kind.Kind.{Kind}
use Rattle.record.specs.declared.kind.Kind.TheVariants.{Unknown, Scalar, Array}
use Rattle.table.specs.Properties.{class_name, find_property, found}
use Rattle.token.specs.declared.Token.{Token}
use Rattle.token.specs.Token.{token_after}
use Rattle.token.proofs.Bounds.{nth_from}
use Rattle.token.proofs.Local.{Placed}
use Rattle.token.proofs.Stands.{Standing, after_standing}
use Rattle.terminal.specs.declared.quantifier.Quantifier.{Quantifier}
use Rattle.terminal.specs.declared.quantifier.Quantifier.TheVariants.{Single, Any, Every}
use Rattle.terminal.specs.Terminal.{inside}
use Rattle.terminal.proofs.Inside.{inside_token}
use Rattle.syntax.specs.declared.path.Path.{Path}
use Rattle.syntax.specs.declared.operation.Operation.{Operation}
use Rattle.syntax.specs.declared.left_side.LeftSide.{LeftSide}
use Rattle.syntax.specs.declared.right_side.RightSide.{RightSide}
use Rattle.syntax.specs.declared.comparison.Comparison.{Comparison}
use Rattle.syntax.specs.Scan.{scan}
use Rattle.syntax.specs.Property.{span_of, one_more}
use Rattle.syntax.proofs.Simulation.{Both, Paths, one_name, more_names, Indices, no_index, an_index, ElementsOf, none_yet, one_more_law, Rights, literals, lists, properties, patterns, Comparisons}
use Rattle.syntax.proofs.Local.{Group, Nth, nth, placed, below}
use Rattle.instance.specs.Value.{ScalarValue, Value, Entry, absent, property, environment}
use Rattle.operand.specs.declared.cause.Cause.{Cause}
use Rattle.operand.specs.Index.{index_of}
use Rattle.operand.specs.LiteralReading.{LiteralReading, misfit, out_of_range, malformed, reads, read_literal}
use Rattle.operand.specs.Element.{next_element, elements_from, first_element, element_tokens}
use Rattle.operand.specs.PatternLiteral.{pattern_of}
use Rattle.operand.specs.Named.{spanned, named}
use Rattle.operand.proofs.Local.{name_stays, literal_stays, null_stays, index_stays, pattern_stays}
use Rattle.pattern.specs.Regex.{Regex}
use Rattle.predicate.specs.Test as test
use Rattle.predicate.specs.Test.{Test, values, arrays, search}
use Rattle.judge.specs.Meaning as meaning
use Rattle.judge.specs.Meaning.{Read, unlike, faulty, value, indexed_by, indexed, Left, misshapen, left_scalar, left_array, Right, missing, unindexable, literal_at, literal, before, elements, not_null, of_row, right_scalar, right_array, right_kind, right_property, pattern_by, right_of, Meant, fails, means, both, suits, operator_of, is_negated, like_text, meet, meant_by, meant_as, as_scalar, as_array}
use Rattle.judge.specs.Environment.{entry_found, entry_named}

-- ---- what is read, but for the places of faults
data SameRead {A : Type 0} : Read A → Read A → Type 0 where
  unlikes : SameRead unlike unlike
  faults : {c : Cause} {p o : ℕ} → SameRead (faulty c p) (faulty c o)
  values_of : {x : A} → SameRead (value x) (value x)

pub data SameMeant : Meant → Meant → Type 0 where
  both_fail : {c : Cause} {p o : ℕ} → SameMeant (fails c p) (fails c o)
  same_test : {x : Test} → SameMeant (means x) (means x)

data SameLeft : Left → Left → Type 0 where
  misshapen_both : SameLeft misshapen misshapen
  one_each : {x y : Read (Option ScalarValue)} → SameRead x y → SameLeft (meaning.Left.one x) (meaning.Left.one y)
  many_each : {xs : test.Array} → SameLeft (meaning.Left.many xs) (meaning.Left.many xs)
  search_each : {any : Bool} {xs : test.Array} → SameLeft (meaning.each any xs) (meaning.each any xs)

data SameRight : Right → Right → Type 0 where
  missing_both : {p o : ℕ} → SameRight (missing p) (missing o)
  unindexable_both : SameRight unindexable unindexable
  one_each : {n : Bool} {x y : Read (Option ScalarValue)} → SameRead x y → SameRight (meaning.Right.one n x) (meaning.Right.one n y)
  many_each : {x y : Read test.Array} → SameRead x y → SameRight (meaning.Right.many x) (meaning.Right.many y)
  pattern_each : {x y : Read (Regex ℕ)} → SameRead x y → SameRight (meaning.pattern x) (meaning.pattern y)

both_alike : {A B : Type 0} (m n : ℕ) (ok : Bool) {x x' : Read A} {y y' : Read B} (k : A → B → Test) → SameRead x x' → SameRead y y' → SameMeant (both m ok x y k) (both n ok x' y' k)
unfolding both
both_alike m n false k h j = both_fail
both_alike m n true k unlikes j = both_fail
both_alike m n true k faults unlikes = both_fail
both_alike m n true k faults faults = both_fail
both_alike m n true k faults values_of = both_fail
both_alike m n true k values_of unlikes = both_fail
both_alike m n true k values_of faults = both_fail
both_alike m n true k values_of values_of = same_test

meet_alike : (a b : LeftSide) → a.negated ≡ b.negated → (o : Operation) (f : Family) {l l' : Left} {r r' : Right} → SameLeft l l' → SameRight r r' → SameMeant (meet a o f l r) (meet b o f l' r')
unfolding meet
meet_alike a b e o f h missing_both = both_fail
meet_alike a b e o f h unindexable_both = both_fail
meet_alike a b e o f misshapen_both (one_each j) = both_fail
meet_alike a b e o f (one_each i) (one_each {n} j) = both_alike a.start b.start (suits (operator_of o) f n) (values (operator_of o)) i j
meet_alike a b e o f many_each (one_each j) = both_fail
meet_alike a b e o f (search_each {any} {xs}) (one_each {n} j) = rw e (both_alike a.start b.start (suits (operator_of o) f n) (search b.negated any (operator_of o)) values_of j)
meet_alike a b e o f misshapen_both (many_each j) = both_fail
meet_alike a b e o f (one_each i) (many_each j) = both_fail
meet_alike a b e o f many_each (many_each j) = both_alike a.start b.start _ (arrays (operator_of o)) values_of j
meet_alike a b e o f search_each (many_each j) = both_fail
meet_alike a b e o f misshapen_both (pattern_each j) = both_fail
meet_alike a b e o f (one_each i) (pattern_each j) = both_alike a.start b.start _ (like_text (is_negated o)) i j
meet_alike a b e o f many_each (pattern_each j) = both_fail
meet_alike a b e o f search_each (pattern_each j) = both_fail

-- ---- parts of a comparison
of_row_alike : {A : Type 0} (c : Bool) {x y : Read A} → SameRead x y → SameRead (of_row c x) (of_row c y)
of_row_alike true h = h
of_row_alike false h = unlikes

before_alike : {x x' : Read (Option ScalarValue)} {y y' : Read (List (Option ScalarValue))} → SameRead x x' → SameRead y y' → SameRead (before x y) (before x' y')
before_alike unlikes j = unlikes
before_alike faults unlikes = unlikes
before_alike faults faults = faults
before_alike faults values_of = faults
before_alike values_of unlikes = unlikes
before_alike values_of faults = faults
before_alike values_of values_of = values_of

not_null_alike : {x y : Read (List (Option ScalarValue))} → SameRead x y → SameRead (not_null x) (not_null y)
not_null_alike unlikes = unlikes
not_null_alike faults = faults
not_null_alike values_of = values_of

literal_at_alike : (m n : ℕ) (x : LiteralReading) → SameRead (literal_at m x) (literal_at n x)
literal_at_alike m n misfit = unlikes
literal_at_alike m n out_of_range = faults
literal_at_alike m n malformed = faults
literal_at_alike m n (reads v) = values_of

indexed_at_alike : (m n : ℕ) (x : Optional ℕ) (xs : test.Array) → SameRead (indexed_by m x xs) (indexed_by n x xs)
indexed_at_alike m n (Some i) xs = values_of
indexed_at_alike m n None xs = faults

pattern_at_alike : (m n : ℕ) (x : Option (Regex ℕ)) → SameRead (pattern_by m x) (pattern_by n x)
pattern_at_alike m n none = faults
pattern_at_alike m n (some x) = values_of

-- ---- comparisons of an fql-expr; its first token is found again where it starts, and so are the others
module _ {q r : List ℕ} {a b k l : ℕ} {t u : Token} {n : ℕ} (G : Group q r a b k l t u n) (first : Standing q t) (second : Standing r u) where
  standing : (i : ℕ) → i < n → Standing q (nth_from q t i)
  unfolding nth_from
  standing zero h = first
  standing (suc i) h = after_standing q (nth_from q t i) (inside_token (token_after q (nth_from q t i)).kind (G.within (suc i) h))

  other_standing : (i : ℕ) → i < n → Standing r (nth_from r u i)
  unfolding nth_from
  other_standing zero h = second
  other_standing (suc i) h =
      let e = (placed G (suc i) h).moved.kind in
      after_standing r (nth_from r u i) (inside_token (token_after r (nth_from r u i)).kind (ap inside (sym e) ∙ G.within (suc i) h))

  abbrev R : Token → Token → Type 0
  R = Nth q r t u n

  abbrev Pair : Token → Token → Type 0
  Pair x y = Both (scan q) (scan r) R x y

  -- what is known of two that correspond
  record Kept (x y : Token) : Type 0 where
    pub places : Placed a b k x y
    pub stands : Standing q x
    pub other_stands : Standing r y

  kept : {x y : Token} → Pair x y → Kept x y
  kept p = go p.are p.within
    where
      go : {x y : Token} → R x y → inside x.kind ≡ true → Kept x y
      go (nth i h) e = let m = below G i h e in record { places = placed G i m; stands = standing i m; other_stands = other_standing i m }

  -- ---- names
  -- a path has a second name only where it has two
  record Named (p o : Path) : Type 0 where
    pub names : p.names ≡ o.names
    pub some_names : 1 ≤ p.names
    pub firsts : spanned q p.first ≡ spanned r o.first
    pub seconds : 2 ≤ p.names → spanned q p.second ≡ spanned r o.second

  path_named : {p o : Path} → Paths (scan q) (scan r) R p o → Named p o
  unfolding one_more
  path_named (one_name h) = record { names = refl; some_names = omega arith; firsts = name_stays G.alike (kept h).places (kept h).stands; seconds = λ z. absurd (omega arith) }
  path_named (more_names {p = p} {o = o} {t = x} {u = y} h j) =
      let f = path_named h in
      record {
        names = ap (λ (m : ℕ). m + 1) f.names;
        some_names = omega arith;
        firsts = f.firsts;
        seconds = λ z. subst (λ (m : ℕ). spanned q (pick (eqb p.names 1) (span_of x) p.second) ≡ spanned r (pick (eqb m 1) (span_of y) o.second)) f.names (go f (eqb p.names 1) refl);
      }
    where
      go : Named p o → (c : Bool) → eqb p.names 1 ≡ c → spanned q (pick c (span_of x) p.second) ≡ spanned r (pick c (span_of y) o.second)
      go f true e = name_stays G.alike (kept j).places (kept j).stands
      go f false e = f.seconds (omega (arith, f.some_names, eqb-false p.names 1 e))

  module _ (table instance : List ℕ) where
    named_alike : {p o : Path} → Paths (scan q) (scan r) R p o → named q table p ≡ named r table o
    unfolding named
    named_alike {p} {o} h = go (path_named h) (eqb o.names 1) refl (eqb o.names 2) refl
      where
        go : Named p o → (c : Bool) → eqb o.names 1 ≡ c → (d : Bool) → eqb o.names 2 ≡ d
            → pick (eqb p.names 1) (find_property table (spanned q p.first)) (pick (eqb p.names 2 && same_name (class_name table) (spanned q p.first)) (find_property table (spanned q p.second)) None)
            ≡ pick (eqb o.names 1) (find_property table (spanned r o.first)) (pick (eqb o.names 2 && same_name (class_name table) (spanned r o.first)) (find_property table (spanned r o.second)) None)
        go f true e d g = rw (f.names, e) (ap (find_property table) f.firsts)
        go f false e true g =
            let z = eqb-true o.names 2 g in
            rw (f.names, e, g, f.firsts, f.seconds (omega (arith, f.names))) refl
        go f false e false g = rw (f.names, e, g) refl

    entry_alike : {p o : Path} → Paths (scan q) (scan r) R p o → entry_named q table instance p ≡ entry_named r table instance o
    unfolding entry_named
    entry_alike h = ap (entry_found (environment table instance)) (named_alike h)

    -- ---- the left side
    indexed_alike : {x y : Token} → Pair x y → (xs : test.Array) → SameRead (indexed q x xs) (indexed r y xs)
    indexed_alike {x} {y} p xs = rw (index_stays G.alike (kept p).places (kept p).stands) (indexed_at_alike x.start y.start (index_of r y) xs)

    scalar_left : (m : Quantifier) {i j : Optional Token} → Indices (scan q) (scan r) R i j → (v : Option ScalarValue) → SameLeft (left_scalar m i v) (left_scalar m j v)
    unfolding left_scalar
    scalar_left Single no_index v = one_each values_of
    scalar_left Single (an_index p) v = misshapen_both
    scalar_left Any i v = misshapen_both
    scalar_left Every i v = misshapen_both

    array_left : (m : Quantifier) {i j : Optional Token} → Indices (scan q) (scan r) R i j → (xs : test.Array) → SameLeft (left_array q m i xs) (left_array r m j xs)
    unfolding left_array
    array_left Single no_index xs = many_each
    array_left Single (an_index p) xs = one_each (indexed_alike p xs)
    array_left Any i xs = search_each
    array_left Every i xs = search_each

    -- ---- the right side
    literal_alike : (f : Family) {x y : Token} → Pair x y → SameRead (literal f q x) (literal f r y)
    literal_alike f {x} {y} p = rw (literal_stays G.alike (kept p).places (kept p).stands f) (literal_at_alike x.start y.start (read_literal f r y))

    -- the elements of an array literal, by their number
    unfoldable element : List ℕ → Token → ℕ → Token
    element s x zero = x
    element s x (suc m) = next_element s (element s x m)

    record Listed (x y : Token) (m : ℕ) (v w : Token) : Type 0 where
      pub reached : v ≡ element q x m
      pub other_reached : w ≡ element r y m
      pub each : (i : ℕ) → i < m → Pair (element q x i) (element r y i)

    listed : {x y : Token} {m : ℕ} {v w : Token} → ElementsOf (scan q) (scan r) R x y m v w → Listed x y m v w
    unfolding element
    listed none_yet = record { reached = refl; other_reached = refl; each = λ i h. absurd (omega arith) }
    listed {x} {y} (one_more_law {n = m} {t = v} {u = w} h p) = go (listed h)
      where
        go : Listed x y m v w → Listed x y (m + 1) (next_element q v) (next_element r w)
        go g =
            let z : m + 1 ≡ suc m = omega arith in
            record {
              reached = rw z (ap (next_element q) g.reached);
              other_reached = rw z (ap (next_element r) g.other_reached);
              each = λ i e. by i (ltb i m) refl e g;
            }
          where
            by : (i : ℕ) (c : Bool) → ltb i m ≡ c → i < m + 1 → Listed x y m v w → Pair (element q x i) (element r y i)
            by i true f e g = g.each i (ltb-true i m f)
            by i false f e g =
                let z : i ≡ m = omega (arith, ltb-false i m f) in
                rw (z, ← g.reached, ← g.other_reached) p

    elements_alike : (f : Family) (x y : Token) (m i : ℕ) → ((j : ℕ) → j < i + m → Pair (element q x j) (element r y j))
        → SameRead (elements f q (elements_from q (element q x i) m)) (elements f r (elements_from r (element r y i) m))
    unfolding elements elements_from element
    elements_alike f x y zero i h = values_of
    elements_alike f x y (suc m) i h = before_alike (literal_alike f (h i (omega arith))) (elements_alike f x y m (suc i) (λ j e. h j (omega arith)))

    list_alike : (f : Family) {x y v w : Token} {m : ℕ} → Pair x y → ElementsOf (scan q) (scan r) R (token_after q x) (token_after r y) m v w
        → SameRead (elements f q (element_tokens q x.start m)) (elements f r (element_tokens r y.start m))
    unfolding first_element element
    list_alike f {x} {y} {m = m} p e =
        let k = kept p in
        rw (k.stands, k.other_stands) (elements_alike f (token_after q x) (token_after r y) m 0 (λ j h. (listed e).each j (omega arith)))

    right_kind_law : (f : Family) (m n : ℕ) {i j : Optional Token} → Indices (scan q) (scan r) R i j → (x : Kind) (v : Value) → SameRight (right_kind f q m i x v) (right_kind f r n j x v)
    unfolding right_kind right_scalar right_array
    right_kind_law f m n h Unknown v = missing_both
    right_kind_law f m n no_index (Scalar x) v = one_each (of_row_alike (same_row f x.family) values_of)
    right_kind_law f m n (an_index p) (Scalar x) v = unindexable_both
    right_kind_law f m n no_index (Array e x) v = many_each (of_row_alike (same_row f x.family) values_of)
    right_kind_law f m n (an_index p) (Array e x) v = one_each (of_row_alike (same_row f x.family) (indexed_alike p (as_array v)))

    right_entry : (f : Family) (m n : ℕ) {i j : Optional Token} → Indices (scan q) (scan r) R i j → (x : Entry) → SameRight (right_property f q m i x) (right_property f r n j x)
    unfolding right_property
    right_entry f m n h absent = missing_both
    right_entry f m n h (property x v) = right_kind_law f m n h (kind_of x) v

    right_alike : (f : Family) {x y : RightSide} → Rights (scan q) (scan r) R x y → SameRight (right_of f q (entry_named q table instance) x) (right_of f r (entry_named r table instance) y)
    unfolding right_of
    right_alike f (literals {t = x} {u = y} p) = rw (null_stays G.alike (kept p).places (kept p).stands) (one_each (literal_alike f p))
    right_alike f (lists p e) = many_each (not_null_alike (list_alike f p e))
    right_alike f (properties {p = p} {o = o} h i) = rw (entry_alike h) (right_entry f p.first.start o.first.start i (entry_named r table instance o))
    right_alike f (patterns {t = x} {u = y} p e) = rw (pattern_stays G.alike (kept p).places (kept p).stands e) (pattern_each (pattern_at_alike x.start y.start (pattern_of r y)))

    -- ---- a comparison
    module _ {c d : Comparison} (h : Comparisons (scan q) (scan r) R c d) where
      scalar_met : (m m' : Quantifier) → m ≡ m' → (o o' : Operation) → o ≡ o' → (f : Family) (v : Option ScalarValue)
          → SameMeant (meet c.left o f (left_scalar m c.left.index v) (right_of f q (entry_named q table instance) c.right))
          (meet d.left o' f (left_scalar m' d.left.index v) (right_of f r (entry_named r table instance) d.right))
      scalar_met m m' e o o' g f v = rw (e, g) (meet_alike c.left d.left h.lefts.negations o' f (scalar_left m' h.lefts.indices v) (right_alike f h.rights))

      array_met : (m m' : Quantifier) → m ≡ m' → (o o' : Operation) → o ≡ o' → (f : Family) (xs : test.Array)
          → SameMeant (meet c.left o f (left_array q m c.left.index xs) (right_of f q (entry_named q table instance) c.right))
          (meet d.left o' f (left_array r m' d.left.index xs) (right_of f r (entry_named r table instance) d.right))
      array_met m m' e o o' g f xs = rw (e, g) (meet_alike c.left d.left h.lefts.negations o' f (array_left m' h.lefts.indices xs) (right_alike f h.rights))

      kind_alike : (x : Kind) (v : Value) → SameMeant (meant_by q (entry_named q table instance) c x v) (meant_by r (entry_named r table instance) d x v)
      unfolding meant_by
      kind_alike Unknown v = both_fail
      kind_alike (Scalar x) v = scalar_met c.left.quantifier d.left.quantifier h.lefts.quantifiers c.operation d.operation h.operations x.family (as_scalar v)
      kind_alike (Array e x) v = array_met c.left.quantifier d.left.quantifier h.lefts.quantifiers c.operation d.operation h.operations x.family (as_array v)

      as_alike : (x : Entry) → SameMeant (meant_as q (entry_named q table instance) c x) (meant_as r (entry_named r table instance) d x)
      unfolding meant_as
      as_alike absent = both_fail
      as_alike (property x v) = kind_alike (kind_of x) v

      -- a comparison that has moved means the same in every instance of the table
      pub meaning_moved : SameMeant (meaning.meaning q (entry_named q table instance) c) (meaning.meaning r (entry_named r table instance) d)
      unfolding meaning.meaning
      meaning_moved = rw (entry_alike h.lefts.paths) (as_alike (entry_named r table instance d.left.path))
