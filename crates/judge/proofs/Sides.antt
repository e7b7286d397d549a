-- Laws of the two sides of a comparison: one for each exit of `src/left.rt` and `src/right.rt`.
use Rattle.std.specs.Prelude.{Ok, Err, Some, None, Result, Option as Optional}
use Rattle.operand.specs.declared.cause.ComparisonRefusal.{ComparisonRefusal}
use Rattle.judge.specs.declared.fault.ItemFault.{ItemFault}
use Rattle.judge.specs.declared.fault.ItemFault.TheVariants.{Unlike, Faulty}
use Prim.Native.Nat.{ℕ, zero, suc, ◌+◌, ◌-◌, ◌≤◌, ◌<◌}
use mathlib.Core.Path.{◌≡◌, refl, sym, ap, ◌∙◌}
use mathlib.Core.List.{List, [], ◌∷◌}
use mathlib.Core.Bool.{Bool, true, false, not}
use mathlib.Core.Option.{Option, none}
use native.Mathlib.Omega.{arith}
use lib.ListN.{get_or}
use Rattle.base.specs.Part.{part}
use Rattle.record.specs.Record.{record_at, records}
use Rattle.record.specs.declared.read.RecordAt.{RecordAt}
use Rattle.record.specs.declared.read.RecordAt.TheVariants as record-at
use Rattle.record.specs.declared.kind.Family.{Family}
use Rattle.record.specs.declared.kind.ValueType.{ValueType}
use Rattle.record.proofs.Records.{records_whole, records_broken, records_end}
use Rattle.token.specs.declared.Token.{Token}
use Rattle.terminal.specs.declared.quantifier.Quantifier.{Quantifier}
use Rattle.terminal.specs.declared.quantifier.Quantifier.TheVariants.{Single, Any, Every}
use Rattle.instance.specs.Start.{next_of, start_of}
use Rattle.instance.specs.Value as value
use Rattle.instance.specs.Value.{ScalarValue}
use Rattle.value.specs.Item.{item_value}
use Rattle.value.specs.Read.{value_in, value_in_record}
use Rattle.operand.specs.declared.cause.Cause.{Cause}
use Rattle.operand.specs.declared.cause.Cause.TheVariants as cause
use Rattle.operand.specs.Index.{index_of}
use Rattle.operand.specs.LiteralReading.{LiteralReading, misfit, out_of_range, malformed, reads, read_literal}
use Rattle.operand.specs.Answers.{reading_of}
use Rattle.operand.specs.Element.{next_element, elements_from, first_element, element_tokens}
use Rattle.place.specs.declared.Source.TheVariants as source
use Rattle.place.specs.declared.Spot.{Spot}
use Rattle.place.specs.declared.Located.{Located}
use Rattle.place.specs.declared.Part.{Part}
use Rattle.place.specs.Place.{source_bytes, spot_value, located_value, body_value, value_read, literal_values}
use Rattle.judge.specs.declared.left.Left.TheVariants as code
use Rattle.judge.specs.Meaning as meaning
use Rattle.judge.specs.Meaning.{Read, unlike, faulty, element_of, left_scalar, left_array, literal_at, literal, before, elements, of_row}
use Rattle.judge.specs.Answers.{spot_read, left_seen, item_read, list_read, list_before, ElementIn, IndexedIn, ScalarLeft, ArrayLeft, ListOf, refusal, fault_read, fault_before}
use Rattle.value.specs.declared.item.Item.{Item}
use Rattle.operand.specs.declared.literal_read.ReadFault.{ReadFault}
use Rattle.operand.specs.declared.literal_read.ReadFault.TheVariants as ReadFault

-- ---- an element by its index is the value in the record that starts there
module _ (t : ValueType) (s : List ℕ) where
  next_element_law : (at : ℕ) (r : RecordAt) → r ≡ record_at s at → (m : ℕ)
      → get_or (value.elements t s (records s at)) (suc m) none ≡ get_or (value.elements t s (records s (next_of at r))) m none
  unfolding value.elements
  next_element_law at (record-at.Whole k start len next) e m = rw (records_whole s at k start len next (sym e)) refl
  next_element_law at record-at.Broken e m = rw (records_broken s at (sym e)) refl
  next_element_law at record-at.End e m = rw (records_end s at (sym e)) refl

  later_element : (n m : ℕ) → get_or (value.elements t s (records s 0)) (n + m) none ≡ get_or (value.elements t s (records s (start_of s n))) m none
  unfolding start_of
  later_element zero m = ap (λ (k : ℕ). get_or (value.elements t s (records s 0)) k none) (let e : 0 + m ≡ m = omega arith in e)
  later_element (suc n) m =
      ap (λ (k : ℕ). get_or (value.elements t s (records s 0)) k none) (let e : suc n + m ≡ n + suc m = omega arith in e)
      ∙ later_element n (suc m)
      ∙ next_element_law (start_of s n) (record_at s (start_of s n)) refl m

  first_element_law : (at : ℕ) (r : RecordAt) → r ≡ record_at s at → value_in t s r ≡ get_or (value.elements t s (records s at)) 0 none
  unfolding value.elements
  first_element_law at (record-at.Whole k start len next) e = rw (records_whole s at k start len next (sym e)) refl
  first_element_law at record-at.Broken e = rw (records_broken s at (sym e)) refl
  first_element_law at record-at.End e = rw (records_end s at (sym e)) refl

  pub element_start : (n : ℕ) → value_in_record t s (start_of s n) ≡ get_or (value.elements t s (records s 0)) n none
  unfolding value_in_record
  element_start n =
      first_element_law (start_of s n) (record_at s (start_of s n)) refl
      ∙ sym (later_element n 0)
      ∙ ap (λ (k : ℕ). get_or (value.elements t s (records s 0)) k none) (let e : n + 0 ≡ n = omega arith in e)

-- ---- src/left.rt
module _ (i : List ℕ) (x : Optional Part) (n : ℕ) where
  pub element_null : x ≡ None → ElementIn i x n (record { source = source.Part (record { start = 0; length = 0 }); place = 0 })
  unfolding body_value element_of value_in_record record_at
  element_null e t q = rw e refl

  pub element_there : (p : Part) {s : List ℕ} {place : ℕ} → x ≡ Some p → s ≡ part i p.start p.length → place ≡ start_of s n
      → ElementIn i x n (record { source = source.Part p; place = place })
  unfolding body_value element_of
  element_there p e es h t q = rw (e, h, es) (element_start t (part i p.start p.length) n)

module _ (q i : List ℕ) (x : Optional Part) (k : Token) {r : Optional ℕ} (er : r ≡ index_of q k) where
  pub indexed_reads : (n : ℕ) → r ≡ Some n → (s : Spot) → ElementIn i x n s → IndexedIn q i k x (Ok s)
  unfolding spot_read
  indexed_reads n e s h t = rw (← er, e) (ap meaning.value (h t q))

  pub indexed_large : r ≡ None → IndexedIn q i k x (Err k.start)
  unfolding spot_read
  indexed_large e t = rw (← er, e) refl

module _ (k : Quantifier) (index : Optional Token) (place : ℕ) where
  pub scalar_one : k ≡ Single → index ≡ None → ScalarLeft k index place (code.One (Ok (record { source = source.Instance; place = place })))
  unfolding left_seen spot_read left_scalar
  scalar_one e f t q i = rw (e, f) refl

  pub scalar_indexed : (x : Token) → k ≡ Single → index ≡ Some x → ScalarLeft k index place code.Misshapen
  unfolding left_seen left_scalar
  scalar_indexed x e f t q i = rw (e, f) refl

  pub scalar_any : k ≡ Any → ScalarLeft k index place code.Misshapen
  unfolding left_seen left_scalar
  scalar_any e t q i = rw e refl

  pub scalar_every : k ≡ Every → ScalarLeft k index place code.Misshapen
  unfolding left_seen left_scalar
  scalar_every e t q i = rw e refl

module _ (q i : List ℕ) (k : Quantifier) (index : Optional Token) (x : Optional Part) where
  pub array_whole : k ≡ Single → index ≡ None → ArrayLeft q i k index x (code.Many x)
  unfolding left_seen left_array
  array_whole e f t = rw (e, f) refl

  pub array_indexed : (y : Token) → k ≡ Single → index ≡ Some y → (s : Result Spot ℕ) → IndexedIn q i y x s → ArrayLeft q i k index x (code.One s)
  unfolding left_seen left_array
  array_indexed y e f s h t = rw (e, f) (ap meaning.Left.one (h t))

  pub array_any : k ≡ Any → ArrayLeft q i k index x (code.Each true x)
  unfolding left_seen left_array
  array_any e t = rw e refl

  pub array_every : k ≡ Every → ArrayLeft q i k index x (code.Each false x)
  unfolding left_seen left_array
  array_every e t = rw e refl

-- ---- src/right.rt
module _ (f : Family) (q i : List ℕ) (t : Token) {r : Result Item ReadFault} (er : reading_of q r ≡ read_literal f q t) where
  pub literal_fault : (w : ReadFault) → r ≡ Err w → {v : ItemFault} → v ≡ fault_read t.start w → item_read q i (Err v) ≡ literal f q t
  unfolding item_read reading_of
  literal_fault w e ev = ap (λ (x : ItemFault). item_read q i (Err x)) ev ∙ go w ∙ ap (literal_at t.start) (sym (ap (reading_of q) e) ∙ er)
    where
      go : (w : ReadFault) → item_read q i (Err (fault_read t.start w)) ≡ literal_at t.start (reading_of q (Err w))
      go ReadFault.Misfit = refl
      go ReadFault.OutOfRange = refl
      go ReadFault.Malformed = refl

  pub literal_value_law : (x : Rattle.value.specs.declared.item.Item.Item) → r ≡ Ok x → (y : Located) → (y.source ≡ source.Query) × (y.item ≡ x)
      → item_read q i (Ok y) ≡ literal f q t
  unfolding item_read reading_of
  literal_value_law x e y h = rw (h.0, h.1) (sym (ap (literal_at t.start) (sym er ∙ ap (reading_of q) e)))

module _ (q i : List ℕ) (of : ValueType) (same : Bool) (x : Result Spot ℕ) where
  pub row_unlike : not same ≡ true → item_read q i (Err Unlike) ≡ of_row same (spot_read of q i x)
  unfolding item_read
  row_unlike h = by same h
    where
      by : (b : Bool) → not b ≡ true → unlike ≡ of_row b (spot_read of q i x)
      by true h = let z : ◌≡◌ {A = ℕ} 0 1 = cc in absurd (omega arith)
      by false h = refl

  of_row_law : not same ≡ false → (r : Read (Option ScalarValue)) → r ≡ of_row same r
  of_row_law h r = by same h
    where
      by : (b : Bool) → not b ≡ false → r ≡ of_row b r
      by true h = refl
      by false h = let z : ◌≡◌ {A = ℕ} 0 1 = cc in absurd (omega arith)

  pub row_large : not same ≡ false → (p : ℕ) → x ≡ Err p → item_read q i (Err (Faulty (refusal cause.Range p))) ≡ of_row same (spot_read of q i x)
  unfolding item_read spot_read
  row_large h p e = of_row_law h (faulty cause.Range p) ∙ ap (λ (y : Result Spot ℕ). of_row same (spot_read of q i y)) (sym e)

  pub row_value : not same ≡ false → (s : Spot) → x ≡ Ok s → (y : Located) → located_value q i y ≡ spot_value of q i s
      → item_read q i (Ok y) ≡ of_row same (spot_read of q i x)
  unfolding item_read spot_read
  row_value h s e y f =
      ap meaning.value f ∙ of_row_law h (meaning.value (spot_value of q i s)) ∙ ap (λ (z : Result Spot ℕ). of_row same (spot_read of q i z)) (sym e)

module _ (y : Result Located ItemFault) where
  pub list_err : (f : ItemFault) → y ≡ Err f → ListOf y (Err f)
  unfolding list_read item_read
  list_err Unlike e q i = rw e refl
  list_err (Faulty w) e q i = rw e refl

  pub list_good : (x : Located) → y ≡ Ok x → ListOf y (Ok tt)
  unfolding list_read item_read
  list_good x e q i = rw e refl

-- the value in a record, over the bytes that it stands in
pub record_located : (q i : List ℕ) (of : ValueType) (s : Spot) {a : List ℕ} (x : Rattle.value.specs.declared.item.Item.Item) → a ≡ source_bytes q i s.source
    → item_value a x ≡ value_in_record of a s.place → located_value q i (record { source = s.source; item = x }) ≡ spot_value of q i s
record_located q i of s x ea h = rw (← ea) h

module _ (a b : Result (Unit {0}) ItemFault) where
  pub before_ok : (u : Unit {0}) → a ≡ Ok u → b ≡ list_before a b
  before_ok u e = rw e refl

  pub before_good : (f : ItemFault) (u : Unit {0}) → a ≡ Err f → b ≡ Ok u → Err f ≡ list_before a b
  before_good f u e h = rw (e, h) refl

  pub before_fault : (f g : ItemFault) → a ≡ Err f → b ≡ Err g → {w : ItemFault} → w ≡ fault_before f g → Err w ≡ list_before a b
  before_fault f g e h ew = rw (e, h, ew) refl

-- the elements of an array literal, one after the other
list_before_law : (x : Read (Option ScalarValue)) (r : Read (List (Option ScalarValue))) → list_read (before x r) ≡ list_before (list_read x) (list_read r)
unfolding list_read
list_before_law unlike unlike = refl
list_before_law unlike (faulty d o) = refl
list_before_law unlike (meaning.value xs) = refl
list_before_law (faulty c p) unlike = refl
list_before_law (faulty c p) (faulty d o) = refl
list_before_law (faulty c p) (meaning.value xs) = refl
list_before_law (meaning.value x) unlike = refl
list_before_law (meaning.value x) (faulty d o) = refl
list_before_law (meaning.value x) (meaning.value xs) = refl

fault_assoc : (f g h : ItemFault) → fault_before (fault_before f g) h ≡ fault_before f (fault_before g h)
fault_assoc Unlike g h = refl
fault_assoc (Faulty w) Unlike h = refl
fault_assoc (Faulty w) (Faulty v) Unlike = refl
fault_assoc (Faulty w) (Faulty v) (Faulty u) = refl

list_assoc : (a b c : Result (Unit {0}) ItemFault) → list_before (list_before a b) c ≡ list_before a (list_before b c)
list_assoc (Ok u) b c = refl
list_assoc (Err f) (Ok u) c = refl
list_assoc (Err f) (Err g) (Ok u) = refl
list_assoc (Err f) (Err g) (Err h) = ap Err (fault_assoc f g h)

list_last : (a : Result (Unit {0}) ItemFault) → a ≡ list_before a (Ok tt)
list_last (Ok tt) = refl
list_last (Err f) = refl

pub elements_begin : (f : Family) (q : List ℕ) (start count : ℕ) {t : Token} → t ≡ first_element q start
    → list_read (elements f q (element_tokens q start count)) ≡ list_before (Ok tt) (list_read (elements f q (elements_from q t count)))
elements_begin f q start count e = rw e refl

module _ (f : Family) (q : List ℕ) (t : Token) (left : ℕ) (seen : Result (Unit {0}) ItemFault) {whole : Result (Unit {0}) ItemFault} (i : whole ≡ list_before seen (list_read (elements f q (elements_from q t left)))) where
  pub elements_end : left ≤ 0 → seen ≡ whole
  unfolding elements elements_from list_read
  elements_end h = list_last seen ∙ sym (i ∙ ap (λ (k : ℕ). list_before seen (list_read (elements f q (elements_from q t k)))) (let e : left ≡ 0 = omega arith in e))

  pub elements_next : 0 < left → (o : Result Located ItemFault) → item_read q q o ≡ literal f q t → (y : Result (Unit {0}) ItemFault) → ListOf o y → (z : Result (Unit {0}) ItemFault) → z ≡ list_before seen y
      → (u : Token) → u ≡ next_element q t → whole ≡ list_before z (list_read (elements f q (elements_from q u (left - 1))))
  unfolding elements elements_from
  elements_next h o eo y ey z ez u eu =
      i ∙ ap (λ (k : ℕ). list_before seen (list_read (elements f q (elements_from q t k)))) (let e : left ≡ suc (left - 1) = omega arith in e)
      ∙ ap (list_before seen) (list_before_law (literal f q t) (elements f q (elements_from q (next_element q t) (left - 1))))
      ∙ sym (list_assoc seen (list_read (literal f q t)) (list_read (elements f q (elements_from q (next_element q t) (left - 1)))))
      ∙ ap (λ (w : Result (Unit {0}) ItemFault). list_before w (list_read (elements f q (elements_from q (next_element q t) (left - 1))))) (ap (list_before seen) (sym (ey q q ∙ ap list_read eo)) ∙ sym ez)
      ∙ ap (λ (w : Token). list_before z (list_read (elements f q (elements_from q w (left - 1))))) (sym eu)

-- the values of elements that are all good
value_read_law : (p : ℕ) (r : LiteralReading) (x : Option ScalarValue) → literal_at p r ≡ meaning.value x → x ≡ value_read r
unfolding value_read
value_read_law p misfit x e = let z : ◌≡◌ {A = ℕ} 0 1 = cc in absurd (omega arith)
value_read_law p out_of_range x e = let z : ◌≡◌ {A = ℕ} 0 1 = cc in absurd (omega arith)
value_read_law p malformed x e = let z : ◌≡◌ {A = ℕ} 0 1 = cc in absurd (omega arith)
value_read_law p (reads v) x e = cc

one_more_law : (p : ℕ) (l : LiteralReading) (r : Read (List (Option ScalarValue))) (ys : List (Option ScalarValue)) → ((zs : List (Option ScalarValue)) → r ≡ meaning.value zs → zs ≡ ys)
    → (x : Read (Option ScalarValue)) → literal_at p l ≡ x → (xs : List (Option ScalarValue)) → before x r ≡ meaning.value xs → xs ≡ value_read l ∷ ys
one_more_law p l r ys f unlike e xs h = let z : ◌≡◌ {A = ℕ} 0 1 = cc in absurd (omega arith)
one_more_law p l unlike ys f (faulty c o) e xs h = let z : ◌≡◌ {A = ℕ} 0 1 = cc in absurd (omega arith)
one_more_law p l (faulty d s) ys f (faulty c o) e xs h = let z : ◌≡◌ {A = ℕ} 0 1 = cc in absurd (omega arith)
one_more_law p l (meaning.value zs) ys f (faulty c o) e xs h = let z : ◌≡◌ {A = ℕ} 0 1 = cc in absurd (omega arith)
one_more_law p l unlike ys f (meaning.value y) e xs h = let z : ◌≡◌ {A = ℕ} 0 1 = cc in absurd (omega arith)
one_more_law p l (faulty d s) ys f (meaning.value y) e xs h = let z : ◌≡◌ {A = ℕ} 0 1 = cc in absurd (omega arith)
one_more_law p l (meaning.value zs) ys f (meaning.value y) e xs h =
    let c : xs ≡ y ∷ zs = cc in rw (← value_read_law p l y e, ← f zs refl) c

elements_values : (f : Family) (q : List ℕ) (ts : List Token) (xs : List (Option ScalarValue)) → elements f q ts ≡ meaning.value xs → xs ≡ literal_values f q ts
unfolding elements literal_values
elements_values f q [] xs e = cc
elements_values f q (t ∷ ts) xs e =
    one_more_law t.start (read_literal f q t) (elements f q ts) (literal_values f q ts) (elements_values f q ts) (literal f q t) refl xs e

pub elements_good : (f : Family) (q : List ℕ) (ts : List Token) → (Ok tt) ≡ list_read (elements f q ts) → elements f q ts ≡ meaning.value (literal_values f q ts)
unfolding list_read
elements_good f q ts e = go (elements f q ts) refl e
  where
    go : (r : Read (List (Option ScalarValue))) → elements f q ts ≡ r → (Ok tt) ≡ list_read r → r ≡ meaning.value (literal_values f q ts)
    go unlike h g = let z : ◌≡◌ {A = ℕ} 0 1 = cc in absurd (omega arith)
    go (faulty c p) h g = let z : ◌≡◌ {A = ℕ} 0 1 = cc in absurd (omega arith)
    go (meaning.value xs) h g = ap meaning.value (elements_values f q ts xs h)
