-- Laws of both sides together: one for each exit of `src/meet.rt`, `src/property.rt` and `src/lib.rt`.
use Rattle.std.specs.Prelude.{Ok, Err, Result, Option as Optional}
use Rattle.operand.specs.declared.cause.ComparisonRefusal.{ComparisonRefusal}
use Rattle.judge.specs.declared.fault.ItemFault.{ItemFault}
use Rattle.judge.specs.declared.fault.ItemFault.TheVariants.{Unlike, Faulty}
use Prim.Native.Nat.{ℕ, ◌-◌}
use mathlib.Core.Path.{◌≡◌, refl, sym, ap, ◌∙◌}
use mathlib.Core.List.{List}
use mathlib.Core.Bool.{Bool, true, false, not, ◌&&◌, ◌||◌}
use mathlib.Core.Option.{Option, none, some}
use native.Mathlib.Omega.{arith}
use borrow.Author.Tests.{not-true, not-false}
use Rattle.base.specs.Pick.{pick}
use Rattle.base.proofs.Says.{and_both}
use Rattle.base.specs.Part.{part}
use Rattle.record.specs.declared.kind.Family.{Family}
use Rattle.record.specs.declared.kind.ValueType.{ValueType}
use Rattle.token.specs.declared.Token.{Token}
use Rattle.instance.specs.Value.{ScalarValue}
use Rattle.operand.specs.declared.cause.Cause.{Cause}
use Rattle.operand.specs.declared.cause.Cause.TheVariants as cause
use Rattle.place.specs.declared.Spot.{Spot}
use Rattle.place.specs.declared.Located.{Located}
use Rattle.place.specs.declared.Part.{Part}
use Rattle.predicate.specs.Test as test
use Rattle.place.specs.Place.{spot_value, located_value, body_value, literal_values}
use Rattle.judge.specs.declared.left.Left as code-left
use Rattle.judge.specs.declared.left.Left.TheVariants as code
use Rattle.judge.specs.Meaning as meaning
use Rattle.judge.specs.Meaning.{Read, unlike, faulty, elements, of_row}
use Rattle.judge.specs.Answers.{spot_read, left_seen, item_read, list_read, refusal, faulted, refused_at}
use Rattle.record.specs.Kind.{same_row}
use Rattle.record.specs.declared.kind.Family.TheVariants as family
use Rattle.pattern.specs.Regex.{Regex}
use Rattle.pattern.specs.Reading.{is_some}
use Rattle.base.specs.declared.order.Operator.{Operator}
use Rattle.terminal.specs.Terminal.{equality}
use Rattle.syntax.specs.declared.operation.Operation.{Operation}
use Rattle.syntax.specs.declared.left_side.LeftSide.{LeftSide}
use Rattle.short_circuit.specs.declared.Told.{Told}
use Rattle.operand.specs.PatternLiteral.{pattern_of}
use Rattle.value.specs.Compare.{compares}
use Rattle.arrays.specs.Answers.{compared}
use Rattle.like.specs.Like.{Likes}
use Rattle.predicate.specs.Test.{Test, values, arrays, search, truth, steps, performed}
use Rattle.predicate.proofs.Forms.{of_arrays, of_like}
use Rattle.judge.specs.Meaning.{Right, means, both, meet, operator_of, is_negated, ordered, suits, not_null, pattern_by, like_text}
use Rattle.judge.specs.Answers.{judged, settled_one, settled, faulted, refused_at}
use Rattle.judge.proofs.Sides.{elements_good}

-- ---- src/meet.rt
pub ordered_by : (f : Family) {a b c : Bool} → a ≡ same_row f family.Integer → b ≡ same_row f family.Real → c ≡ same_row f family.Datetime → a || (b || c) ≡ ordered f
unfolding ordered
ordered_by f ea eb ec = rw (ea, eb, ec) refl

pub suits_by : (op : Operator) (f : Family) (n : Bool) {a b : Bool} → a ≡ equality op → b ≡ ordered f → a || (not n && b) ≡ suits op f n
suits_by op f n ea eb = rw (ea, eb) refl

module _ (start : ℕ) (allowed : Bool) (x : Result Spot ℕ) (y : Result Located ItemFault) where
  pub settle_row : not allowed ≡ true → Err (refusal cause.Row start) ≡ settled start allowed x y
  unfolding settled
  settle_row h = by allowed h
    where
      by : (b : Bool) → not b ≡ true → Err (refusal cause.Row start) ≡ pick b (settled_one x y start) (Err (refusal cause.Row start))
      by true h = let z : ◌≡◌ {A = ℕ} 0 1 = cc in absurd (omega arith)
      by false h = refl

  allowed_one : not allowed ≡ false → settled start allowed x y ≡ settled_one x y start
  unfolding settled
  allowed_one h = by allowed h
    where
      by : (b : Bool) → not b ≡ false → pick b (settled_one x y start) (Err (refusal cause.Row start)) ≡ settled_one x y start
      by true h = refl
      by false h = let z : ◌≡◌ {A = ℕ} 0 1 = cc in absurd (omega arith)

  pub settle_fault : not allowed ≡ false → (f : ItemFault) → y ≡ Err f → {w : ComparisonRefusal} → w ≡ faulted start x f → Err w ≡ settled start allowed x y
  settle_fault h f e ew = ap Err ew ∙ sym (allowed_one h ∙ rw e refl)

  pub settle_large : not allowed ≡ false → (v : Located) (o : ℕ) → y ≡ Ok v → x ≡ Err o → Err (refusal cause.Range o) ≡ settled start allowed x y
  settle_large h v o e f = sym (allowed_one h ∙ rw (e, f) refl)

  pub settle_ready : not allowed ≡ false → (v : Located) (s : Spot) → y ≡ Ok v → x ≡ Ok s → Ok (s, v) ≡ settled start allowed x y
  settle_ready h v s e f = sym (allowed_one h ∙ rw (e, f) refl)

-- what is settled is what `both` comes to
module _ (of : ValueType) (q i : List ℕ) (k : Option ScalarValue → Option ScalarValue → Test) (start : ℕ) where
  both_settled : Result (Spot × Located) ComparisonRefusal → Result Told ComparisonRefusal
  both_settled (Err w) = Err w
  both_settled (Ok (s, v)) = judged (means (k (spot_value of q i s) (located_value q i v)))

  one_settled : (x : Result Spot ℕ) (y : Result Located ItemFault) → both_settled (settled_one x y start) ≡ judged (both start true (spot_read of q i x) (item_read q i y) k)
  unfolding both_settled judged both spot_read item_read
  one_settled (Err o) (Err Unlike) = refl
  one_settled (Ok s) (Err Unlike) = refl
  one_settled (Err o) (Err (Faulty w)) = refl
  one_settled (Ok s) (Err (Faulty w)) = refl
  one_settled (Err o) (Ok v) = refl
  one_settled (Ok s) (Ok v) = refl

  settled_both : (allowed : Bool) (x : Result Spot ℕ) (y : Result Located ItemFault) → both_settled (settled start allowed x y) ≡ judged (both start allowed (spot_read of q i x) (item_read q i y) k)
  unfolding settled both_settled judged both
  settled_both true x y = one_settled x y
  settled_both false x y = refl

  module _ (allowed : Bool) (x : Result Spot ℕ) (y : Result Located ItemFault) {z : Result (Spot × Located) ComparisonRefusal} (ez : z ≡ settled start allowed x y) where
    pub values_fail : (w : ComparisonRefusal) → z ≡ Err w → Err w ≡ judged (both start allowed (spot_read of q i x) (item_read q i y) k)
    unfolding both_settled
    values_fail w e = ap both_settled (sym e ∙ ez) ∙ settled_both allowed x y

    pub values_ready : (s : Spot) (v : Located) → z ≡ Ok (s, v) → {r : Told} → r ≡ performed (k (spot_value of q i s) (located_value q i v))
        → Ok r ≡ judged (both start allowed (spot_read of q i x) (item_read q i y) k)
    unfolding both_settled judged
    values_ready s v e h = ap Ok h ∙ ap both_settled (sym e ∙ ez) ∙ settled_both allowed x y

-- ANY and EVERY: the record on the left plays no part
module _ (q i : List ℕ) (xs : test.Array) (k : test.Array → Option ScalarValue → Test) (start : ℕ) (d : Spot) where
  search_settled : Result (Spot × Located) ComparisonRefusal → Result Told ComparisonRefusal
  search_settled (Err w) = Err w
  search_settled (Ok (s, v)) = judged (means (k xs (located_value q i v)))

  settled_search : (allowed : Bool) (y : Result Located ItemFault) → search_settled (settled start allowed (Ok d) y) ≡ judged (both start allowed (meaning.value xs) (item_read q i y) k)
  unfolding search_settled settled judged both item_read
  settled_search true (Err Unlike) = refl
  settled_search true (Err (Faulty w)) = refl
  settled_search true (Ok v) = refl
  settled_search false y = refl

  module _ (allowed : Bool) (y : Result Located ItemFault) {z : Result (Spot × Located) ComparisonRefusal} (ez : z ≡ settled start allowed (Ok d) y) where
    pub search_fails : (w : ComparisonRefusal) → z ≡ Err w → Err w ≡ judged (both start allowed (meaning.value xs) (item_read q i y) k)
    unfolding search_settled
    search_fails w e = ap search_settled (sym e ∙ ez) ∙ settled_search allowed y

    pub search_ready : (s : Spot) (v : Located) → z ≡ Ok (s, v) → {r : Told} → r ≡ performed (k xs (located_value q i v))
        → Ok r ≡ judged (both start allowed (meaning.value xs) (item_read q i y) k)
    unfolding search_settled judged
    search_ready s v e h = ap Ok h ∙ ap search_settled (sym e ∙ ez) ∙ settled_search allowed y

-- a comparison of one value tells its truth in one step
pub tell_one : (op : Operator) (x y : Option ScalarValue) {b : Bool} → b ≡ compares op x y → record { holds = b; steps = 1 } ≡ performed (values op x y)
unfolding truth steps
tell_one op x y e = ap (λ (w : Bool). record { holds = w; steps = 1 }) e

-- the left side by its form
module _ (a : LeftSide) (o : Operation) (of : ValueType) (q i : List ℕ) (l : code-left.Left) where
  abbrev Meets : Right → Result Told ComparisonRefusal → Type 0
  Meets r j = j ≡ judged (meet a o of.family (left_seen of q i l) r)

  module _ (n : Bool) (y : Read (Option ScalarValue)) where
    pub one_misshapen : l ≡ code.Misshapen → Meets (meaning.Right.one n y) (Err (refusal cause.Shape a.start))
    unfolding judged meet left_seen
    one_misshapen e = rw e refl

    pub one_many : (b : Optional Part) → l ≡ code.Many b → Meets (meaning.Right.one n y) (Err (refusal cause.Shape a.start))
    unfolding judged meet left_seen
    one_many b e = rw e refl

    module _ {op : Operator} (eo : op ≡ operator_of o) {w : Bool} (ew : w ≡ suits op of.family n) where
      pub one_one : (x : Result Spot ℕ) → l ≡ code.One x → {j : Result Told ComparisonRefusal} → j ≡ judged (both a.start w (spot_read of q i x) y (values op)) → Meets (meaning.Right.one n y) j
      unfolding meet left_seen
      one_one x e h = h ∙ rw (e, ew, eo) refl

      pub one_each : (any : Bool) (b : Optional Part) → l ≡ code.Each any b
          → {j : Result Told ComparisonRefusal} → j ≡ judged (both a.start w (meaning.value (body_value of i b)) y (search a.negated any op)) → Meets (meaning.Right.one n y) j
      unfolding meet left_seen
      one_each any b e h = h ∙ rw (e, ew, eo) refl

  module _ (ys : Read test.Array) where
    pub many_misshapen : l ≡ code.Misshapen → Meets (meaning.Right.many ys) (Err (refusal cause.Shape a.start))
    unfolding judged meet left_seen
    many_misshapen e = rw e refl

    pub many_one : (x : Result Spot ℕ) → l ≡ code.One x → Meets (meaning.Right.many ys) (Err (refusal cause.Shape a.start))
    unfolding judged meet left_seen
    many_one x e = rw e refl

    pub many_each : (any : Bool) (b : Optional Part) → l ≡ code.Each any b → Meets (meaning.Right.many ys) (Err (refusal cause.Shape a.start))
    unfolding judged meet left_seen
    many_each any b e = rw e refl

    pub many_many : {op : Operator} → op ≡ operator_of o → (b : Optional Part) → l ≡ code.Many b
        → {j : Result Told ComparisonRefusal} → j ≡ judged (both a.start (equality op) (meaning.value (body_value of i b)) ys (arrays op)) → Meets (meaning.Right.many ys) j
    unfolding meet left_seen
    many_many eo b e h = h ∙ rw (e, eo) refl

  module _ (r : Read (Regex ℕ)) where
    pub pattern_misshapen : l ≡ code.Misshapen → Meets (meaning.pattern r) (Err (refusal cause.Shape a.start))
    unfolding judged meet left_seen
    pattern_misshapen e = rw e refl

    pub pattern_many : (b : Optional Part) → l ≡ code.Many b → Meets (meaning.pattern r) (Err (refusal cause.Shape a.start))
    unfolding judged meet left_seen
    pattern_many b e = rw e refl

    pub pattern_each : (any : Bool) (b : Optional Part) → l ≡ code.Each any b → Meets (meaning.pattern r) (Err (refusal cause.Shape a.start))
    unfolding judged meet left_seen
    pattern_each any b e = rw e refl

    pub pattern_one : {n : Bool} → n ≡ is_negated o → (x : Result Spot ℕ) → l ≡ code.One x
        → {j : Result Told ComparisonRefusal} → j ≡ judged (both a.start (same_row of.family family.Text) (spot_read of q i x) r (like_text n)) → Meets (meaning.pattern r) j
    unfolding meet left_seen
    pattern_one eo x e h = h ∙ rw (e, eo) refl

-- an array literal
module _ (op : Operator) (start : ℕ) (xs : test.Array) (f : Family) (q : List ℕ) (ts : List Token) where
  abbrev ListMeets : Result Told ComparisonRefusal → Type 0
  ListMeets j = j ≡ judged (both start (equality op) (meaning.value xs) (not_null (elements f q ts)) (arrays op))

  pub list_order : {b : Bool} → b ≡ equality op → not b ≡ true → ListMeets (Err (refusal cause.Row start))
  unfolding judged both
  list_order eb h = let e : equality op ≡ false = sym eb ∙ not-true _ h in rw e refl

  module _ {b : Bool} (eb : b ≡ equality op) (h : not b ≡ false) {r : Result (Unit {0}) ItemFault} (er : r ≡ list_read (elements f q ts)) where
    allowed : equality op ≡ true
    allowed = sym eb ∙ not-false _ h

    read_as : (y : Read (List (Option ScalarValue))) → elements f q ts ≡ y → (j : Result Told ComparisonRefusal) → j ≡ judged (both start true (meaning.value xs) (not_null y) (arrays op)) → ListMeets j
    read_as y e j g = g ∙ rw (allowed, e) refl

    pub list_fault : (w : ItemFault) → r ≡ Err w → {v : ComparisonRefusal} → v ≡ refused_at start w → ListMeets (Err v)
    unfolding list_read judged both
    list_fault w e {v} ev = go (elements f q ts) refl w (sym er ∙ e) (ap Err ev)
      where
        go : (y : Read (List (Option ScalarValue))) → elements f q ts ≡ y → (w : ItemFault) → list_read y ≡ Err w → {j : Result Told ComparisonRefusal} → j ≡ Err (refused_at start w) → ListMeets j
        go unlike g Unlike k h = read_as unlike g _ h
        go unlike g (Faulty z) k h = let z : ◌≡◌ {A = ℕ} 0 1 = cc in absurd (omega arith)
        go (faulty d o) g Unlike k h = let z : ◌≡◌ {A = ℕ} 0 1 = cc in absurd (omega arith)
        go (faulty d o) g (Faulty z) k h = let e : refusal d o ≡ z = cc in read_as (faulty d o) g _ (h ∙ ap Err (sym e))
        go (meaning.value zs) g w k h = let z : ◌≡◌ {A = ℕ} 0 1 = cc in absurd (omega arith)

    pub list_told : r ≡ Ok tt → {x : Told} → x ≡ compared op xs (some (literal_values f q ts)) → ListMeets (Ok x)
    unfolding judged both
    list_told e {x} ex = read_as (meaning.value (literal_values f q ts)) (elements_good f q ts (sym e ∙ er)) (Ok x) (ap Ok (of_arrays x op xs (some (literal_values f q ts)) ex))

-- an array of the instance
module _ (op : Operator) (start : ℕ) (xs ys : test.Array) (same : Bool) {b : Bool} (eb : b ≡ equality op) where
  abbrev BodyMeets : Result Told ComparisonRefusal → Type 0
  BodyMeets j = j ≡ judged (both start (equality op) (meaning.value xs) (of_row same (meaning.value ys)) (arrays op))

  pub bodies_told : b && same ≡ true → {x : Told} → x ≡ compared op xs ys → BodyMeets (Ok x)
  unfolding judged both
  bodies_told h {x} ex = let k = and_both b same h in rw (← eb, k.0, k.1) (ap Ok (of_arrays x op xs ys ex))

  pub bodies_row : b && same ≡ false → BodyMeets (Err (refusal cause.Row start))
  unfolding judged both
  bodies_row h = by b same h eb
    where
      by : (b same : Bool) → b && same ≡ false → b ≡ equality op
          → Err (refusal cause.Row start) ≡ judged (both start (equality op) (meaning.value xs) (of_row same (meaning.value ys)) (arrays op))
      by true true h e = let z : ◌≡◌ {A = ℕ} 0 1 = cc in absurd (omega arith)
      by true false h e = rw (← e) refl
      by false s h e = rw (← e) refl

-- a pattern
module _ (n : Bool) (start : ℕ) (of : ValueType) (q i : List ℕ) (x : Result Spot ℕ) (t : Token) {b : Bool} (eb : b ≡ same_row of.family family.Text) where
  abbrev PatternMeets : Result Told ComparisonRefusal → Type 0
  PatternMeets j = j ≡ judged (both start (same_row of.family family.Text) (spot_read of q i x) (pattern_by t.start (pattern_of q t)) (like_text n))

  pub like_row : not b ≡ true → PatternMeets (Err (refusal cause.Row start))
  unfolding judged both
  like_row h = let e : same_row of.family family.Text ≡ false = sym eb ∙ not-true _ h in rw e refl

  module _ (h : not b ≡ false) where
    textual : same_row of.family family.Text ≡ true
    textual = sym eb ∙ not-false _ h

    pub like_index : (p : ℕ) → x ≡ Err p → PatternMeets (Err (refusal cause.Range p))
    unfolding judged both spot_read
    like_index p e = go (pattern_of q t)
      where
        go : (r : Option (Regex ℕ)) → Err (refusal cause.Range p) ≡ judged (both start (same_row of.family family.Text) (spot_read of q i x) (pattern_by t.start r) (like_text n))
        go none = rw (textual, e) refl
        go (some r) = rw (textual, e) refl

    module _ (s : Spot) (e : x ≡ Ok s) {w : Bool} (ew : w ≡ is_some (pattern_of q t)) where
      pub like_malformed : not w ≡ true → PatternMeets (Err (refusal cause.Pattern t.start))
      unfolding judged both spot_read
      like_malformed g = go (pattern_of q t) (sym ew ∙ not-true _ g)
        where
          go : (r : Option (Regex ℕ)) → is_some r ≡ false
              → Err (refusal cause.Pattern t.start) ≡ judged (both start (same_row of.family family.Text) (spot_read of q i x) (pattern_by t.start r) (like_text n))
          go none k = rw (textual, e) refl
          go (some r) k = let z : ◌≡◌ {A = ℕ} 0 1 = cc in absurd (omega arith)

      pub like_told : not w ≡ false → {y : Told} → Likes q t n (spot_value of q i s) y → PatternMeets (Ok y)
      unfolding judged both spot_read
      like_told g {y} ly = go (pattern_of q t) refl (sym ew ∙ not-false _ g)
        where
          go : (r : Option (Regex ℕ)) → pattern_of q t ≡ r → is_some r ≡ true
              → Ok y ≡ judged (both start (same_row of.family family.Text) (spot_read of q i x) (pattern_by t.start r) (like_text n))
          go none f k = let z : ◌≡◌ {A = ℕ} 0 1 = cc in absurd (omega arith)
          go (some r) f k = rw (textual, e) (ap Ok (of_like y q t n (spot_value of q i s) ly r f))
