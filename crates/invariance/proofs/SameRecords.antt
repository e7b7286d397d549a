-- 02 Q-3: only the properties that a query names count; what else two conforming instances hold, how long they are and which further records they have doesn't.
use Rattle.std.specs.Prelude.{Err, Ok, Result}
use Prim.Native.Nat.{ℕ, ◌≤◌}
use mathlib.Core.Path.{◌≡◌, refl, sym, ap, ap₂, ◌∙◌}
use mathlib.Core.List.{List, ◌++◌}
use mathlib.Core.Option.{Option, none, some}
use lib.ListN.{length, get_elem?}
use lib.Dec.{eqb}
use Rattle.base.specs.Pick.{pick}
use Rattle.record.specs.Record.{record_at, records, Fit}
use Rattle.record.specs.Kind.{kind_of}
use Rattle.record.specs.declared.read.RecordAt.{RecordAt}
use Rattle.record.specs.declared.read.RecordAt.TheVariants.{Whole, Broken, End}
use Rattle.table.specs.Properties.{kinds_of}
use Rattle.instance.specs.Conforms.{Conforms}
use Rattle.instance.specs.Fault.{Conformity, conformity}
use Rattle.instance.specs.Start.{start_of}
use Rattle.instance.specs.Value.{Value, null, property, body_value, value_in, value_at, entry_at, environment_under, environment}
use Rattle.instance.proofs.Decides.{conforms_no_fault}
use Rattle.instance.proofs.Built.{appended_conforms}
use Rattle.instance.proofs.Environment.{environment_stays}
use Rattle.short_circuit.proofs.Loop.{joined}
use Rattle.judge.specs.Environment.{entry_named}
use Rattle.filter.specs.Refusal.{Call, refused, compares, call_of}
use Rattle.filter.specs.Check.{check}
use Rattle.filter.specs.Meaning.{QueryMeaning, query_meaning, query_steps}
use Rattle.filter.specs.Evaluate.{meant_in, answer_of, evaluate_call, evaluate}
use Rattle.filter.specs.Demand3.{Answered}
use Rattle.filter.specs.declared.refusal.Answer.{Answer}
use Rattle.filter.specs.declared.refusal.Answer.TheVariants.{Included, Excluded}
use Rattle.filter.proofs.Laws.{call_good}
use Rattle.filter.proofs.Demand3.{demand3}
use Rattle.invariance.specs.NamedProperties.{Member, named_in, named_call, named_properties}
use Rattle.invariance.specs.SameRecords.{Held, nothing, held, held_in, held_for, SameRecords, SameValues, SameBut, SameVerdict, included, excluded}
use Rattle.invariance.proofs.Members.{member_distinct}
use Rattle.invariance.proofs.SameMeaning.{meaning_same, steps_same}
use Rattle.invariance.proofs.WithinTable.{named_within}
use Rattle.filter.specs.declared.refusal.Refusal.{Refusal}

-- ---- what is read depends on the record alone
value_held : (asked : ℕ) → Held → Value
value_held asked nothing = null
value_held asked (held kind body) = pick (eqb kind 0) null (body_value (kind_of asked) body)

value_held_law : (k : ℕ) (i : List ℕ) (n : ℕ) → value_at k i (start_of i n) ≡ value_held k (held_for i n)
unfolding value_at held_for value_held
value_held_law k i n = go (record_at i (start_of i n))
  where
    go : (r : RecordAt) → value_in k i r ≡ value_held k (held_in i r)
    go (Whole kind start len next) = refl
    go Broken = refl
    go End = refl

entry_held : (t i j : List ℕ) (n : ℕ) → held_for i n ≡ held_for j n → environment t i n ≡ environment t j n
unfolding environment_under
entry_held t i j n h = go (get_elem? (kinds_of t) n)
  where
    go : (k : Option ℕ) → entry_at k i (start_of i n) ≡ entry_at k j (start_of j n)
    go none = refl
    go (some k) = ap (property k) (value_held_law k i n ∙ ap (value_held k) h ∙ sym (value_held_law k j n))

pub records_values : (ns t i j : List ℕ) → SameRecords ns i j → SameValues ns t i j
records_values ns t i j h n w = entry_held t i j n (h n w)

pub unnamed_records : (q t i j : List ℕ) (n : ℕ) → (Member n (named_properties q t) → ⊥) → SameBut n t i j → SameRecords (named_properties q t) i j
unnamed_records q t i j n out h m w = h m (named_within q t m w) (λ e. out (rw e at w))

-- ---- the theorem
module _ (q t i j : List ℕ) (c : Conforms t i) (d : Conforms t j) where
  call_same : (x : Call) → call_of q t ≡ x → SameValues (named_call q t x) t i j → evaluate_call q t i x ≡ evaluate_call q t j x
  unfolding entry_named
  call_same (refused r p) e h = refl
  call_same (compares l) e h =
      let read = joined q l (call_good q t l e) in
      let agree : SameValues (named_in q t l) t i j = λ n w. h n (member_distinct n (named_in q t l) w) in
      ap (λ (k : Conformity). answer_of k (query_meaning (meant_in q t i) l) (query_steps (meant_in q t i) l)) (conforms_no_fault t i c ∙ sym (conforms_no_fault t j d))
      ∙ ap₂ (λ (m : QueryMeaning) (n : ℕ). answer_of (conformity t j) m n)
      (meaning_same q t (environment t i) (environment t j) l read agree)
      (steps_same q t (environment t i) (environment t j) l read agree)

  -- that the same is read is enough
  pub same_values : SameValues (named_properties q t) t i j → evaluate q t i ≡ evaluate q t j
  unfolding evaluate named_properties
  same_values h = call_same (call_of q t) refl h

  -- THE THEOREM: the answer with its steps, or number and place of the refusal
  pub same_records : SameRecords (named_properties q t) i j → evaluate q t i ≡ evaluate q t j
  same_records h = same_values (records_values (named_properties q t) t i j h)

  -- ---- in an operator's words
  -- an accepted query: both are included or both excluded, in as many steps
  pub same_verdict : check q t ≡ Ok tt → SameRecords (named_properties q t) i j → SameVerdict (evaluate q t i) (evaluate q t j)
  same_verdict a h = go (evaluate q t i) (evaluate q t j) (same_records h) ((demand3 q t i c).answers.0 a)
    where
      go : (x y : Result Answer Refusal) → x ≡ y → Answered x → SameVerdict x y
      go (Ok (Included n)) y e w = rw (sym e) included
      go (Ok (Excluded n)) y e w = rw (sym e) excluded
      go (Err r) y e w = absurd w

  -- a change to one property that isn't named changes nothing
  pub unnamed_changed : (n : ℕ) → (Member n (named_properties q t) → ⊥) → SameBut n t i j → evaluate q t i ≡ evaluate q t j
  unnamed_changed n out h = same_records (unnamed_records q t i j n out h)

-- records of a subclass change nothing
pub subclass_same : (q t i more : List ℕ) → Conforms t i → Fit (records more 0) → length (i ++ more) ≤ 65535
    → Conforms t (i ++ more) × (evaluate q t (i ++ more) ≡ evaluate q t i)
subclass_same q t i more c f h =
    let d = appended_conforms t i more c f h in
    (d, same_values q t (i ++ more) i d c (λ n w. environment_stays t i more c n))
