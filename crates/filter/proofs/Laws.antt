-- One law for each exit of `src/`.
use Rattle.std.specs.Prelude.{Err, IsErr, IsErrAnd, Ok, Result}
use Prim.Native.Nat.{ℕ, ◌+◌, ◌-◌, ◌≤◌, ◌<◌}
use mathlib.Core.Path.{◌≡◌, refl, sym, ap, ◌∙◌, subst}
use mathlib.Core.List.{List}
use mathlib.Core.Bool.{Bool, true, false, not, ◌&&◌}
use native.Mathlib.Omega.{arith}
use borrow.Author.Tests.{ltb-true, ltb-false, not-true, not-false}
use lib.ListN.{length}
use lib.Dec.{ltb}
use Rattle.base.specs.Pick.{pick}
use Rattle.encoding.specs.WellFormed.{first_ill_formed}
use Rattle.table.specs.Table.{FreeOfFaults, IsGood, Reading, table_reading}
use Rattle.table.specs.declared.validate.TableRefusal.{TableRefusal}
use Rattle.token.specs.declared.Token.{Token}
use Rattle.terminal.specs.Terminal.{opening}
use Rattle.syntax.specs.declared.comparison.Comparison.{Comparison}
use Rattle.syntax.specs.declared.fault.Fault.{Fault}
use Rattle.syntax.specs.declared.fault.Cause.TheVariants.{Length, Encoding}
use Rattle.syntax.specs.Scan.{scan, fault}
use Rattle.query_text.specs.declared.join.Join.{Join}
use Rattle.query_text.specs.declared.query.QueryStart.{QueryStart}
use Rattle.query_text.specs.Query.{Comparisons, Query, bad, good, before, last_join, next_comparison, query_from, query_start, query, verdict}
use Rattle.query_text.specs.Text.{text_verdict, encoded_verdict}
use Rattle.query_text.specs.Tree.{holds, State, live, total, step}
use Rattle.query_text.proofs.Laws.{from_out, from_bad, from_last, from_more}
use Rattle.short_circuit.specs.declared.Told.{Told}
use Rattle.short_circuit.specs.Walk.{told, initial, steps_if, walk_query}
use Rattle.short_circuit.proofs.Loop.{walk_good, walk_called, walk_out, walk_none, walk_last, walk_more}
use Rattle.instance.specs.Fault.{Conformity, conforming, conformity}
use Rattle.instance.specs.Noted.{notes_after}
use Rattle.instance.proofs.NotedPlaces.{few_kinds}
use Rattle.instance.specs.declared.conform.InstanceRefusal.{InstanceRefusal}
use Rattle.instance.proofs.Decides.{IsLong, long_exactly}
use Rattle.operand.specs.declared.cause.ComparisonRefusal.{ComparisonRefusal}
use Rattle.judge.specs.Meaning.{Meant, fails, means}
use Rattle.judge.specs.Environment.{entry_noted}
use Rattle.judge.proofs.Named.{noted_placed}
use Rattle.judge.specs.Answers.{judged}
use Rattle.filter.specs.Refusal.{Call, refused, compares, call_query, call_text, call_under, call_of}
use Rattle.filter.specs.Check as check
use Rattle.filter.specs.Check.{passes, breaks, first, check_comparison, check_all, as_checked, check_call}
use Rattle.filter.specs.Meaning.{truth_of, steps_of, query_steps}
use Rattle.filter.specs.Evaluate.{meant_in, answer, answer_if, evaluate, steps_call, steps}
use Rattle.filter.specs.Noted.{meant_noted, evaluate_noted}
use Rattle.filter.specs.Answers.{check_query, truth_noted, steps_noted}
use Rattle.filter.specs.declared.refusal.Cause.TheVariants as cause
use Rattle.filter.specs.declared.refusal.Refusal.{Refusal}
use Rattle.filter.specs.declared.refusal.Answer.{Answer}
use Rattle.filter.proofs.Returned.{returned}
use Rattle.filter.proofs.Agree.{Agrees, noted_agrees}
use Rattle.filter.proofs.QueryAgree.{Tied, truth_call, tied, noted_tied}
use Rattle.filter.proofs.Noted.{walked_evaluates}
use Rattle.filter.proofs.Demand3.{refused_same}
use Rattle.filter.proofs.Size.{steps_few}

-- ---- a comparison, judged in any instance by any notes
abbrev of_comparison : ComparisonRefusal → Refusal
of_comparison k = record { cause = cause.Comparison k.cause; place = k.place }

fails_refused : (v : check.Verdict) (m : Meant) → Agrees v m → (k : ComparisonRefusal) → Err k ≡ judged m → Err (of_comparison k) ≡ as_checked v
unfolding judged
fails_refused passes (means x) a k e = let z : ◌≡◌ {A = ℕ} 0 1 = cc in absurd (omega arith)
fails_refused passes (fails c o) a k e = absurd a
fails_refused (breaks c o) (means x) a k e = absurd a
fails_refused (breaks c o) (fails d r) (f, g) k e =
    let ek : k ≡ record { cause = d; place = r } = cc in
    ap Err (ap of_comparison ek ∙ rw (f, g) refl)

tells_accepted : (v : check.Verdict) (m : Meant) → Agrees v m → (x : Told) → Ok x ≡ judged m → Ok tt ≡ as_checked v
unfolding judged
tells_accepted passes m a x e = refl
tells_accepted (breaks c o) (means y) a x e = absurd a
tells_accepted (breaks c o) (fails d r) a x e = let z : ◌≡◌ {A = ℕ} 0 1 = cc in absurd (omega arith)

module _ (q t i notes : List ℕ) (c : Comparison) {r : Result Told ComparisonRefusal} (er : r ≡ judged (meant_noted q t i notes c)) where
  pub comparison_fails : (k : ComparisonRefusal) → r ≡ Err k → {z : Result (Unit {0}) Refusal} → IsErr z × IsErrAnd z (λ x. x ≡ record { cause = cause.Comparison k.cause; place = k.place }) → z ≡ as_checked (check_comparison q t c)
  comparison_fails k e g = returned g ∙ fails_refused (check_comparison q t c) (meant_noted q t i notes c) (noted_agrees q t i notes c) k (sym e ∙ er)

  pub comparison_tells : (x : Told) → r ≡ Ok x → Ok tt ≡ as_checked (check_comparison q t c)
  comparison_tells x e = tells_accepted (check_comparison q t c) (meant_noted q t i notes c) (noted_agrees q t i notes c) x (sym e ∙ er)

-- ---- the comparisons of a text that the grammar takes
first_refused : (v u : check.Verdict) (x : Refusal) → Err x ≡ as_checked v → Err x ≡ as_checked (first v u)
unfolding first
first_refused passes u x e = let z : ◌≡◌ {A = ℕ} 0 1 = cc in absurd (omega arith)
first_refused (breaks c p) u x e = e

first_accepted : (v u : check.Verdict) → Ok tt ≡ as_checked v → as_checked (first v u) ≡ as_checked u
unfolding first
first_accepted passes u e = refl
first_accepted (breaks c p) u e = let z : ◌≡◌ {A = ℕ} 0 1 = cc in absurd (omega arith)

no_verdict : (f : Fault) → ◌≡◌ {A = Result (Unit {0}) Fault} (Err f) (Ok tt) → ⊥
no_verdict f e = let z : ◌≡◌ {A = ℕ} 0 1 = cc in omega arith

module _ (q t : List ℕ) where
  before_refused : (c : Comparison) (j : Join) (r : Query) (x : Refusal) → verdict (before c j r) ≡ Ok tt → Err x ≡ as_checked (check_comparison q t c)
      → Err x ≡ check_query q t (before c j r)
  unfolding before verdict check_all
  before_refused c j (bad f) x ok e = absurd (no_verdict f ok)
  before_refused c j (good l) x ok e = first_refused (check_comparison q t c) (check_all q t l) x e

  before_accepted : (c : Comparison) (j : Join) (r : Query) → Ok tt ≡ as_checked (check_comparison q t c) → check_query q t (before c j r) ≡ check_query q t r
  unfolding before check_all
  before_accepted c j (bad f) e = refl
  before_accepted c j (good l) e = first_accepted (check_comparison q t c) (check_all q t l) e

  before_verdict : (c : Comparison) (j : Join) (r : Query) → verdict (before c j r) ≡ verdict r
  unfolding before verdict
  before_verdict c j (bad f) = refl
  before_verdict c j (good l) = refl

  -- `n` comparisons are read
  module _ (grouped : Bool) (token : Token) (n : ℕ) {whole : Result (Unit {0}) Refusal} (i : whole ≡ check_query q t (query_from (64 - n) (scan q) grouped token))
      (ok : verdict (query_from (64 - n) (scan q) grouped token) ≡ Ok tt) where
    pub checked_out : 64 ≤ n → Ok tt ≡ whole
    checked_out h = sym (i ∙ ap (check_query q t) (from_out (scan q) grouped token (64 - n) (opening token) (omega arith) refl))

    module _ (h : n < 64) {r : Result (Comparison × Join × Token) Fault} (e : r ≡ next_comparison (scan q) grouped token) where
      some : 0 < 64 - n
      some = omega arith

      pub checked_none : (f : Fault) → r ≡ Err f → Ok tt ≡ whole
      checked_none f g = sym (i ∙ ap (check_query q t) (from_bad (scan q) grouped token r e (64 - n) f some g))

      module _ (c : Comparison) (j : Join) (u : Token) (g : r ≡ Ok (c, j, u)) {z : Result (Unit {0}) Refusal} (ez : z ≡ as_checked (check_comparison q t c)) where
        abbrev rest : Query
        rest = query_from (64 - (n + 1)) (scan q) grouped u

        further : (b : Bool) → b ≡ last_join j → b ≡ false → query_from (64 - n) (scan q) grouped token ≡ before c j rest
        further b eb y =
            let m : (64 - n) - 1 ≡ 64 - (n + 1) = omega arith in
            from_more (scan q) grouped token r e c j u g b eb (64 - n) some y ∙ ap (λ (k : ℕ). before c j (query_from k (scan q) grouped u)) m

        pub checked_refused : (x : Refusal) → z ≡ Err x → Err x ≡ whole
        unfolding check_all
        checked_refused x f = by (last_join j) refl
          where
            by : (b : Bool) → b ≡ last_join j → Err x ≡ whole
            by true y = sym f ∙ ez ∙ sym (i ∙ ap (check_query q t) (from_last (scan q) grouped token r e c j u g true y (64 - n) some refl))
            by false y =
                let m = further false y refl in
                before_refused c j rest x (ap verdict (sym m) ∙ ok) (sym f ∙ ez) ∙ sym (i ∙ ap (check_query q t) m)

        module _ (a : z ≡ Ok tt) {b : Bool} (eb : b ≡ last_join j) where
          pub checked_last : b ≡ true → Ok tt ≡ whole
          unfolding check_all
          checked_last y = sym a ∙ ez ∙ sym (i ∙ ap (check_query q t) (from_last (scan q) grouped token r e c j u g b eb (64 - n) some y))

          pub checked_more : b ≡ false → whole ≡ check_query q t rest
          checked_more y = i ∙ ap (check_query q t) (further b eb y) ∙ before_accepted c j rest (sym a ∙ ez)

          pub taken_more : b ≡ false → verdict rest ≡ Ok tt
          taken_more y = sym (before_verdict c j rest) ∙ ap verdict (sym (further b eb y)) ∙ ok

  -- as the loop begins
  module _ (b : QueryStart) (e : b ≡ query_start (scan q)) where
    begun : query_from 64 (scan q) b.grouped b.token ≡ query q
    unfolding query
    begun = ap (λ (x : QueryStart). query_from 64 (scan q) x.grouped x.token) e

    pub begins_taken : verdict (query q) ≡ Ok tt → verdict (query_from 64 (scan q) b.grouped b.token) ≡ Ok tt
    begins_taken h = ap verdict begun ∙ h

    pub begins_checked : {x : Result (Unit {0}) Refusal} → x ≡ check_query q t (query_from 64 (scan q) b.grouped b.token) → x ≡ check_query q t (query q)
    begins_checked h = h ∙ ap (check_query q t) begun

-- ---- the text, and the table before it
module _ (q t : List ℕ) where
  -- a text that is taken is a query
  pub well_formed_law : text_verdict q ≡ Ok tt → verdict (query q) ≡ Ok tt
  unfolding text_verdict encoded_verdict
  well_formed_law e = go (ltb 4096 (length q)) (first_ill_formed q) e
    where
      go : (b : Bool) (u : Result (Unit {0}) ℕ) → pick b (Err (fault Length 0)) (encoded_verdict q u) ≡ Ok tt → verdict (query q) ≡ Ok tt
      go true u h = absurd (no_verdict (fault Length 0) h)
      go false (Err p) h = absurd (no_verdict (fault Encoding p) h)
      go false (Ok all) h = h

  pub taken_query : {v : Result (Unit {0}) Fault} → v ≡ text_verdict q → v ≡ Ok tt → verdict (query q) ≡ Ok tt
  taken_query ev e = well_formed_law (sym ev ∙ e)

  query_checked : (r : Query) → verdict r ≡ Ok tt → check_query q t r ≡ check_call q t (call_query r)
  unfolding verdict
  query_checked (bad f) e = absurd (no_verdict f e)
  query_checked (good l) e = refl

  module _ {r : Reading} (er : r ≡ table_reading t) where
    pub table_refused : (f : TableRefusal) → r ≡ Err f → {z : Result (Unit {0}) Refusal} → IsErr z × IsErrAnd z (λ x. x ≡ record { cause = cause.Table f.cause; place = f.place })
        → z ≡ check.check q t
    unfolding check.check call_of
    table_refused f e g = returned g ∙ sym (ap (λ (x : Reading). check_call q t (call_under q x)) (sym er ∙ e))

    module _ (n : ℕ) (e : r ≡ Ok n) {v : Result (Unit {0}) Fault} (ev : v ≡ text_verdict q) where
      under : check_call q t (call_text q v) ≡ check.check q t
      unfolding check.check call_of
      under = ap (λ (x : Result (Unit {0}) Fault). check_call q t (call_text q x)) ev ∙ sym (ap (λ (x : Reading). check_call q t (call_under q x)) (sym er ∙ e))

      pub text_refused : (f : Fault) → v ≡ Err f → {z : Result (Unit {0}) Refusal} → IsErr z × IsErrAnd z (λ x. x ≡ record { cause = cause.Text f.cause; place = f.place }) → z ≡ check.check q t
      text_refused f h g = returned g ∙ sym (ap (λ (x : Result (Unit {0}) Fault). check_call q t (call_text q x)) h) ∙ under

      pub text_taken : v ≡ Ok tt → {x : Result (Unit {0}) Refusal} → x ≡ check_query q t (query q) → x ≡ check.check q t
      text_taken h g =
          g ∙ query_checked (query q) (well_formed_law (sym ev ∙ h)) ∙ sym (ap (λ (x : Result (Unit {0}) Fault). check_call q t (call_text q x)) h) ∙ under

-- a query is accepted under a table free of 2 and 3 only
pub accepted_free : (q t : List ℕ) → check.check q t ≡ Ok tt → FreeOfFaults t
unfolding check.check call_of
accepted_free q t e = go (table_reading t) e
  where
    go : (r : Reading) → check_call q t (call_under q r) ≡ Ok tt → IsGood r
    go (Ok n) h = tt
    go (Err f) h = let z : ◌≡◌ {A = ℕ} 0 1 = cc in absurd (omega arith)

-- ---- evaluation
pub accepts : (q t : List ℕ) {v : Result (Unit {0}) Refusal} → v ≡ check.check q t → v ≡ Ok tt → check.check q t ≡ Ok tt
accepts q t ev e = sym ev ∙ e

module _ (q t i : List ℕ) {v : Result (Unit {0}) Refusal} (ev : v ≡ check.check q t) where
  pub evaluate_refused : (r : Refusal) → v ≡ Err r → Err r ≡ evaluate q t i
  evaluate_refused r e = sym (refused_same (conformity t i) (check.check q t) (evaluate q t i) (truth_call (meant_in q t i) (call_of q t)) _ (tied q t i) r (sym ev ∙ e))

-- a call that isn't refused before its comparisons has those of the query
apart : (c : Rattle.filter.specs.declared.refusal.Cause.Cause) (p : ℕ) (l : Comparisons) → refused c p ≡ compares l → ⊥
apart c p l e = let z : ◌≡◌ {A = ℕ} 0 1 = cc in omega arith

call_query_law : (r : Query) (l : Comparisons) → call_query r ≡ compares l → r ≡ good l
call_query_law (bad f) l e = absurd (apart _ _ l e)
call_query_law (good k) l e = cc

call_text_law : (q : List ℕ) (v : Result (Unit {0}) Fault) (l : Comparisons) → call_text q v ≡ compares l → query q ≡ good l
call_text_law q (Err f) l e = absurd (apart _ _ l e)
call_text_law q (Ok tt) l e = call_query_law (query q) l e

call_under_law : (q : List ℕ) (r : Reading) (l : Comparisons) → call_under q r ≡ compares l → query q ≡ good l
call_under_law q (Err f) l e = absurd (apart _ _ l e)
call_under_law q (Ok n) l e = call_text_law q (text_verdict q) l e

pub call_good : (q t : List ℕ) (l : Comparisons) → call_of q t ≡ compares l → query q ≡ good l
unfolding call_of
call_good q t l e = call_under_law q (table_reading t) l e

-- an instance that conforms isn't too long
pub short : (t i : List ℕ) {k : Conformity} → k ≡ conformity t i → k ≡ conforming → length i ≤ 65535
short t i ek e = go (ltb 65535 (length i)) refl
  where
    go : (b : Bool) → ltb 65535 (length i) ≡ b → length i ≤ 65535
    go true f = absurd (subst IsLong (sym ek ∙ e) ((long_exactly t i).1 (ltb-true 65535 (length i) f)))
    go false f = ltb-false 65535 (length i) f

-- what an accepted query's evaluation comes to
tied_accepted : (k : Conformity) (c : Result (Unit {0}) Refusal) (a : Result Answer Refusal) (b : Bool) (n : ℕ) → c ≡ Ok tt → Tied k c a b n → a ≡ answer_if k b n
tied_accepted k (Ok tt) a b n e h = h
tied_accepted k (Err r) a b n e h = let z : ◌≡◌ {A = ℕ} 0 1 = cc in absurd (omega arith)

module _ (q t i : List ℕ) (accepted : check.check q t ≡ Ok tt) where
  pub evaluates : evaluate q t i ≡ answer_if (conformity t i) (truth_call (meant_in q t i) (call_of q t)) (steps q t i)
  evaluates =
      tied_accepted (conformity t i) (check.check q t) (evaluate q t i) (truth_call (meant_in q t i) (call_of q t)) (steps q t i) accepted (tied q t i)

  pub evaluate_nonconforming : {k : Conformity} → k ≡ conformity t i → (f : InstanceRefusal) → k ≡ Err f → Err (record { cause = cause.Instance f.cause; place = f.place }) ≡ evaluate q t i
  evaluate_nonconforming ek f e = sym (evaluates ∙ ap (λ (x : Conformity). answer_if x (truth_call (meant_in q t i) (call_of q t)) (steps q t i)) (sym ek ∙ e))

  pub nonconforming_returned : {k : Conformity} → k ≡ conformity t i → (f : InstanceRefusal) → k ≡ Err f
      → {z : Result Answer Refusal} → IsErr z × IsErrAnd z (λ x. x ≡ record { cause = cause.Instance f.cause; place = f.place }) → z ≡ evaluate q t i
  nonconforming_returned ek f e g = returned g ∙ evaluate_nonconforming ek f e

  call_refused : (c : Rattle.filter.specs.declared.refusal.Cause.Cause) (p : ℕ) → call_of q t ≡ refused c p → ⊥
  unfolding check.check
  call_refused c p e =
      let f : Ok tt ≡ check_call q t (refused c p) = sym accepted ∙ ap (check_call q t) e in
      let z : ◌≡◌ {A = ℕ} 0 1 = cc in
      omega arith

  -- by notes, whatever is noted
  module _ (notes : List ℕ) where
    judged_all : (c : Call) → call_of q t ≡ c
        → walk_query (truth_noted q t i notes) (steps_noted q t i notes) initial 0 (query q) ≡ told (truth_call (meant_noted q t i notes) c) (steps_call (meant_noted q t i notes) c)
    unfolding query_steps
    judged_all (refused c p) e = absurd (call_refused c p e)
    judged_all (compares l) e = walk_good (truth_noted q t i notes) (steps_noted q t i notes) q l (call_good q t l e)

    pub noted_answers : (b : QueryStart) → b ≡ query_start (scan q)
        → {x : Told} → x ≡ walk_query (truth_noted q t i notes) (steps_noted q t i notes) initial 0 (query_from 64 (scan q) b.grouped b.token)
        → {a : Answer} → a ≡ answer x.holds x.steps → Ok a ≡ evaluate_noted q t i notes
    noted_answers b eb ex ea =
        ap Ok ea
        ∙ ap (λ (y : Told). Ok (answer y.holds y.steps))
        (walk_called (truth_noted q t i notes) (steps_noted q t i notes) q b eb ex ∙ judged_all (call_of q t) refl)
        ∙ sym (tied_accepted conforming (check.check q t) (evaluate_noted q t i notes) (truth_call (meant_noted q t i notes) (call_of q t))
        (steps_call (meant_noted q t i notes) (call_of q t)) accepted (noted_tied q t i notes))

-- the notes that a walk over the instance has left
module _ (q t i notes : List ℕ) {k : Conformity} (ek : k ≡ conformity t i) (e : k ≡ conforming) where
  pub walked_answers : check.check q t ≡ Ok tt → 128 ≤ length notes → {new : List ℕ} → new ≡ notes_after t i notes → {a : Answer} → Ok a ≡ evaluate_noted q t i new → Ok a ≡ evaluate q t i
  walked_answers accepted room en ea =
      ea ∙ ap (evaluate_noted q t i) en ∙ walked_evaluates q t i notes (sym ek ∙ e) (omega (arith, few_kinds t (accepted_free q t accepted)))

-- ---- a comparison, if it is judged
module _ (q t i notes : List ℕ) (c : Comparison) (live : Bool) where
  abbrev JudgedIf : Told → Type 0
  JudgedIf x = x ≡ told (live && truth_noted q t i notes c) (steps_if live (steps_noted q t i notes c))

  pub skipped : not live ≡ true → {x : Told} → x ≡ told false 0 → JudgedIf x
  skipped h ex = ex ∙ by (meant_noted q t i notes c) live (not-true _ h)
    where
      by : (m : Meant) (b : Bool) → b ≡ false → told false 0 ≡ told (b && truth_of m) (steps_if b (steps_of m))
      by m b e = rw e refl

  module _ (h : not live ≡ false) {r : Result Told ComparisonRefusal} (er : r ≡ judged (meant_noted q t i notes c)) where
    live_told : (m : Meant) → told (truth_of m) (steps_of m) ≡ told (live && truth_of m) (steps_if live (steps_of m))
    live_told m = by live (not-false _ h)
      where
        by : (b : Bool) → b ≡ true → told (truth_of m) (steps_of m) ≡ told (b && truth_of m) (steps_if b (steps_of m))
        by b e = rw e refl

    failed_told : (m : Meant) (k : ComparisonRefusal) → Err k ≡ judged m → told false 0 ≡ told (truth_of m) (steps_of m)
    unfolding judged truth_of steps_of
    failed_told (fails c o) k e = refl
    failed_told (means x) k e = let z : ◌≡◌ {A = ℕ} 0 1 = cc in absurd (omega arith)

    tells_told : (m : Meant) (x : Told) → Ok x ≡ judged m → x ≡ told (truth_of m) (steps_of m)
    unfolding judged truth_of steps_of
    tells_told (fails c o) x e = let z : ◌≡◌ {A = ℕ} 0 1 = cc in absurd (omega arith)
    tells_told (means y) x e = cc

    pub judged_nothing : (k : ComparisonRefusal) → r ≡ Err k → {x : Told} → x ≡ told false 0 → JudgedIf x
    judged_nothing k e ex = ex ∙ failed_told (meant_noted q t i notes c) k (sym e ∙ er) ∙ live_told (meant_noted q t i notes c)

    pub judged_told : (x : Told) → r ≡ Ok x → JudgedIf x
    judged_told x e = tells_told (meant_noted q t i notes c) x (sym e ∙ er) ∙ live_told (meant_noted q t i notes c)

    pub judged_few : (x : Told) → r ≡ Ok x → x.steps ≤ 1 + length i
    judged_few x e =
        omega (arith, steps_few q t i (entry_noted q t i notes) (noted_placed q t i notes) c, ap (λ (y : Told). y.steps) (tells_told (meant_noted q t i notes c) x (sym e ∙ er)))

pub untold_few : {x : Told} (n : ℕ) → x ≡ told false 0 → x.steps ≤ 1 + n
untold_few n e = omega (arith, ap (λ (y : Told). y.steps) e)

-- ---- the walk of a query's comparisons, of which `n` are read
module _ (q t i notes : List ℕ) (grouped : Bool) (token : Token) (n : ℕ) (s : State) (k : ℕ) {whole : Told}
    (w : whole ≡ walk_query (truth_noted q t i notes) (steps_noted q t i notes) s k (query_from (64 - n) (scan q) grouped token)) where
  pub walked_out : 64 ≤ n → {x : Told} → x ≡ told false 0 → x ≡ whole
  walked_out h ex = ex ∙ walk_out (truth_noted q t i notes) (steps_noted q t i notes) q grouped token (64 - n) s k w (omega arith)

  module _ (h : n < 64) {r : Result (Comparison × Join × Token) Fault} (e : r ≡ next_comparison (scan q) grouped token) where
    pub walked_none : (f : Fault) → r ≡ Err f → {x : Told} → x ≡ told false 0 → x ≡ whole
    walked_none f g ex = ex ∙ walk_none (truth_noted q t i notes) (steps_noted q t i notes) q grouped token (64 - n) s k w (omega arith) e f g

    module _ (c : Comparison) (j : Join) (u : Token) (g : r ≡ Ok (c, j, u)) {b : Bool} (eb : b ≡ live s) {o : Told}
        (eo : o ≡ told (b && truth_noted q t i notes c) (steps_if b (steps_noted q t i notes c))) {z : Bool} (ez : z ≡ last_join j) where
      pub walked_last : {x : Bool} → z ≡ true → x ≡ total s o.holds → told x (k + o.steps) ≡ whole
      walked_last y f =
          walk_last (truth_noted q t i notes) (steps_noted q t i notes) q grouped token (64 - n) s k w (omega arith) e c j u g eb eo ez y f

      pub walked_more : (p : State) → z ≡ false → p ≡ step j s o.holds
          → whole ≡ walk_query (truth_noted q t i notes) (steps_noted q t i notes) p (k + o.steps) (query_from (64 - (n + 1)) (scan q) grouped u)
      walked_more p y f =
          let m : (64 - n) - 1 ≡ 64 - (n + 1) = omega arith in
          walk_more (truth_noted q t i notes) (steps_noted q t i notes) q grouped token (64 - n) s k w (omega arith) e c j u g eb eo ez p y f
          ∙ ap (λ (l : ℕ). walk_query (truth_noted q t i notes) (steps_noted q t i notes) p (k + o.steps) (query_from l (scan q) grouped u)) m
