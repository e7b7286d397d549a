-- One law for each exit of `src/`.
use Rattle.std.specs.Prelude.{Err, None, Ok, Option, Result, Some}
use Prim.Native.Nat.{ℕ, ◌-◌}
use mathlib.Core.Path.{◌≡◌, refl}
use Rattle.filter.specs.Refusal.{number_of}
use Rattle.filter.specs.declared.refusal.Refusal.{Refusal}
use Rattle.filter.specs.declared.refusal.Answer.{Answer}
use Rattle.filter.specs.declared.refusal.Answer.TheVariants as answer
use Rattle.fault_text.specs.declared.Shown.{Shown}
use Rattle.fault_text.specs.declared.Shown.TheVariants.{Query, Table}
use Rattle.fault_text.specs.FaultText.{shown_of}
use Rattle.run.specs.declared.totals.Totals.{Totals}
use Rattle.mark.specs.Mark as mark
use Rattle.mark.specs.declared.refusal.MarkRefusal.{MarkRefusal}
use Rattle.watch.specs.Watch as watch
use Rattle.watch.specs.declared.refusal.WatchTotals.{WatchTotals}
use Rattle.watch.specs.declared.refusal.WatchRefusal.{WatchRefusal}
use Rattle.conjunction.specs.Conjoin as conjoin
use Rattle.conjunction.specs.declared.refusal.ConjoinRefusal.{ConjoinRefusal}
use Rattle.fql_export.specs.declared.FqlRefusal.{FqlRefusal}
use Rattle.fql_export.specs.declared.FqlAnswer.{FqlAnswer}
use Rattle.fql_export.specs.declared.FqlTotals.{FqlTotals}
use Rattle.fql_export.specs.declared.FqlWatched.{FqlWatched}
use Rattle.fql_export.specs.declared.FqlConjoined.{FqlConjoined}
use Rattle.fql_export.specs.Answers.{refusal_of, answer_of, totals_of, watched_of, conjoined_of, part_of}

module _ (c : Result (Unit {0}) Refusal) where
  pub refusal_none : c ≡ Ok tt → record { number = 0; place = 0 } ≡ refusal_of c
  refusal_none e = rw e refl

  pub refusal_some : (r : Refusal) → c ≡ Err r → {n : ℕ} → n ≡ number_of r.cause → record { number = n; place = r.place } ≡ refusal_of c
  refusal_some r e en = rw (e, en) refl

module _ (a : Result Answer Refusal) where
  pub answer_included : (n : ℕ) → a ≡ Ok (answer.Included n) → record { number = 0; place = 0; included = 1; steps = n } ≡ answer_of a
  answer_included n e = rw e refl

  pub answer_excluded : (n : ℕ) → a ≡ Ok (answer.Excluded n) → record { number = 0; place = 0; included = 0; steps = n } ≡ answer_of a
  answer_excluded n e = rw e refl

  pub answer_refused : (r : Refusal) → a ≡ Err r → {n : ℕ} → n ≡ number_of r.cause → record { number = n; place = r.place; included = 0; steps = 0 } ≡ answer_of a
  answer_refused r e en = rw (e, en) refl

module _ (m : Result Totals MarkRefusal) where
  pub totals_counted : (x : Totals) → m ≡ Ok x → record { number = 0; place = 0; included = x.included; excluded = x.excluded; failed = x.failed } ≡ totals_of m
  totals_counted x e = rw e refl

  pub totals_refused : (r : MarkRefusal) → m ≡ Err r → {n : ℕ} → n ≡ mark.number_of r.cause
      → record { number = n; place = r.place; included = 0; excluded = 0; failed = 0 } ≡ totals_of m
  totals_refused r e en = rw (e, en) refl

module _ (w : Result WatchTotals WatchRefusal) where
  pub watched_counted : (x : WatchTotals) → w ≡ Ok x → record { number = 0; place = 0; ones = x.ones; zeros = x.zeros } ≡ watched_of w
  watched_counted x e = rw e refl

  pub watched_refused : (r : WatchRefusal) → w ≡ Err r → {n : ℕ} → n ≡ watch.number_of r.cause → record { number = n; place = r.place; ones = 0; zeros = 0 } ≡ watched_of w
  watched_refused r e en = rw (e, en) refl

module _ (c : Result ℕ ConjoinRefusal) where
  pub conjoined_length : (n : ℕ) → c ≡ Ok n → record { number = 0; place = 0; query = 0; length = n } ≡ conjoined_of c
  conjoined_length n e = rw e refl

  pub conjoined_refused : (r : ConjoinRefusal) → c ≡ Err r → {n k : ℕ} → n ≡ conjoin.number_of r.cause → k ≡ conjoin.query_of r.cause
      → record { number = n; place = r.place; query = k; length = 0 } ≡ conjoined_of c
  conjoined_refused r e en ek = rw (e, en, ek) refl

module _ (ql tl n p : ℕ) {x : Option Shown} (e : x ≡ shown_of ql tl n p) where
  pub part_none : x ≡ None → record { source = 0; start = 0; length = 0 } ≡ part_of (shown_of ql tl n p) ql tl p
  part_none f = rw (← e, f) refl

  pub part_query : x ≡ Some Query → record { source = 1; start = p; length = ql - p } ≡ part_of (shown_of ql tl n p) ql tl p
  part_query f = rw (← e, f) refl

  pub part_table : x ≡ Some Table → record { source = 2; start = p; length = tl - p } ≡ part_of (shown_of ql tl n p) ql tl p
  part_table f = rw (← e, f) refl
