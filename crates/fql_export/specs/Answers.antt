-- The engine's answers as numbers, for C: number 0 where there is no refusal.
use Rattle.std.specs.Prelude.{ℕ, Err, Ok, Option, Result}
use Rattle.filter.specs.Refusal.{number_of}
use Rattle.filter.specs.declared.refusal.Answer.{Answer}
use Rattle.filter.specs.declared.refusal.Answer.TheVariants as answer
use Rattle.fault_text.specs.declared.Shown.{Shown}
use Rattle.fault_text.specs.Part as part
use Rattle.mark.specs.Mark as mark
use Rattle.watch.specs.Watch as watch
use Rattle.conjunction.specs.Conjoin as conjoin
use Rattle.fql_export.specs.declared.FqlRefusal.{FqlRefusal}
use Rattle.fql_export.specs.declared.FqlAnswer.{FqlAnswer}
use Rattle.fql_export.specs.declared.FqlTotals.{FqlTotals}
use Rattle.fql_export.specs.declared.FqlWatched.{FqlWatched}
use Rattle.fql_export.specs.declared.FqlConjoined.{FqlConjoined}
use Rattle.fql_export.specs.declared.FqlPart.{FqlPart}
use Rattle.filter.specs.declared.refusal.Refusal.{Refusal}
use Rattle.run.specs.declared.totals.Totals.{Totals}
use Rattle.mark.specs.declared.refusal.MarkRefusal.{MarkRefusal}
use Rattle.watch.specs.declared.refusal.WatchTotals.{WatchTotals}
use Rattle.watch.specs.declared.refusal.WatchRefusal.{WatchRefusal}
use Rattle.conjunction.specs.declared.refusal.ConjoinRefusal.{ConjoinRefusal}

abbrev pub refusal_of : Result (Unit {0}) Refusal → FqlRefusal
refusal_of (Ok tt) = record { number = 0; place = 0 }
refusal_of (Err r) = record { number = number_of r.cause; place = r.place }

abbrev pub answer_of : Result Answer Refusal → FqlAnswer
answer_of (Ok (answer.Included n)) = record { number = 0; place = 0; included = 1; steps = n }
answer_of (Ok (answer.Excluded n)) = record { number = 0; place = 0; included = 0; steps = n }
answer_of (Err r) = record { number = number_of r.cause; place = r.place; included = 0; steps = 0 }

abbrev pub totals_of : Result Totals MarkRefusal → FqlTotals
totals_of (Ok x) = record { number = 0; place = 0; included = x.included; excluded = x.excluded; failed = x.failed }
totals_of (Err r) = record { number = mark.number_of r.cause; place = r.place; included = 0; excluded = 0; failed = 0 }

abbrev pub watched_of : Result WatchTotals WatchRefusal → FqlWatched
watched_of (Ok x) = record { number = 0; place = 0; ones = x.ones; zeros = x.zeros }
watched_of (Err r) = record { number = watch.number_of r.cause; place = r.place; ones = 0; zeros = 0 }

abbrev pub conjoined_of : Result ℕ ConjoinRefusal → FqlConjoined
conjoined_of (Ok n) = record { number = 0; place = 0; query = 0; length = n }
conjoined_of (Err r) = record { number = conjoin.number_of r.cause; place = r.place; query = conjoin.query_of r.cause; length = 0 }

-- fault_text/specs/Part
abbrev pub part_of : Option Shown → (queryLength tableLength place : ℕ) → FqlPart
part_of x ql tl p = let y = part.part_of x ql tl p in record { source = y.source; start = y.start; length = y.length }
