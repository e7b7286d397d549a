-- Lines of the program (01 "A fan to try", 02 Q-1), among them the sample's three; texts with their lines, and lines with their words.
use Rattle.std.specs.Prelude.{ℕ, List, [], ◌∷◌, Err, Ok, Result}
use Rattle.base.specs.Ascii.{bytes}
use Rattle.instance.specs.declared.conform.InstanceFault.TheVariants.{Nonconforming}
use Rattle.filter.specs.declared.refusal.Cause.TheVariants as cause
use Rattle.filter.specs.declared.refusal.Answer.{Answer}
use Rattle.filter.specs.declared.refusal.Answer.TheVariants.{Included, Excluded}
use Rattle.run.specs.declared.totals.Totals.{Totals}
use Rattle.report.specs.Line.{answer_line, refused_line, total_line}
use Rattle.filter.specs.declared.refusal.Refusal.{Refusal}

abbrev pub line_of : ℕ × (Result Answer Refusal) → List ℕ
line_of x = answer_line x.0 x.1

abbrev pub answers : List ((ℕ × (Result Answer Refusal)) × List ℕ)
answers =
    ((1, Ok (Included 1)), bytes "1 included 1")
    ∷ ((2, Err (record { cause = cause.Instance Nonconforming; place = 0 })), bytes "2 failed 31")
    ∷ ((10, Ok (Excluded 4194304)), bytes "10 excluded 4194304")
    ∷ []

abbrev pub refused_of : ℕ × ℕ → List ℕ
refused_of x = refused_line x.0 x.1

abbrev pub refusals : List ((ℕ × ℕ) × List ℕ)
refusals =
    ((11, 13), bytes "refused 11 13")
    ∷ ((40, 65536), bytes "refused 40 65536")
    ∷ ((1, 0), bytes "refused 1 0")
    ∷ []

abbrev pub total_of : ℕ × Totals → List ℕ
total_of x = total_line x.0 x.1

abbrev pub totals : List ((ℕ × Totals) × List ℕ)
totals =
    ((2, record { included = 1; excluded = 0; failed = 1 }), bytes "total 2 1 0 1")
    ∷ ((0, record { included = 0; excluded = 0; failed = 0 }), bytes "total 0 0 0 0")
    ∷ ((16384, record { included = 0; excluded = 4; failed = 16380 }), bytes "total 16384 0 4 16380")
    ∷ []

abbrev pub texts : List (List ℕ × List (List ℕ))
texts =
    (bytes "1 included 1\n2 failed 31\n", bytes "1 included 1" ∷ bytes "2 failed 31" ∷ [])
    ∷ (bytes "a\n\nb", bytes "a" ∷ [] ∷ bytes "b" ∷ [])
    ∷ ([], [])
    ∷ []

abbrev pub words : List (List ℕ × List ℕ)
words =
    (bytes "2 failed 31", bytes "failed")
    ∷ (bytes "total 2 1 0 1", bytes "2")
    ∷ (bytes "total", [])
    ∷ []
