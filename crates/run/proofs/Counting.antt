-- Totals added up, answer by answer. One law for each exit of `count_answer`.
use Rattle.std.specs.Prelude.{Err, Ok, Result}
use Prim.Native.Nat.{ℕ, ◌+◌}
use mathlib.Core.List.{List, [], ◌∷◌}
use mathlib.Core.Path.{◌≡◌, sym, ap}
use native.Mathlib.Omega.{arith}
use Rattle.filter.specs.declared.refusal.Refusal.{Refusal}
use Rattle.filter.specs.declared.refusal.Answer.{Answer}
use Rattle.filter.specs.declared.refusal.Answer.TheVariants.{Included, Excluded}
use Rattle.run.specs.declared.totals.Totals.{Totals}
use Rattle.run.specs.Totals.{count, totals_of, counted}

abbrev pub totals : (included excluded failed : ℕ) → Totals
totals a b c = record { included = a; excluded = b; failed = c }

abbrev pub sum : Totals → ℕ
sum x = x.included + x.excluded + x.failed

abbrev pub plus : Totals → Totals → Totals
plus x y = totals (x.included + y.included) (x.excluded + y.excluded) (x.failed + y.failed)

totals_same : {a b c d e f : ℕ} → a ≡ d → b ≡ e → c ≡ f → totals a b c ≡ totals d e f
totals_same p q r = rw (p, q, r)

pub plus_next : (x : Totals) (a : Result Answer Refusal) (rest : List (Result Answer Refusal)) → plus x (totals_of (a ∷ rest)) ≡ plus (counted x a) (totals_of rest)
unfolding count
plus_next x (Ok (Included n)) rest = totals_same (omega arith) (omega arith) (omega arith)
plus_next x (Ok (Excluded n)) rest = totals_same (omega arith) (omega arith) (omega arith)
plus_next x (Err r) rest = totals_same (omega arith) (omega arith) (omega arith)

pub plus_none : (x : Totals) → plus x (totals_of []) ≡ x
unfolding count
plus_none x = totals_same (omega arith) (omega arith) (omega arith)

pub none_plus : (x : Totals) → x ≡ plus (totals 0 0 0) x
none_plus x = totals_same (omega arith) (omega arith) (omega arith)

pub sum_next : (x : Totals) (a : Result Answer Refusal) → sum (counted x a) ≡ sum x + 1
sum_next x (Ok (Included n)) = omega arith
sum_next x (Ok (Excluded n)) = omega arith
sum_next x (Err r) = omega arith

module _ (x : Totals) (a : Result Answer Refusal) where
  pub counts_included : (n : ℕ) → a ≡ Ok (Included n) → totals (x.included + 1) x.excluded x.failed ≡ counted x a
  counts_included n e = sym (ap (counted x) e)

  pub counts_excluded : (n : ℕ) → a ≡ Ok (Excluded n) → totals x.included (x.excluded + 1) x.failed ≡ counted x a
  counts_excluded n e = sym (ap (counted x) e)

  pub counts_failed : (r : Refusal) → a ≡ Err r → totals x.included x.excluded (x.failed + 1) ≡ counted x a
  counts_failed r e = sym (ap (counted x) e)
