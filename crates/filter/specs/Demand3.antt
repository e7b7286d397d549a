-- The order's third demand: "on every conforming instance evaluation answers exactly when the check accepts, with the counted steps, within the bound, and a refused
-- query fails with the check's own number and place." It is stated of the definitions that the promises of `check` and `evaluate` cite; proofs/Demand3 proves it.
use Rattle.std.specs.Prelude.{ℕ, ◌≤◌, ◌<◌, List, ◌≡◌, ◌⊎◌, ◌↔◌, length, Err, Ok, Result}
use Rattle.instance.specs.Conforms.{Conforms}
use Rattle.instance.specs.declared.conform.InstanceFault.TheVariants.{TooLong, Nonconforming}
use Rattle.filter.specs.Check.{check}
use Rattle.filter.specs.Evaluate.{evaluate, steps, bound}
use Rattle.filter.specs.declared.refusal.Cause.TheVariants as cause
use Rattle.filter.specs.declared.refusal.Refusal.{Refusal}
use Rattle.filter.specs.declared.refusal.Answer.{Answer}
use Rattle.filter.specs.declared.refusal.Answer.TheVariants.{Included, Excluded}

-- included or excluded; "an evaluation that returns a refusal has failed"
abbrev pub Answered : Result Answer Refusal → Type 0
Answered (Ok (Included n)) = Unit
Answered (Ok (Excluded n)) = Unit
Answered (Err r) = ⊥

pub record Demand3 (q t i : List ℕ) : Type 0 where
  -- accepted exactly where evaluation answers
  pub answers : (check q t ≡ Ok tt) ↔ Answered (evaluate q t i)
  -- the steps are those of 01 "Steps"
  pub counts : (n : ℕ) → (evaluate q t i ≡ Ok (Included n)) ⊎ (evaluate q t i ≡ Ok (Excluded n)) → n ≡ steps q t i
  -- at most one, and what it reads, for each comparison of the text
  pub within : steps q t i ≤ bound q t i
  -- a refused query fails with the check's cause and place
  pub refuses : (r : Refusal) → check q t ≡ Err r → evaluate q t i ≡ Err r

-- with a refusal of the instance
abbrev pub instance_refused : (place : ℕ) → Result Answer Refusal
instance_refused p = Err (record { cause = cause.Instance Nonconforming; place = p })

abbrev pub instance_too_long : Result Answer Refusal
instance_too_long = Err (record { cause = cause.Instance TooLong; place = 0 })

-- 30 and 31, for a query that the check accepts: exactly where the instance is too long, and where it isn't and doesn't conform
pub record InstanceRefusals (q t i : List ℕ) : Type 0 where
  pub too_long : (evaluate q t i ≡ instance_too_long) ↔ (65535 < length i)
  pub nonconforming : ((p : ℕ) × (evaluate q t i ≡ instance_refused p)) ↔ ((length i ≤ 65535) × (Conforms t i → ⊥))
