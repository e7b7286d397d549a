-- The tokens that DSP0212's first grammar group (000 5.3.2) is read from, and the faults of a query's text (01 "Query text", "What can go wrong with a call").
use Rattle.std.specs.Prelude.{ℕ, ◌+◌, List, Bool, length}
use Rattle.base.specs.Pick.{pick}
use Rattle.token.specs.declared.Token.{Token}
use Rattle.token.specs.Token.{token_after}
use Rattle.terminal.specs.Terminal.{unsigned}
use Rattle.syntax.specs.declared.fault.Cause.{Cause}
use Rattle.syntax.specs.declared.fault.Cause.TheVariants.{Grammar, Limit}
use Rattle.syntax.specs.declared.fault.Fault.{Fault}

-- what the grammar is read from: the token after another, which tokens are unsigned integers, and a number of names that no path has
-- (for the tokens of a text the law `roomy` of proofs/Room says so)
pub record Scan : Type 0 where
  pub next : Token → Token
  pub unsigned : Token → Bool
  pub size : ℕ

-- the tokens of a text
abbrev pub scan : List ℕ → Scan
scan q = record { next = token_after q; unsigned = unsigned q; size = length q + 1 }

abbrev pub fault : Cause → ℕ → Fault
fault c p = record { cause = c; place = p }

-- where a limit is used up: 12 if one more stands there, else 11 (01: "11 first at one token")
abbrev pub limited : Bool → ℕ → Fault
limited over p = pick over (fault Limit p) (fault Grammar p)

abbrev pub skip : Scan → Bool → Token → Token
skip s over t = pick over (s.next t) t
