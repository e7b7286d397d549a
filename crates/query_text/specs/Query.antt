-- fql and fql-expr, of DSP0212's first grammar group (000 5.3.2; 01 "Query text"): a query's comparisons with what follows each, or the fault.
use Rattle.std.specs.Prelude.{ℕ, zero, suc, List, Bool, true, false, Err, None, Ok, Option, Result, Some}
use Rattle.base.specs.Pick.{pick}
use Rattle.token.specs.declared.Punctuation.TheVariants.{Open, Close}
use Rattle.token.specs.declared.TokenKind.TheVariants.{End, Symbol}
use Rattle.token.specs.declared.Token.{Token}
use Rattle.token.specs.Token.{token}
use Rattle.terminal.specs.Terminal.{same, joining, opening}
use Rattle.syntax.specs.declared.comparison.Comparison.{Comparison}
use Rattle.syntax.specs.declared.fault.Cause.TheVariants.{Grammar}
use Rattle.syntax.specs.declared.fault.Fault.{Fault}
use Rattle.syntax.specs.Scan.{Scan, scan, fault, limited, skip}
use Rattle.syntax.specs.Comparison.{property_comp}
use Rattle.query_text.specs.declared.join.Join.{Join}
use Rattle.query_text.specs.declared.join.Join.TheVariants.{Last, Inner, Outer}
use Rattle.query_text.specs.declared.query.QueryStart.{QueryStart}
use Rattle.terminal.specs.declared.operator.BoolOp.{BoolOp}

-- fql-expr = property-comp *( bool-op property-comp )
-- fql = fql-expr / "(" fql-expr ")" *( bool-op "(" fql-expr ")" )
-- what follows a comparison: bool-op; in a group also ")" and the end, or ")" bool-op "("; outside of one the end
unfoldable pub at_end : Token → Result (Join × Token) ℕ
at_end t = pick (same t End) (Ok (Last, t)) (Err t.start)

unfoldable pub open_group : Scan → Join → Token → Result (Join × Token) ℕ
open_group s j t = pick (same t (Symbol Open)) (Ok (j, s.next t)) (Err t.start)

unfoldable pub outer_by : Scan → Token → Option BoolOp → Result (Join × Token) ℕ
outer_by s t (Some o) = open_group s (Outer o) (s.next t)
outer_by s t None = at_end t

unfoldable pub after_group : Scan → Token → Result (Join × Token) ℕ
after_group s t = outer_by s t (joining t)

unfoldable pub outer : Scan → Token → Result (Join × Token) ℕ
outer s t = pick (same t (Symbol Close)) (after_group s (s.next t)) (Err t.start)

unfoldable pub join_by : Scan → Bool → Token → Option BoolOp → Result (Join × Token) ℕ
join_by s grouped t (Some o) = Ok (Inner o, s.next t)
join_by s grouped t None = pick grouped (outer s t) (at_end t)

unfoldable pub join_after : Scan → Bool → Token → Result (Join × Token) ℕ
join_after s grouped t = join_by s grouped t (joining t)

-- a comparison with what follows it
unfoldable pub next_of : Comparison → Result (Join × Token) ℕ → Result (Comparison × Join × Token) Fault
next_of c (Err p) = Err (fault Grammar p)
next_of c (Ok (j, t)) = Ok (c, j, t)

unfoldable pub next_by : Scan → Bool → Result (Comparison × Token) Fault → Result (Comparison × Join × Token) Fault
next_by s grouped (Err f) = Err f
next_by s grouped (Ok (c, t)) = next_of c (join_after s grouped t)

unfoldable pub next_comparison : Scan → Bool → Token → Result (Comparison × Join × Token) Fault
next_comparison s grouped t = next_by s grouped (property_comp s t)

-- a query: its comparisons, each with what follows it, or the fault
pub data Comparisons : Type 0 where
  only : Comparison → Comparisons
  more : Comparison → Join → Comparisons → Comparisons

pub data Query : Type 0 where
  bad : Fault → Query
  good : Comparisons → Query

unfoldable pub before : Comparison → Join → Query → Query
before c j (bad f) = bad f
before c j (good l) = good (more c j l)

abbrev pub last_join : Join → Bool
last_join Last = true
last_join (Inner o) = false
last_join (Outer o) = false

-- the query from a comparison on, of at most so many
unfoldable pub query_from : ℕ → Scan → Bool → Token → Query
query_from zero s grouped t = bad (limited (opening t) t.start)
query_from (suc n) s grouped t =
    elim (next_comparison s grouped t) [
      | Err f ↦ bad f
      | Ok (c, j, u) ↦ elim (last_join j) [ true ↦ good (only c) | false ↦ before c j (query_from n s grouped u) ]
    ]

unfoldable pub start_at : Scan → Token → QueryStart
start_at s t = record { grouped = same t (Symbol Open); token = skip s (same t (Symbol Open)) t }

unfoldable pub query_start : Scan → QueryStart
query_start s = start_at s (s.next (token End 0 0))

unfoldable pub query : List ℕ → Query
query q = query_from 64 (scan q) (query_start (scan q)).grouped (query_start (scan q)).token

unfoldable pub verdict : Query → Result (Unit {0}) Fault
verdict (bad f) = Err f
verdict (good l) = Ok tt
