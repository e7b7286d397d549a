use Rattle.std.specs.Prelude.{Ok}
use Prim.Native.Nat.{◌-◌}
use mathlib.Core.Path.{◌≡◌}
use Rattle.syntax.specs.Scan.{scan}
use Rattle.query_text.specs.Query.{query_from, verdict}
use Rattle.filter.specs.Answers.{check_query}
use Rattle.filter.proofs.check.check_from.Given as goal

abbrev pub invariant-loop-read : goal.invariant-loop-read
invariant-loop-read l = (check_query l.q l.t (query_from 64 (scan l.q) l.grouped l.initial.token) ≡ check_query l.q l.t (query_from (64 - l.read) (scan l.q) l.grouped l.token)) × (verdict (query_from (64 - l.read) (scan l.q) l.grouped l.token) ≡ Ok tt)
