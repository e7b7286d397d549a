use Prim.Native.Nat.{◌-◌}
use mathlib.Core.Path.{◌≡◌}
use Rattle.syntax.specs.Scan.{scan}
use Rattle.query_text.specs.Query.{query_from, verdict}
use Rattle.query_text.proofs.query.read_from.Given as goal

abbrev pub invariant-loop-before : goal.invariant-loop-before
invariant-loop-before l = verdict (query_from 64 (scan l.q) l.grouped l.initial.t) ≡ verdict (query_from (64 - l._before) (scan l.q) l.grouped l.t)
