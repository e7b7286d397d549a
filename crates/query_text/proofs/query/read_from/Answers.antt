use Prim.Native.Nat.{◌+◌, ◌-◌, ◌<◌, ◌≤◌}
use mathlib.Core.Path.{◌≡◌, ◌∙◌}
use native.Mathlib.Omega.{arith}
use borrow.Author.Rules.{rules}
use Rattle.std.specs.Prelude.{Err, Ok}
use Rattle.syntax.specs.Scan.{scan}
use Rattle.query_text.specs.Query.{query_from, verdict}
use Rattle.query_text.proofs.Laws.{verdict_out, verdict_bad, verdict_last, verdict_more}
use Rattle.query_text.proofs.query.read_from.Goals as goal

pub returns-in_err-join : goal.returns-in_err-join
returns-in_err-join c =
    let more : 0 < 64 - c.loop-before._before = omega arith in
    let was : c.read_next.result ≡ Err c.in_err-join.field-0.0 = c.in_err-join.was in
    let refused : Err c.in_err-join.field-0.0 ≡ verdict (query_from 64 (scan c.args.q.now) c.args.grouped c.args.first) = search verdict_bad in
    let same : c.from_residual.result ≡ Err c.in_err-join.field-0.0 = search rules in
    same ∙ refused

pub returns-then-is_last : goal.returns-then-is_last
returns-then-is_last c =
    let more : 0 < 64 - c.loop-before._before = omega arith in
    let was : c.read_next.result ≡ Ok (c.in_ok-join.field-0-0, c.in_ok-join.join, c.in_ok-join.u) = c.in_ok-join.was in
    search verdict_last

pub loop-before-preserved : goal.loop-before-preserved
loop-before-preserved c =
    let more : 64 - c.loop-before._before ≡ 64 - (c.loop-before._before + 1) + 1 = omega arith in
    let was : c.read_next.result ≡ Ok (c.in_ok-join.field-0-0, c.in_ok-join.join, c.in_ok-join.u) = c.in_ok-join.was in
    search verdict_more

pub returns : goal.returns
returns c =
    let none : 64 - c.loop-before._before ≤ 0 = omega arith in
    search verdict_out
