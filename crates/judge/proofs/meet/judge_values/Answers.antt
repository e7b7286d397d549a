use Rattle.judge.proofs.Meeting as law
use borrow.Author.Rules.{rules}
use Rattle.judge.proofs.meet.judge_values.Goals as goal
use mathlib.Core.Path.{◌≡◌}
use Rattle.std.specs.Prelude.{Err, Ok}

pub returns-in_err-spot : goal.returns-in_err-spot
returns-in_err-spot c =
    let was : c.settle.result ≡ Err c.in_err-spot.field-0.0 = c.in_err-spot.was in
    let same : c.from_residual.result ≡ Err c.in_err-spot.field-0.0 = search rules in
    rw same (search law.values_fail)

pub returns : goal.returns
returns c =
    let was : c.settle.result ≡ Ok (c.in_ok-spot.spot, c.in_ok-spot.value) = c.in_ok-spot.was in
    search law.values_ready
