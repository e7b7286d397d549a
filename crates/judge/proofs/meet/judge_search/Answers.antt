use Rattle.predicate.proofs.Forms.{of_search}
use Rattle.judge.proofs.Meeting as law
use borrow.Author.Rules.{rules}
use Rattle.judge.proofs.meet.judge_search.Goals as goal
use mathlib.Core.Path.{◌≡◌}
use Rattle.std.specs.Prelude.{Err, Ok}

pub returns-in_err-value : goal.returns-in_err-value
returns-in_err-value c =
    let was : c.settle.result ≡ Err c.in_err-value.field-0.0 = c.in_err-value.was in
    let same : c.from_residual.result ≡ Err c.in_err-value.field-0.0 = search rules in
    rw same (search law.search_fails)

pub returns : goal.returns
returns c =
    let was : c.settle.result ≡ Ok (c.in_ok-value.field-0-0, c.in_ok-value.value) = c.in_ok-value.was in
    search (law.search_ready, of_search)
