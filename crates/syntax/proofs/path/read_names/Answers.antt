use Prim.Native.Nat.{◌+◌, ◌-◌, ◌<◌}
use mathlib.Core.Path.{◌≡◌}
use native.Mathlib.Omega.{arith}
use lib.ListN.{length}
use borrow.Author.Rules.{rules}
use Rattle.syntax.proofs.Laws.{dots_out, dots_end, dots_bad, dots_more, names_next}
use Rattle.syntax.proofs.path.read_names.Goals as goal

pub returns-then-not-is_kind : goal.returns-then-not-is_kind
returns-then-not-is_kind c = search dots_end

pub returns-then-not-is_word : goal.returns-then-not-is_word
returns-then-not-is_word c =
    let more : 0 < length c.args.q.now + 1 - c.loop-step._step = omega arith in
    search dots_bad

pub loop-step-preserved : goal.loop-step-preserved
loop-step-preserved c =
    let more : length c.args.q.now + 1 - c.loop-step._step ≡ length c.args.q.now + 1 - (c.loop-step._step + 1) + 1 = omega arith in
    (search dots_more, search names_next)

pub returns : goal.returns
returns c = search (rules, dots_out)
