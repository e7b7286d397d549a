use Prim.Native.Nat.{◌+◌, ◌-◌, ◌<◌, ◌≤◌}
use mathlib.Core.Path.{◌≡◌}
use native.Mathlib.Omega.{arith}
use Rattle.syntax.proofs.Laws.{list_out, list_none, list_close, list_bad, list_more}
use Rattle.syntax.proofs.right_side.read_elements.Goals as goal

pub returns-then-not-is_literal : goal.returns-then-not-is_literal
returns-then-not-is_literal c =
    let more : 0 < 32 - c.loop-before.before = omega arith in
    search list_none

pub returns-then-is_kind : goal.returns-then-is_kind
returns-then-is_kind c =
    let more : 0 < 32 - c.loop-before.before = omega arith in
    search list_close

pub returns-then-not-is_kind : goal.returns-then-not-is_kind
returns-then-not-is_kind c =
    let more : 0 < 32 - c.loop-before.before = omega arith in
    search list_bad

pub loop-before-preserved : goal.loop-before-preserved
loop-before-preserved c =
    let more : 32 - c.loop-before.before ≡ 32 - (c.loop-before.before + 1) + 1 = omega arith in
    search list_more

pub returns : goal.returns
returns c =
    let none : 32 - c.loop-before.before ≤ 0 = omega arith in
    search list_out
