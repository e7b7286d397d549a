use Rattle.std.proofs.Common.{rules, ◌-◌}
use mathlib.Core.Path.{refl}
use native.Mathlib.Omega.{arith}
use lib.ListN.{take, drop}
use Rattle.watch.specs.Window.{included}
use Rattle.watch.proofs.Counting as law
use Rattle.watch.proofs.window.included_before.Goals as goal

pub overflow_add-ones : goal.overflow_add-ones
overflow_add-ones c =
    let items = take (c.args.end - c.saturating_sub.result) (drop c.saturating_sub.result c.args.marks.now) in
    let whole = included c.args.window (take c.args.end c.args.marks.now) in
    let m = law.counting_fits items whole c.loop-mark.ones c.loop-mark.mark-index c.loop-mark.invariant (search rules) c.one_of-ones.ensures c.args.window (take c.args.end c.args.marks.now) refl in
    omega (arith, m, c.ranges.window.fits)

pub loop-mark-preserved : goal.loop-mark-preserved
loop-mark-preserved c =
    let items = take (c.args.end - c.saturating_sub.result) (drop c.saturating_sub.result c.args.marks.now) in
    let whole = included c.args.window (take c.args.end c.args.marks.now) in
    law.counting_next items whole c.loop-mark.ones c.loop-mark.mark-index c.loop-mark.invariant (search rules) c.one_of-ones.ensures

pub returns : goal.returns
returns c =
    let items = take (c.args.end - c.saturating_sub.result) (drop c.saturating_sub.result c.args.marks.now) in
    let whole = included c.args.window (take c.args.end c.args.marks.now) in
    law.counting_ends items whole c.loop-mark.ones c.loop-mark.mark-index c.loop-mark.invariant (search rules)
