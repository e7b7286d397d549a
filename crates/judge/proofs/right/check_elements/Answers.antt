use borrow.Author.Rules.{rules}
use Rattle.judge.proofs.Sides as law
use Rattle.operand.specs.Element.{elements_from, element_tokens}
use Rattle.judge.specs.Meaning.{elements}
use Rattle.judge.specs.Answers.{list_read, list_before}
use mathlib.Core.Path.{◌≡◌}
use Prim.Native.Nat.{◌+◌, ◌-◌, ◌<◌, ◌≤◌}
use native.Mathlib.Omega.{arith}
use Rattle.judge.proofs.right.check_elements.Goals as goal

pub loop-before-init : goal.loop-before-init
loop-before-init c = let all : c.args.count - 0 ≡ c.args.count = omega arith in rw all (search law.elements_begin)

pub loop-before-preserved : goal.loop-before-preserved
loop-before-preserved c =
    let more : 0 < c.args.count - c.loop-before._before = omega arith in
    let fewer : c.args.count - (c.loop-before._before + 1) ≡ c.args.count - c.loop-before._before - 1 = omega arith in
    rw fewer (search law.elements_next)

pub returns : goal.returns
returns c = let none : c.args.count - c.loop-before._before ≤ 0 = omega arith in search law.elements_end
