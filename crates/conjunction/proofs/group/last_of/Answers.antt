use borrow.Author.Rules.{rules}
use mathlib.Core.Path.{◌≡◌, refl}
use Rattle.conjunction.specs.Groups.{last}
use Rattle.conjunction.proofs.Walk.{left}
use Rattle.conjunction.proofs.Reading as law
use Rattle.conjunction.proofs.group.last_of.Goals as goal

pub loop-next-init : goal.loop-next-init
loop-next-init c = refl

pub returns-then-not-is_inside : goal.returns-then-not-is_inside
returns-then-not-is_inside c = search law.last_here

pub loop-next-smaller : goal.loop-next-smaller
loop-next-smaller c = search law.last_nearer

pub loop-next-preserved : goal.loop-next-preserved
loop-next-preserved c = search law.last_further
