use Rattle.std.proofs.Common.{rules, refl}
use Rattle.instance.specs.Start.{start_of}
use Rattle.instance.proofs.Laws as law
use Rattle.instance.proofs.start.start_of.Goals as goal

pub loop-n-init : goal.loop-n-init
unfolding start_of
loop-n-init c = refl

pub returns-then-next-at : goal.returns-then-next-at
returns-then-next-at c = search (rules, law.start_past)

pub loop-n-preserved : goal.loop-n-preserved
loop-n-preserved c = search (rules, law.start_next)

pub returns : goal.returns
returns c = search (rules, law.start_end)
