use borrow.Author.Rules.{rules}
use mathlib.Core.Path.{refl}
use Rattle.value.specs.Plain.{common_in}
use Rattle.value.proofs.PlainUnits as law
use Rattle.value.proofs.class.common_blocks.Goals as goal

pub loop-n-init : goal.loop-n-init
unfolding common_in
loop-n-init g c = (search rules, refl)

pub returns-then-not-common_block : goal.returns-then-not-common_block
returns-then-not-common_block g c = (search rules, search law.common_found)

pub loop-n-preserved : goal.loop-n-preserved
loop-n-preserved g c = (search rules, search law.block_more)

pub returns : goal.returns
returns g c = (search rules, search law.common_found)
