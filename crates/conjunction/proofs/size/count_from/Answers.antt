use borrow.Author.Rules.{rules}
use Prim.Native.Nat.{◌-◌}
use mathlib.Core.Path.{◌≡◌}
use Rattle.syntax.specs.Scan.{scan}
use Rattle.query_text.specs.Query.{query_from}
use Rattle.conjunction.specs.Conjunction.{comparisons}
use Rattle.conjunction.proofs.Counting as law
use Rattle.conjunction.proofs.Counting.{further}
use Rattle.conjunction.proofs.size.count_from.Goals as goal

pub loop-read-init : goal.loop-read-init
loop-read-init c = law.further_none _

pub returns-in_default : goal.returns-in_default
returns-in_default c = search law.counted_bad

pub returns-then-is_last : goal.returns-then-is_last
returns-then-is_last c = search law.counted_last

pub loop-read-preserved : goal.loop-read-preserved
loop-read-preserved c = search law.counted_more

pub returns : goal.returns
returns c = search law.counted_out
