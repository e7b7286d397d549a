use Rattle.datetime.proofs.Stars as law
use Rattle.datetime.proofs.unknown.fill_lowest.Goals as goal

pub returns-then-s-eq58 : goal.returns-then-s-eq58
returns-then-s-eq58 c = law.lowest_interval _ _ c.if-s-eq58.true c.fill.ensures

pub returns-else-s-eq58 : goal.returns-else-s-eq58
returns-else-s-eq58 c = law.lowest_timestamp _ _ c.if-s-eq58.false c.fill-else-s-eq58.ensures
