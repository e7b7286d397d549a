use native.Mathlib.Omega.{arith}
use Rattle.datetime.proofs.Highest as law
use Rattle.datetime.proofs.unknown.fill_highest.Goals as goal

pub bounds-s-21 : goal.bounds-s-21
bounds-s-21 c = omega (arith, law.text_long _ _ c.requires.1 c.requires.0)

pub fill-requires : goal.fill-requires
fill-requires c = (c.requires.1, law.text_long _ _ c.requires.1 c.requires.0)

pub fill-requires-else-s-eq58 : goal.fill-requires-else-s-eq58
fill-requires-else-s-eq58 c = (c.requires.1, law.text_long _ _ c.requires.1 c.requires.0)

pub set_last_day-requires : goal.set_last_day-requires
set_last_day-requires c = (law.december_shaped _ _ c.requires.1 c.requires.0 c.if-s-eq58.false c.if-known-eq6.true c.fill-else-s-eq58.ensures, law.december_from _ _ c.requires.1 c.requires.0 c.if-s-eq58.false c.if-known-eq6.true c.fill-else-s-eq58.ensures, law.december_to _ _ c.requires.1 c.requires.0 c.if-s-eq58.false c.if-known-eq6.true c.fill-else-s-eq58.ensures)

pub returns-then-s-eq58 : goal.returns-then-s-eq58
returns-then-s-eq58 c = law.fills_interval _ _ c.requires.1 c.requires.0 c.if-s-eq58.true c.fill.ensures

pub returns-then-known-eq6 : goal.returns-then-known-eq6
returns-then-known-eq6 c = law.fills_day _ _ c.requires.1 c.requires.0 c.if-s-eq58.false c.if-known-eq6.true c.fill-else-s-eq58.ensures c.set_last_day.ensures

pub returns-else-known-eq6 : goal.returns-else-known-eq6
returns-else-known-eq6 c = law.fills_timestamp _ _ c.requires.1 c.requires.0 c.if-s-eq58.false c.if-known-eq6.false c.fill-else-s-eq58.ensures
