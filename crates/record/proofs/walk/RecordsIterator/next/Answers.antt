use Rattle.std.proofs.Common.{rules}
use Rattle.record.proofs.Walked as law
use Rattle.record.proofs.walk.RecordsIterator.next.Goals as goal

pub returns-in-Whole-clause-steps : goal.returns-in-Whole-clause-steps
returns-in-Whole-clause-steps c = law.walk_whole _ _ c.record_at.ensures _ _ _ _ c.in-Whole.is (search rules)

pub returns-in-Whole-clause-goes : goal.returns-in-Whole-clause-goes
returns-in-Whole-clause-goes c = search law.walk_less

pub returns-in-Broken-clause-steps : goal.returns-in-Broken-clause-steps
returns-in-Broken-clause-steps c = (law.walk_broken c.args.self.now _ c.record_at.ensures c.in-Broken.is, law.walk_ended c.args.self.now.bytes.now)

pub returns-in-Broken-clause-goes : goal.returns-in-Broken-clause-goes
returns-in-Broken-clause-goes c = search law.walk_broken_less

pub returns-in-End-clause-steps : goal.returns-in-End-clause-steps
returns-in-End-clause-steps c = let e = law.walk_end c.args.self.now _ c.record_at.ensures c.in-End.is in (e, e)
