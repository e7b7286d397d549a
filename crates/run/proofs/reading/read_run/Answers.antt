use Rattle.std.proofs.Common.{rules}
use Rattle.run.proofs.Laws as law
use Rattle.run.proofs.reading.read_run.Goals as goal

pub loop-record-init : goal.loop-record-init
loop-record-init c = (search (rules, law.run_begins), search rules)

pub returns-in_err-record : goal.returns-in_err-record
returns-in_err-record c = search (rules, law.run_broken)

pub returns-then-record-ne768 : goal.returns-then-record-ne768
returns-then-record-ne768 c = search (rules, law.run_other)

pub overflow_add-count : goal.overflow_add-count
overflow_add-count c = search rules

pub loop-record-preserved : goal.loop-record-preserved
loop-record-preserved c = (search (rules, law.run_next), search rules)

pub returns : goal.returns
returns c = search (rules, law.run_end)
