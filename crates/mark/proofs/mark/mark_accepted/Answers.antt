use Rattle.mark.proofs.Laws as law
use borrow.Author.Rules.{rules}
use Rattle.mark.proofs.mark.mark_accepted.Goals as goal

pub returns-in-Err : goal.returns-in-Err
returns-in-Err c = (search law.run_refuses, search law.run_leaves, search rules)

pub returns-then-marks-count : goal.returns-then-marks-count
returns-then-marks-count c = (search law.few_refuses, search law.few_leaves, search rules)

pub mark_instances-requires : goal.mark_instances-requires
mark_instances-requires c = (search rules, search law.enough)

pub returns : goal.returns
returns c = (search law.good_totals, search law.good_marks, search rules)
