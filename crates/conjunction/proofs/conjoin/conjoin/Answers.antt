use Rattle.conjunction.proofs.Answers as law
use borrow.Author.Rules.{rules}
use Rattle.conjunction.proofs.conjoin.conjoin.Goals as goal

pub conjoin_accepted-requires : goal.conjoin_accepted-requires
conjoin_accepted-requires c = (search law.accepted_short, search law.accepted_short)

pub returns-in-Err : goal.returns-in-Err
returns-in-Err c = (search law.first_refused, search law.first_leaves, search rules)

pub returns-in-Err-check : goal.returns-in-Err-check
returns-in-Err-check c = (search law.second_refused, search law.second_leaves, search rules)

pub returns : goal.returns
returns c = (search law.both_answer, search law.both_leave, search rules)
