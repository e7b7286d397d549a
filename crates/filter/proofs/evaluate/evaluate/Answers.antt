use Rattle.filter.proofs.Laws as law
use borrow.Author.Rules.{rules}
use Rattle.filter.proofs.evaluate.evaluate.Goals as goal

pub evaluate_accepted-requires : goal.evaluate_accepted-requires
evaluate_accepted-requires c = (law.accepts _ _ c.check.ensures c.in_ok-check.was, search rules, search rules)
