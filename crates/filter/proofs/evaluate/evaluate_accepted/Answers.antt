use Rattle.filter.proofs.Laws as law
use borrow.Author.Rules.{rules}
use Rattle.filter.proofs.evaluate.evaluate_accepted.Goals as goal

pub evaluate_noted-requires : goal.evaluate_noted-requires
evaluate_noted-requires c = (search rules, search rules, law.short _ _ c.check_instance.ensures.0 c.in_ok-check_instance.was)

pub returns-in_err-check_instance : goal.returns-in_err-check_instance
returns-in_err-check_instance c =
    (law.nonconforming_returned _ _ _ c.requires.0 c.check_instance.ensures.0 _ c.in_err-check_instance.was c.from_residual.ensures, search rules, search rules)

pub returns : goal.returns
returns c =
    (law.walked_answers _ _ _ _ c.check_instance.ensures.0 c.in_ok-check_instance.was c.requires.0 c.requires.2 c.check_instance.ensures.1 c.evaluate_noted.ensures, search rules, search rules)
