use Rattle.mark.proofs.Laws as law
use borrow.Author.Rules.{rules}
use Rattle.mark.proofs.mark.mark.Goals as goal

pub returns-in_err-check : goal.returns-in_err-check
returns-in_err-check c = (law.check_refuses _ _ _ c.check.ensures _ c.in_err-check.was _ c.from_residual.ensures, law.check_leaves _ _ _ c.check.ensures _ c.in_err-check.was _, search rules)
