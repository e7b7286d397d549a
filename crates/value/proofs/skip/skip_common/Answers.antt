use Rattle.value.proofs.CharacterUnits as law
use Rattle.value.proofs.skip.skip_common.Goals as goal

pub returns-in_err-left : goal.returns-in_err-left
returns-in_err-left c = rw c.from_residual.ensures c.in_err-left.ensures

pub returns-clause-skips : goal.returns-clause-skips
returns-clause-skips c = law.skipped_further c.in_ok-left.ensures.skips c.skip_alike-n.ensures c.after.ensures.moved c.after-2.ensures.moved
