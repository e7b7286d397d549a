use Rattle.filter.proofs.Laws as law
use Rattle.filter.proofs.evaluate.judge_if.Goals as goal

pub returns-in-Ok : goal.returns-in-Ok
returns-in-Ok c = (search law.judged_told, search law.judged_few)
