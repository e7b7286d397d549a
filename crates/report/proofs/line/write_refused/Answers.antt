use Rattle.report.proofs.Laws as law
use Rattle.report.proofs.line.write_refused.Goals as goal

pub returns : goal.returns
returns c = search law.refused_written
