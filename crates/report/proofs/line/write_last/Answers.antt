use Rattle.report.proofs.Laws as law
use Rattle.report.proofs.line.write_last.Goals as goal

pub returns : goal.returns
returns c = search law.terminated_written
