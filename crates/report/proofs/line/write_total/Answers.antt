use Rattle.report.proofs.Laws as law
use Rattle.report.proofs.line.write_total.Goals as goal

pub returns : goal.returns
returns c = search law.total_written
