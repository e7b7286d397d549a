use Rattle.report.proofs.Laws as law
use Rattle.report.proofs.line.write_line.Goals as goal

pub returns : goal.returns
returns c = search law.line_written
