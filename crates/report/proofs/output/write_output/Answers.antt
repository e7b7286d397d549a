use native.Mathlib.Omega.{arith}
use Rattle.filter.proofs.Laws as filter
use Rattle.report.proofs.Fits as fits
use Rattle.report.proofs.Writing as law
use borrow.Author.Rules.{rules}
use Rattle.report.proofs.output.write_output.Goals as goal

pub write_run-requires : goal.write_run-requires
write_run-requires c = search filter.accepts

pub returns-in-Err : goal.returns-in-Err
returns-in-Err c = record { written = search law.refused_written; fits = fits.refused_fits _ _ _ c.check.ensures c.in-Err.is (search rules) (omega arith) }

pub returns-in-Ok : goal.returns-in-Ok
returns-in-Ok c = record { written = search law.accepted_written; fits = search fits.accepted_fits }
