use Rattle.report.proofs.Writing as law
use native.Mathlib.Omega.{arith}
use Rattle.report.proofs.output.write_run.Goals as goal

pub returns-then-run-gt65536 : goal.returns-then-run-gt65536
returns-then-run-gt65536 c = law.long_written _ _ c.args.run.now (omega (arith, c.if-run-gt65536.true)) c.write_indivisible.ensures

pub returns-in-Err : goal.returns-in-Err
returns-in-Err c = search law.broken_written

pub returns-in-Ok : goal.returns-in-Ok
returns-in-Ok c = search law.answers_written
