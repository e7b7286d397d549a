use Rattle.std.proofs.Common.{arith, take, ◌≡◌}
use Rattle.report.specs.Output.{output}
use Rattle.text_writer.proofs.Written.{written_whole}
use Rattle.fql.proofs.print_output.Goals as goal

pub returns : goal.returns
returns g c =
    let whole : take c.write_output-n.result c.write_output-n.new.out ≡ output c.args.query.now c.args.table.now c.args.run.now
    = written_whole c.write_output-n.ensures.written (omega (arith, c.write_output-n.ensures.fits, c.requires)) in
    rw (← whole) c.write_all.ensures.bytes
