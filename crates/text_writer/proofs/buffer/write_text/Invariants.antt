use lib.ListN.{take}
use Rattle.text_writer.specs.Written.{Written}
use Rattle.text_writer.proofs.buffer.write_text.Given as goal

abbrev pub invariant-loop-b : goal.invariant-loop-b
invariant-loop-b l = Written l.initial.out l.at (take l.b-index l.text) l.place l.out
