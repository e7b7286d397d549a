use Rattle.text_writer.proofs.Written as law
use Rattle.text_writer.proofs.buffer.write_text.Goals as goal

pub loop-b-preserved : goal.loop-b-preserved
loop-b-preserved c = search law.written_more
