use Rattle.text_writer.proofs.Written as law
use Rattle.text_writer.proofs.buffer.write_byte.Goals as goal

pub returns : goal.returns
returns c = search law.written_past
