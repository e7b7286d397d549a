use Rattle.pattern.proofs.Parts as law
use Rattle.pattern.proofs.reader.read_pattern.Goals as goal

pub returns-then-whole-p : goal.returns-then-whole-p
returns-then-whole-p c = search (law.pattern_rest, c.in_ok-whole.was)
