use mathlib.Core.Path.{refl}
use Rattle.conjunction.proofs.Answers as law
use borrow.Author.Rules.{rules}
use Rattle.conjunction.proofs.conjoin.conjoin_accepted.Goals as goal

pub returns-then-comparisons_of-gt64 : goal.returns-then-comparisons_of-gt64
returns-then-comparisons_of-gt64 c = (search law.too_many, search law.refused_leaves)

pub returns-then-length-gt4096 : goal.returns-then-length-gt4096
returns-then-length-gt4096 c = (search law.too_long, search law.refused_leaves)

pub returns-then-buffer-length : goal.returns-then-buffer-length
returns-then-buffer-length c = (search law.too_short, search law.refused_leaves)

pub returns : goal.returns
returns c = (search law.written_length, law.written_text _ _ c.comparisons_of.ensures refl c.write_conjunction-length.ensures c.if-comparisons_of-gt64.false c.if-length-gt4096.false c.if-buffer-length.false c.piece.ensures c.write_text.ensures)
