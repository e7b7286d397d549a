use Rattle.string_literal.proofs.Laws.{moved}
use Rattle.value.proofs.Laws as law
use Rattle.value.proofs.unit.next_encoded.Goals as goal

pub returns-in_default : goal.returns-in_default
returns-in_default c = search law.encoded_end

pub returns-then-n-skipped : goal.returns-then-n-skipped
returns-then-n-skipped c = search law.encoded_past

pub encoded_byte-byte-requires : goal.encoded_byte-byte-requires
encoded_byte-byte-requires c = (rw c.from-v.ensures (moved c.char_in_string.ensures.1 c.in-Character.is).2, search law.encoded_here)

pub returns-then-skipped-n : goal.returns-then-skipped-n
returns-then-skipped-n c = search law.encoded_more

pub returns : goal.returns
returns c = search law.encoded_last
