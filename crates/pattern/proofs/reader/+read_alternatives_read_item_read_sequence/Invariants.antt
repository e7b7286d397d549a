use Rattle.std.proofs.Common.{length, ◌+◌, ◌-◌, ◌*◌}
use Rattle.pattern.proofs.Sequences.{Sequencing, Alternating}
use Rattle.pattern.proofs.reader.+read_alternatives_read_item_read_sequence.Given as goal

abbrev pub decreases-read_alternatives : goal.decreases-read_alternatives
decreases-read_alternatives l = 3 * (length l.s.now - l.at) + 2

abbrev pub decreases-read_item : goal.decreases-read_item
decreases-read_item l = 3 * (length l.s.now - l.at)

abbrev pub decreases-read_sequence : goal.decreases-read_sequence
decreases-read_sequence l = 3 * (length l.s.now - l.at) + 1

abbrev pub invariant-read_alternatives-loop-part : goal.invariant-read_alternatives-loop-part
invariant-read_alternatives-loop-part l = Alternating l.s l.at l.depth l.k l.initial.links l.i l.n l.whole l.links

abbrev pub decreases-read_alternatives-loop-part : goal.decreases-read_alternatives-loop-part
decreases-read_alternatives-loop-part l = length l.s - l.i

abbrev pub invariant-read_sequence-loop-links : goal.invariant-read_sequence-loop-links
invariant-read_sequence-loop-links l = Sequencing l.s l.at l.depth l.k l.initial.links l.i l.n l.whole l.links

abbrev pub decreases-read_sequence-loop-links : goal.decreases-read_sequence-loop-links
decreases-read_sequence-loop-links l = length l.s - l.i
