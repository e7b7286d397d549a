use native.Mathlib.Omega.{arith}
use Rattle.pattern.proofs.Parts as law
use Rattle.pattern.proofs.Sequences as loops
use Rattle.pattern.proofs.reader.+read_alternatives_read_item_read_sequence.Goals as goal

pub read_alternatives-loop-part-init : goal.read_alternatives-loop-part-init
read_alternatives-loop-part-init t c = search loops.alternating_start

pub read_alternatives-read_sequence-requires : goal.read_alternatives-read_sequence-requires
read_alternatives-read_sequence-requires t c = let h = c.loop-part.invariant.further in omega arith

pub read_alternatives-returns-in_err-part : goal.read_alternatives-returns-in_err-part
read_alternatives-returns-in_err-part t c = search (loops.alternating_bad, c.in_err-part.was)

pub read_alternatives-returns-then-not-is_at : goal.read_alternatives-returns-then-not-is_at
read_alternatives-returns-then-not-is_at t c = search (loops.alternating_end, c.in_ok-part.was)

pub read_alternatives-loop-part-smaller : goal.read_alternatives-loop-part-smaller
read_alternatives-loop-part-smaller t c = let h = c.is_at.ensures.within c.if-not-is_at.false in let w = law.sequence_further _ _ _ _ c.read_sequence.ensures c.in_ok-part.was in omega arith

pub read_alternatives-loop-part-preserved : goal.read_alternatives-loop-part-preserved
read_alternatives-loop-part-preserved t c = search (loops.alternating_next, c.in_ok-part.was)

pub read_item-returns-then-not-is_at : goal.read_item-returns-then-not-is_at
read_item-returns-then-not-is_at t c = search law.item_symbol

pub read_item-returns-then-depth-ge-DEEPEST_GROUP :
    goal.read_item-returns-then-depth-ge-DEEPEST_GROUP
read_item-returns-then-depth-ge-DEEPEST_GROUP t c = search law.item_deep

pub read_item-read_alternatives-requires : goal.read_item-read_alternatives-requires
read_item-read_alternatives-requires t c = let h = c.is_at.ensures.within c.if-not-is_at.false in omega arith

pub read_item-returns-then-not-is_at-2 : goal.read_item-returns-then-not-is_at-2
read_item-returns-then-not-is_at-2 t c = search (law.group_open, c.in_ok-group.was)

pub read_item-returns-in_err-group : goal.read_item-returns-in_err-group
read_item-returns-in_err-group t c = search (law.group_bad, c.in_err-group.was)

pub read_item-returns : goal.read_item-returns
read_item-returns t c = search (law.group_closed, c.in_ok-group.was)

pub read_sequence-loop-links-init : goal.read_sequence-loop-links-init
read_sequence-loop-links-init t c = search loops.sequencing_start

pub read_sequence-read_item-requires : goal.read_sequence-read_item-requires
read_sequence-read_item-requires t c = let h = c.loop-links.invariant.further in omega arith

pub read_sequence-returns-in_err-part : goal.read_sequence-returns-in_err-part
read_sequence-returns-in_err-part t c = search (loops.sequencing_bad, c.in_err-part.was)

pub read_sequence-loop-links-smaller : goal.read_sequence-loop-links-smaller
read_sequence-loop-links-smaller t c = law.item_further _ _ _ _ c.read_item.ensures c.in_ok-part.was

pub read_sequence-loop-links-preserved : goal.read_sequence-loop-links-preserved
read_sequence-loop-links-preserved t c = search (loops.sequencing_next, c.in_ok-part.was)

pub read_sequence-returns : goal.read_sequence-returns
read_sequence-returns t c = search loops.sequencing_end
