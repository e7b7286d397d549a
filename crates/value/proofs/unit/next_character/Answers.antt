use native.Mathlib.Omega.{arith}
use Rattle.base.proofs.Lists.{part_whole}
use Rattle.value.proofs.Laws as law
use borrow.Author.Rules.{rules}
use Rattle.value.proofs.unit.next_character.Goals as goal

pub returns-then-n-eq0 : goal.returns-then-n-eq0
returns-then-n-eq0 c = search law.character_end

pub overflow_add-rest : goal.overflow_add-rest
overflow_add-rest c = omega (arith, law.character_room _ _ _ c.sequence_at-n.ensures)

pub overflow_add-at : goal.overflow_add-at
overflow_add-at c = omega (arith, law.character_room _ _ _ c.sequence_at-n.ensures)

pub slice_bounds-scalar_of-end : goal.slice_bounds-scalar_of-end
slice_bounds-scalar_of-end c = omega (arith, law.character_room _ _ _ c.sequence_at-n.ensures)

pub returns-clause-steps : goal.returns-clause-steps
returns-clause-steps c = law.character_next _ _ _ c.sequence_at-n.ensures c.if-n-eq0.false _ _ (part_whole c.args.bytes.now c.args.at c.sequence_at-n.result) (search rules)
