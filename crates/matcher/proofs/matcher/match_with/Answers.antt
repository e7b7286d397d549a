use Rattle.matcher.proofs.Texts as law
use Rattle.encoding.proofs.WellFormed.{sequence_fits}
use native.Mathlib.Omega.{arith}
use Rattle.matcher.proofs.matcher.match_with.Goals as goal

pub loop-at-init : goal.loop-at-init
loop-at-init c = search law.matching_start

pub returns-then-n-eq0 : goal.returns-then-n-eq0
returns-then-n-eq0 c = law.matched_stop c.loop-at.invariant c.sequence_at-n.ensures c.if-n-eq0.true c.accepts.ensures

pub overflow_add-characters : goal.overflow_add-characters
overflow_add-characters c = omega (arith, law.matching_fewer c.loop-at.invariant c.count_from.ensures)

pub returns-then-set-eq0 : goal.returns-then-set-eq0
returns-then-set-eq0 c = law.matched_dead c.loop-at.invariant _ _ c.sequence_at-n.ensures c.if-n-eq0.false c.hit_at.ensures c.next_set-set.ensures c.if-set-eq0.true c.count_from.ensures

pub overflow_add-at : goal.overflow_add-at
overflow_add-at c = omega (arith, sequence_fits c.args.text.now c.loop-at.at, c.sequence_at-n.ensures)

pub loop-at-smaller : goal.loop-at-smaller
loop-at-smaller c = omega (arith, sequence_fits c.args.text.now c.loop-at.at, c.sequence_at-n.ensures, c.if-n-eq0.false)

pub loop-at-preserved : goal.loop-at-preserved
loop-at-preserved c = law.matching_next c.loop-at.invariant _ _ c.sequence_at-n.ensures c.if-n-eq0.false c.hit_at.ensures c.next_set-set.ensures c.if-set-eq0.false c.step-live.ensures

pub returns : goal.returns
returns c = law.matched_end c.loop-at.invariant c.loop-at-test.false c.accepts-2.ensures
