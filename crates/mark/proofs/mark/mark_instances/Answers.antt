use Rattle.std.proofs.Common.{rules, inl, ◌≡◌}
use native.Mathlib.Omega.{arith}
use Rattle.record.specs.Record.{broken, ended}
use Rattle.record.specs.Walked.{left, Passes}
use Rattle.mark.proofs.Marking as law
use Rattle.mark.proofs.mark.mark_instances.Goals as goal

pub loop-number-init-derived : goal.loop-number-init-derived
loop-number-init-derived c = ((tt, tt, inl (search rules)), tt)

pub loop-number-init : goal.loop-number-init
loop-number-init c = (law.marking_begins _ _ _ _ c.requires.1 (search rules) (search rules), search rules)

pub returns-in_default : goal.returns-in_default
returns-in_default c =
    let f : left c.loop-number.number-iterator.iter ≡ broken c.in_default.field-0 = search rules in
    law.marking_broken _ _ _ _ _ _ _ _ c.loop-number.invariant.0 _ f

pub bounds-marks-number : goal.bounds-marks-number
bounds-marks-number c =
    let p : Passes c.loop-number.number-iterator.iter c.in-Ok.record c.next.new.self.iter = search rules in
    law.marking_room _ _ _ _ _ _ _ _ c.loop-number.invariant.0 _ _ _ _ _ p.walked (search rules)

pub count_answer-totals-requires : goal.count_answer-totals-requires
count_answer-totals-requires c =
    let p : Passes c.loop-number.number-iterator.iter c.in-Ok.record c.next.new.self.iter = search rules in
    let m = law.marking_few _ _ _ _ _ _ _ _ c.loop-number.invariant.0 _ _ _ _ _ p.walked in
    omega (arith, c.well_formed)

pub loop-number-preserved : goal.loop-number-preserved
loop-number-preserved c =
    let p : Passes c.loop-number.number-iterator.iter c.in-Ok.record c.next.new.self.iter = search rules in
    (law.marking_next _ _ _ _ _ _ _ _ c.loop-number.invariant.0 _ _ _ _ _ p.walked c.body_in-instance.ensures c.evaluate_accepted-answer.ensures.0 c.mark_of.ensures c.count_answer-totals.ensures (search rules) (search rules), search rules)

pub returns : goal.returns
returns c =
    let f : left c.loop-number.number-iterator.iter ≡ ended = search rules in
    law.marking_end _ _ _ _ _ _ _ _ c.loop-number.invariant.0 f
