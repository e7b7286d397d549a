use Rattle.std.proofs.Common.{rules, inl, Err, ◌≡◌}
use Rattle.record.specs.Record.{broken, ended}
use Rattle.record.specs.Walked.{left, Passes}
use Rattle.instance.proofs.Noting as law
use Rattle.instance.proofs.conform.walk_beside.Goals as goal

pub loop-number-init-derived : goal.loop-number-init-derived
loop-number-init-derived c = ((tt, tt, inl (search rules)), tt)

pub loop-number-init : goal.loop-number-init
loop-number-init c = law.walking_begins _ _ _ _ (search rules) (search rules)

pub returns-in_default : goal.returns-in_default
returns-in_default c =
    let w = c.loop-number.invariant in
    let f : left c.loop-number.number-iterator.iter ≡ broken c.in_default.field-0 = search rules in
    (law.broken_found _ _ _ _ _ _ _ _ w _ f c.further.ensures, law.broken_noted _ _ _ _ _ _ _ _ w _ f, law.walking_same _ _ _ _ _ _ _ _ w)

pub returns-in_err-next : goal.returns-in_err-next
returns-in_err-next c =
    let w = c.loop-number.invariant in
    let p : Passes c.loop-number.number-iterator.iter c.in-Ok.property c.next.new.self.iter = search rules in
    let h : c.step_at.result ≡ Err c.in_err-next.field-0.0 = search rules in
    (law.wrong_found _ _ _ _ _ _ _ _ w _ _ _ _ _ p.walked _ c.step_at.ensures _ h (search rules), law.wrong_noted _ _ _ _ _ _ _ _ w _ _ _ _ _ p.walked _ c.step_at.ensures _ h, law.walking_same _ _ _ _ _ _ _ _ w)

pub loop-number-preserved : goal.loop-number-preserved
loop-number-preserved c =
    let w = c.loop-number.invariant in
    let p : Passes c.loop-number.number-iterator.iter c.in-Ok.property c.next.new.self.iter = search rules in
    law.walking_next _ _ _ _ _ _ _ _ w _ _ _ _ _ p.walked _ c.step_at.ensures _ (search rules) (search rules) (search rules) c.note.ensures

pub returns : goal.returns
returns c =
    let w = c.loop-number.invariant in
    let f : left c.loop-number.number-iterator.iter ≡ ended = search rules in
    (law.end_found _ _ _ _ _ _ _ _ w f c.further-2.ensures, law.end_noted _ _ _ _ _ _ _ _ w f, law.walking_same _ _ _ _ _ _ _ _ w)
