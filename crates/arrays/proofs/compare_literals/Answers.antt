use Rattle.std.proofs.Common.{rules, ◌≡◌}
use Rattle.record.specs.Record.{broken, ended}
use Rattle.record.specs.Walked.{left, Passes}
use Rattle.arrays.proofs.Comparing as law
use Rattle.arrays.proofs.compare_literals.Goals as goal

pub loop-record-init : goal.loop-record-init
loop-record-init c = (search (rules, law.literals_first), search rules, search rules)

pub loop-record-preserved : goal.loop-record-preserved
loop-record-preserved c =
    let p : Passes c.loop-record.record-iterator c.in-Ok.record c.next.new.self = search rules in (
      law.literals_next _ _ _ _ _ _ _ _ _ c.loop-record.invariant.0 _ _ _ _ _ p.walked _ c.literal_item_or_null-y.ensures _ c.holds_in.ensures (search rules) _ c.next_element-t.ensures,
      search rules,
      search rules,
    )

pub returns-else-holds_in : goal.returns-else-holds_in
returns-else-holds_in c =
    let p : Passes c.loop-record.record-iterator c.in-Ok.record c.next.new.self = search rules in
    law.literals_differ _ _ _ _ _ _ _ _ _ c.loop-record.invariant.0 _ _ _ _ _ p.walked _ c.literal_item_or_null-y.ensures _ c.holds_in.ensures (search rules) _ c.tell-else-holds_in.ensures

pub returns-in_default : goal.returns-in_default
returns-in_default c =
    let f : left c.loop-record.record-iterator ≡ broken c.in_default.field-0 = search rules in
    law.literals_broken _ _ _ _ _ _ _ _ _ c.loop-record.invariant.0 _ f _ c.tell.ensures

pub returns : goal.returns
returns c =
    let f : left c.loop-record.record-iterator ≡ ended = search rules in
    law.literals_over _ _ _ _ _ _ _ _ _ c.loop-record.invariant.0 f _ c.tell-2.ensures
