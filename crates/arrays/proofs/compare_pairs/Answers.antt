use Rattle.std.proofs.Common.{rules, ◌≡◌}
use Rattle.record.specs.Record.{broken}
use Rattle.record.specs.Walked.{left, Passes}
use Rattle.arrays.proofs.Comparing as law
use Rattle.arrays.proofs.compare_pairs.Goals as goal

pub loop-x-init : goal.loop-x-init
loop-x-init c = (search (rules, law.pairs_first), search rules, search rules, search rules)

pub loop-x-preserved : goal.loop-x-preserved
loop-x-preserved c =
    let inv = c.loop-x.invariant in
    let p : Passes c.loop-x.x-iterator.a c.in-Ok.x c.next.new.self.a = search rules in
    let q : Passes c.loop-x.x-iterator.b c.in-Ok-y.y c.next.new.self.b = search rules in (
      law.pairs_next _ _ _ _ _ _ _ _ _ inv.0 inv.1 _ _ _ _ _ p.walked _ _ _ _ _ q.walked _ c.read_item-other.ensures _ c.holds_in.ensures (search rules),
      law.pairs_level _ _ _ _ _ _ _ _ _ inv.0 inv.1 _ _ _ _ _ p.walked _ _ _ _ _ q.walked _ c.read_item-other.ensures _ c.holds_in.ensures,
      search rules,
      search rules,
    )

pub returns-else-holds_in : goal.returns-else-holds_in
returns-else-holds_in c =
    let inv = c.loop-x.invariant in
    let p : Passes c.loop-x.x-iterator.a c.in-Ok.x c.next.new.self.a = search rules in
    let q : Passes c.loop-x.x-iterator.b c.in-Ok-y.y c.next.new.self.b = search rules in
    law.pairs_differ _ _ _ _ _ _ _ _ _ inv.0 inv.1 _ _ _ _ _ p.walked _ _ _ _ _ q.walked _ c.read_item-other.ensures _ c.holds_in.ensures (search rules) _ c.tell-else-holds_in.ensures

pub returns-in_default : goal.returns-in_default
returns-in_default c =
    let f : left c.loop-x.x-iterator.a ≡ broken c.in_default.field-0 = search rules in
    law.pairs_broken _ _ _ _ _ _ _ _ _ c.loop-x.invariant.0 c.loop-x.invariant.1 _ f _ c.tell.ensures

pub returns-in_default-y : goal.returns-in_default-y
returns-in_default-y c =
    let f : left c.loop-x.x-iterator.b ≡ broken c.in_default-y.field-0 = search rules in
    law.pairs_other_broken _ _ _ _ _ _ _ _ _ c.loop-x.invariant.0 c.loop-x.invariant.1 _ f _ c.tell-in_default-y.ensures

pub returns : goal.returns
returns c =
    law.pairs_over _ _ _ _ _ _ _ _ _ c.loop-x.invariant.0 c.loop-x.invariant.1 (law.either_ended _ _ _ _ _ c.next.ensures.steps (search rules)) _ c.tell-2.ensures
