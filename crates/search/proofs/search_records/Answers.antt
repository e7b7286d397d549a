use Rattle.std.proofs.Common.{rules, ◌≡◌}
use Rattle.record.specs.Record.{broken}
use Rattle.record.specs.Walked.{left, Passes}
use Rattle.search.proofs.Searching as law
use Rattle.search.proofs.search_records.Goals as goal

pub loop-record-init : goal.loop-record-init
loop-record-init c = (search (rules, law.search_start), search rules, search rules)

pub loop-record-preserved : goal.loop-record-preserved
loop-record-preserved c =
    let p : Passes c.loop-record.records c.in-Some-Ok.record c.next.new.self = search rules in (
      law.search_next _ _ _ _ _ _ _ _ c.loop-record.invariant.0 _ _ _ _ _ p.walked _ c.holds_in.ensures _ c.decides.ensures (search rules),
      search rules,
      search rules,
    )

pub returns-then-decides : goal.returns-then-decides
returns-then-decides c =
    let p : Passes c.loop-record.records c.in-Some-Ok.record c.next.new.self = search rules in
    law.search_decided _ _ _ _ _ _ _ _ c.loop-record.invariant.0 _ _ _ _ _ p.walked _ c.holds_in.ensures _ c.decides.ensures (search rules)

pub returns-in-Some-Err : goal.returns-in-Some-Err
returns-in-Some-Err c =
    let f : left c.loop-record.records ≡ broken c.in-Some-Err.field-0-0 = search rules in
    law.search_broken _ _ _ _ _ _ _ _ c.loop-record.invariant.0 _ c.undecided.ensures _ f

pub returns-in-None : goal.returns-in-None
returns-in-None c = law.search_end _ _ _ _ _ _ _ _ c.loop-record.invariant.0 _ c.undecided-in-None.ensures c.in-None.ensures.steps.0
