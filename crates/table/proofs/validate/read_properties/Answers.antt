use Rattle.std.proofs.Common.{rules, refl, []}
use Rattle.record.proofs.Reach.{here}
use Rattle.record.specs.Walked.{Passes}
use Rattle.table.specs.Table
use Rattle.table.proofs.Laws as law
use Rattle.table.proofs.Hashes as hash-law
use Rattle.table.proofs.validate.read_properties.Goals as goal

pub loop-record-init : goal.loop-record-init
loop-record-init c = rw (c.into_iter-record-iterator.ensures.into_iter_gives, c.records_from-record-items.ensures.stands.0, c.records_from-record-items.ensures.stands.1) (refl, here, law.count_start _ _, law.properties_start _ _, refl, law.hashes_start _ _ [])

pub returns-in_err-record : goal.returns-in_err-record
returns-in_err-record c = search (rules, law.properties_broken)

pub returns-then-count-ge128 : goal.returns-then-count-ge128
returns-then-count-ge128 c = search (rules, law.properties_many)

pub returns-then-not-is_property_record : goal.returns-then-not-is_property_record
unfolding Table.properties
returns-then-not-is_property_record c = search (rules, law.properties_bad)

pub returns-then-is_used : goal.returns-then-is_used
unfolding Table.properties
returns-then-is_used c = search (rules, law.properties_twice)

pub loop-record-preserved : goal.loop-record-preserved
unfolding Table.properties
loop-record-preserved c =
    let p : Passes c.loop-record.record-iterator c.in_ok-record.record c.next.new.self = search rules in
    let i = c.loop-record.invariant in (
      law.stays _ c.args.first p i.0 i.1,
      law.walked _ c.args.first p i.0 i.1,
      law.count_next _ c.args.first p i.0 i.1 _ i.2,
      law.properties_walked _ c.args.first p i.0 i.1 _ (search (rules, law.properties_next)),
      hash-law.hashes_size _ _ _ i.4,
      search (rules, law.hashes_next),
    )

pub returns : goal.returns
returns c = search (rules, law.properties_end)
