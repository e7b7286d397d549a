use Rattle.std.proofs.Common.{rules, ◌≡◌}
use Rattle.record.specs.Record.{broken, ended}
use Rattle.record.specs.Walked.{left, Passes}
use Rattle.report.proofs.Writing as law
use Rattle.report.proofs.output.write_answers.Goals as goal
use Rattle.report.proofs.output.write_answers.Goals.{in-None, in-Some+in_default}

pub loop-record-init : goal.loop-record-init
loop-record-init c = (search (rules, law.writing_begins), search rules, search rules)

pub loop-record-preserved : goal.loop-record-preserved
loop-record-preserved c =
    let w = c.loop-record.invariant.0 in
    let p : Passes c.loop-record.record-iterator c.in-Ok.record c.next.new.self = search rules in (
      law.writing_next _ _ _ _ _ _ _ _ _ w _ _ _ _ _ p.walked c.body_in-instance.ensures c.evaluate_accepted-answer.ensures.0 c.write_answer-place.ensures c.count_answer-totals.ensures,
      search rules,
      search rules,
    )

pub returns : goal.returns
returns c =
    let w = c.loop-record.invariant.0 in
    elim c.match-next.branch [
      | in-None b ↦ let f : left c.loop-record.record-iterator ≡ ended = search rules in law.writing_end _ _ _ _ _ _ _ _ _ w c.write_total.ensures f
      | in-Some+in_default b ↦
          let f : left c.loop-record.record-iterator ≡ broken b.in_default.field-0 = search rules in
          law.writing_broken _ _ _ _ _ _ _ _ _ w c.write_total.ensures _ f
    ]
