use borrow.Author.Rules.{rules}
use Rattle.conjunction.specs.Terms.{term_at}
use Rattle.conjunction.specs.Conjunction.{term_text}
use Rattle.conjunction.proofs.Walk.{left}
use Rattle.conjunction.proofs.Reading as reading
use Rattle.conjunction.proofs.Writing as law
use Rattle.conjunction.proofs.Writing.{Writing}
use Rattle.conjunction.proofs.write.write_term.Goals as goal

pub loop-op-init : goal.loop-op-init
loop-op-init c = law.writing_begins

pub shape_of-out-in-None : goal.shape_of-out-in-None
shape_of-out-in-None c = search law.writing_same

pub returns-in-None : goal.returns-in-None
returns-in-None c = search law.term_done

pub shape_of-out-in-Or : goal.shape_of-out-in-Or
shape_of-out-in-Or c = search law.writing_same

pub returns-in-Or : goal.returns-in-Or
returns-in-Or c = search law.term_before_or

pub loop-op-smaller : goal.loop-op-smaller
loop-op-smaller c = search reading.group_nearer

pub loop-op-preserved : goal.loop-op-preserved
loop-op-preserved c = search law.term_goes_on
