use borrow.Author.Rules.{rules}
use Rattle.conjunction.specs.Groups.{terms_from, terms_of}
use Rattle.conjunction.specs.Terms.{term_at}
use Rattle.conjunction.specs.Conjunction.{chained, each, text}
use Rattle.conjunction.proofs.Walk.{left}
use Rattle.conjunction.proofs.Reading as reading
use Rattle.conjunction.proofs.Writing as law
use Rattle.conjunction.proofs.Writing.{Writing}
use Rattle.conjunction.proofs.write.write_beside.Goals as goal

pub loop-next-init : goal.loop-next-init
loop-next-init c = search law.beside_begins

pub shape_of-out-in_default : goal.shape_of-out-in_default
shape_of-out-in_default c = search law.writing_same

pub returns-in_default : goal.returns-in_default
returns-in_default c = search law.beside_done

pub loop-next-smaller : goal.loop-next-smaller
loop-next-smaller c = search reading.term_nearer

pub loop-next-preserved : goal.loop-next-preserved
loop-next-preserved c = search law.beside_goes_on
