use borrow.Author.Rules.{rules}
use Rattle.conjunction.proofs.Walk.{left}
use Rattle.conjunction.proofs.Reading as law
use Rattle.conjunction.proofs.Reading.{Searching}
use Rattle.conjunction.proofs.group.next_term.Goals as goal

pub loop-op-init : goal.loop-op-init
loop-op-init c = law.search_begins

pub returns-in-None : goal.returns-in-None
returns-in-None c = search law.found_none

pub returns-in-Or : goal.returns-in-Or
returns-in-Or c = search law.found_term

pub loop-op-smaller : goal.loop-op-smaller
loop-op-smaller c = search law.search_nearer

pub loop-op-preserved : goal.loop-op-preserved
loop-op-preserved c = search law.search_on
