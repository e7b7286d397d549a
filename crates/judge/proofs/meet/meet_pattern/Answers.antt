use Rattle.judge.proofs.Meeting as law
use borrow.Author.Rules.{rules}
use Rattle.judge.specs.Meaning.{meet}
use Rattle.judge.specs.Answers.{judged, left_seen}
use Rattle.judge.proofs.meet.meet_pattern.Goals as goal

pub returns-in-One : goal.returns-in-One
returns-in-One c = search law.pattern_one

pub returns-in_default : goal.returns-in_default
unfolding judged meet left_seen
returns-in_default c = rw c.at.ensures (search rules)
