use Rattle.judge.proofs.Sides as law
use borrow.Author.Rules.{rules}
use Rattle.judge.proofs.left.read_indexed.Goals as goal

pub returns-in-Some : goal.returns-in-Some
returns-in-Some c = search law.indexed_reads

pub returns-in-None : goal.returns-in-None
returns-in-None c = search law.indexed_large
