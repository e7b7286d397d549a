use Rattle.judge.proofs.Sides as law
use borrow.Author.Rules.{rules}
use Rattle.judge.proofs.left.left_array.Goals as goal

pub returns-in-None : goal.returns-in-None
returns-in-None c = search law.array_whole

pub returns-in-Some : goal.returns-in-Some
returns-in-Some c = search law.array_indexed

pub returns-in-Any : goal.returns-in-Any
returns-in-Any c = search law.array_any

pub returns-in-Every : goal.returns-in-Every
returns-in-Every c = search law.array_every
