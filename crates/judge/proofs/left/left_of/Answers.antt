use Rattle.judge.proofs.Judging as law
use borrow.Author.Rules.{rules}
use Rattle.judge.proofs.left.left_of.Goals as goal

pub returns-in-Unknown : goal.returns-in-Unknown
returns-in-Unknown c = search law.left_unknown

pub returns-in-Scalar : goal.returns-in-Scalar
returns-in-Scalar c = search law.left_scalar_law

pub returns-in-Array : goal.returns-in-Array
returns-in-Array c = search law.left_array_law
