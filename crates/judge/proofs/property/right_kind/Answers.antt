use Rattle.judge.proofs.RightSides as law
use borrow.Author.Rules.{rules}
use Rattle.judge.proofs.property.right_kind.Goals as goal

pub returns-in-Unknown : goal.returns-in-Unknown
returns-in-Unknown c = search law.kind_unknown

pub returns-in-Scalar : goal.returns-in-Scalar
returns-in-Scalar c = search law.kind_scalar

pub returns-in-Array : goal.returns-in-Array
returns-in-Array c = search law.kind_array
