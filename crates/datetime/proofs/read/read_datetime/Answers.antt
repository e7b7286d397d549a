use mathlib.Core.Bool.{not}
use mathlib.Core.Path.{ap}
use native.Mathlib.Omega.{arith}
use Rattle.datetime.proofs.Known.{known_most}
use Rattle.datetime.proofs.Highest.{text_long}
use Rattle.datetime.proofs.Reading as law
use Rattle.datetime.proofs.read.read_datetime.Goals as goal

pub returns-then-is_exact : goal.returns-then-is_exact
returns-then-is_exact c = law.exact_read _ c.is_exact.ensures c.if-is_exact.true c.microseconds_in-moment.ensures c.sort_by_sign.ensures

pub returns-then-not-is_starred : goal.returns-then-not-is_starred
returns-then-not-is_starred c = law.says_nothing _ c.is_starred.ensures (ap not c.if-not-is_starred.true)

pub bounds-s-21-2 : goal.bounds-s-21-2
bounds-s-21-2 c = omega (arith, text_long _ _ (known_most _) (law.says_so _ c.is_starred.ensures (ap not c.if-not-is_starred.false)))

pub returns : goal.returns
returns c = law.says_span _ c.is_starred.ensures (ap not c.if-not-is_starred.false) c.span_in-span.ensures c.sort_by_sign-2.ensures
