use borrow.Author.Rules.{rules}
use Prim.Native.Nat.{◌-◌}
use mathlib.Core.Path.{◌≡◌}
use Rattle.syntax.specs.Scan.{scan}
use Rattle.query_text.specs.Query.{query_from}
use Rattle.conjunction.specs.Conjunction.{comparisons}
use Rattle.conjunction.proofs.Counting as law
use Rattle.conjunction.proofs.Counting.{further}
use Rattle.conjunction.proofs.size.count_from.Given as goal

abbrev pub invariant-loop-read : goal.invariant-loop-read
invariant-loop-read l = comparisons (query_from 64 (scan l.q) l.grouped l.initial.token) ≡ further l.read (query_from (64 - l.read) (scan l.q) l.grouped l.token)
