use borrow.Author.Tests.{le-leb, lt-leb}
use native.Mathlib.Omega.{arith}
use lib.ListN.{length}
use Rattle.token.proofs.Laws.{end_spans, from_spans}
use Rattle.token.specs.Token.{token_at, token_from}
use Rattle.token.proofs.first.first_token.Goals as goal

pub returns-then-q-s : goal.returns-then-q-s
unfolding token_at token_from
returns-then-q-s c = (simp (← c.run_end-s.ensures.0, le-leb _ _ c.if-q-s.true), λ h. end_spans (length c.args.q.now) c.args.at c.run_end-s.result c.run_end-s.ensures.1.from (omega arith))

pub returns : goal.returns
unfolding token_at token_from
returns c = (simp (← c.run_end-s.ensures.0, lt-leb _ _ c.if-q-s.false, c.longest_at.ensures.0), λ h. from_spans (length c.args.q.now) c.args.at c.run_end-s.result c.run_end-s.ensures.1.from c.longest_at.ensures.1)
