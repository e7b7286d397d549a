use native.Mathlib.Omega.{arith}
use mathlib.Core.Path.{refl}
use lib.ListN.{length}
use Rattle.token.proofs.Laws.{fit_spans}
use Rattle.token.specs.Token.{text_token, is_token}
use Rattle.token.proofs.literals.text_token.Goals as goal

pub returns : goal.returns
unfolding text_token is_token
returns c = (simp (c.fit.ensures, c.string_literal.ensures.0), fit_spans (length c.args.q.now) c.args.s _ _ c.fit.ensures refl c.string_literal.ensures.1.from (omega arith))
