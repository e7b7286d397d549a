use mathlib.Core.Path.{◌∙◌}
use native.Mathlib.Omega.{arith}
use lib.ListN.{length}
use Rattle.token.proofs.Laws.{no_spans}
use Rattle.token.specs.Token.{token_after, apart}
use Rattle.token.proofs.token_after.Goals as goal

pub returns-then-is_word_or_number-n : goal.returns-then-is_word_or_number-n
unfolding token_after apart
returns-then-is_word_or_number-n c = (c.none.ensures ∙ simp (← c.token_past-n.ensures.0, ← c.is_word_or_number.ensures, ← c.is_word_or_number-2.ensures, c.if-is_word_or_number-n.true), λ h. rw c.none.ensures (no_spans (length c.args.q.now) c.args.t.end c.token_past-n.result.start (c.token_past-n.ensures.1 h).begins (omega (arith, (c.token_past-n.ensures.1 h).within, (c.token_past-n.ensures.1 h).ends))))

pub returns : goal.returns
unfolding token_after apart
returns c = (simp (← c.token_past-n.ensures.0, ← c.is_word_or_number.ensures, ← c.is_word_or_number-2.ensures, c.if-is_word_or_number-n.false), c.token_past-n.ensures.1)
