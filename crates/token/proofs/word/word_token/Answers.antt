use mathlib.Core.Path.{◌≡◌, sym, ◌∙◌}
use mathlib.Core.Bool.{true}
use Rattle.base.specs.Part.{byte_at}
use native.Mathlib.Omega.{arith}
use lib.ListN.{length}
use Rattle.record.specs.Name.{letter}
use Rattle.token.proofs.Laws.{word_kind_some}
use Rattle.token.proofs.Spans.{none_spans, moved_spans}
use Rattle.token.proofs.Words.{word_moves, a_word}
use Rattle.token.specs.Token.{word_token}
use Rattle.token.proofs.word.word_token.Goals as goal

pub returns-then-is_letter : goal.returns-then-is_letter
returns-then-is_letter c =
    let q = c.args.q.now in
    let s = c.args.s in
    let h : letter (byte_at q s) ≡ true = rw (← c.byte_at.ensures) (sym c.is_letter.ensures ∙ c.if-is_letter.true) in
    (a_word q s h c.run_end-e.ensures.0 c.word_kind-kind.ensures, moved_spans (length q) s _ _ (word_kind_some _ c.word_kind-kind.ensures) (rw c.run_end-e.ensures.0 (word_moves q s h)) (omega (arith, c.requires, c.run_end-e.ensures.1.from, c.run_end-e.ensures.1.reach)))

pub returns : goal.returns
unfolding word_token
returns c =
    (c.none.ensures ∙ simp (← c.byte_at.ensures, ← c.is_letter.ensures, c.if-is_letter.false), rw c.none.ensures (none_spans (length c.args.q.now) c.args.s c.requires))
