use native.Mathlib.Omega.{arith}
use mathlib.Core.Path.{sym, ◌∙◌}
use lib.ListN.{length}
use Rattle.token.proofs.Laws.{sym_spans, pair_fits, single_fits}
use Rattle.token.proofs.Spans.{moved_spans}
use Rattle.token.proofs.Symbols.{two_bytes_law, one_byte}
use Rattle.token.specs.Token.{symbol_token, single_kind}
use Rattle.token.proofs.symbol.symbol_token.Goals as goal

pub returns-then-is_token : goal.returns-then-is_token
unfolding symbol_token
returns-then-is_token c =
    let q = c.args.q.now in
    let s = c.args.s in
    let h = sym c.is_token.ensures ∙ c.if-is_token.true in
    (rw (← c.byte_at-b.ensures, ← c.byte_at.ensures, ← c.pair_kind-kind.ensures) (sym (two_bytes_law s _ (single_kind c.byte_at-b.result) h)), moved_spans (length q) s _ _ h (omega arith) (pair_fits q s _ _ c.pair_kind-kind.ensures c.byte_at-b.ensures c.byte_at.ensures h))

pub returns : goal.returns
unfolding symbol_token
returns c =
    let q = c.args.q.now in
    let s = c.args.s in
    let h = sym c.is_token.ensures ∙ c.if-is_token.false in
    (rw (← c.byte_at-b.ensures, ← c.byte_at.ensures, ← c.pair_kind-kind.ensures, ← c.single_kind.ensures) (c.symbol_of.ensures ∙ sym (one_byte s _ _ h)), sym_spans (length q) s _ _ c.symbol_of.ensures (omega arith) (omega arith) (single_fits q s _ c.single_kind.ensures c.byte_at-b.ensures))
