use native.Mathlib.Omega.{arith}
use mathlib.Core.Path.{refl}
use lib.ListN.{length}
use borrow.Author.Tests.{ltb-true}
use Rattle.base.proofs.Says.{and_both}
use Rattle.token.proofs.Laws.{fit_spans, long_spans}
use Rattle.token.proofs.Spans.{moved_spans}
use Rattle.token.proofs.Digits.{digits_alone}
use Rattle.token.specs.Token.{number_token, is_token}
use Rattle.token.proofs.literals.number_token.Goals as goal

pub returns-then-s-e : goal.returns-then-s-e
unfolding is_token
returns-then-s-e c =
    let n = length c.args.q.now in
    let s = c.args.s in
    let l = ltb-true s c.decimal_literal-e.result (and_both _ _ c.if-s-e.true).0 in
    (digits_alone c.args.q.now s c.decimal_literal-e.ensures.0 c.byte_at-next.ensures c.is_one_of.ensures c.is_one_of-2.ensures c.if-s-e.true, moved_spans n s _ _ refl l (omega (arith, c.requires, c.decimal_literal-e.ensures.1.from, c.decimal_literal-e.ensures.1.reach)))

pub returns : goal.returns
unfolding number_token is_token
returns c =
    let n = length c.args.q.now in
    let s = c.args.s in (
      simp (c.longer_of.ensures, c.fit-d.ensures, c.decimal_literal-e.ensures.0, c.other_form.ensures.0),
      long_spans n s c.longer_of.ensures (fit_spans n s _ _ c.fit-d.ensures refl c.decimal_literal-e.ensures.1.from (omega (arith, c.requires, c.decimal_literal-e.ensures.1.from, c.decimal_literal-e.ensures.1.reach))) c.other_form.ensures.1,
    )
