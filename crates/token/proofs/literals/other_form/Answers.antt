use native.Mathlib.Omega.{arith}
use mathlib.Core.Path.{refl}
use lib.ListN.{length}
use Rattle.token.proofs.Laws.{fit_spans, long_spans}
use Rattle.token.specs.Token.{is_token}
use Rattle.token.proofs.literals.other_form.Goals as goal

pub returns : goal.returns
unfolding is_token
returns c =
    let n = length c.args.q.now in
    let s = c.args.s in (
      simp (c.longer_of-2.ensures, c.longer_of.ensures, c.fit-b.ensures, c.fit-h.ensures, c.fit-r.ensures, c.binary_literal.ensures.0, c.hex_literal.ensures.0, c.real_literal.ensures.0),
      long_spans n s c.longer_of-2.ensures (fit_spans n s _ _ c.fit-b.ensures refl c.binary_literal.ensures.1.from (omega (arith, c.requires, c.binary_literal.ensures.1.from, c.binary_literal.ensures.1.reach)))
          (long_spans n s c.longer_of.ensures (fit_spans n s _ _ c.fit-h.ensures refl c.hex_literal.ensures.1.from (omega (arith, c.requires, c.hex_literal.ensures.1.from, c.hex_literal.ensures.1.reach)))
          (fit_spans n s _ _ c.fit-r.ensures refl c.real_literal.ensures.1.from (omega (arith, c.requires, c.real_literal.ensures.1.from, c.real_literal.ensures.1.reach)))),
    )
