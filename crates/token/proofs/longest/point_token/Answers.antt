use native.Mathlib.Omega.{arith}
use mathlib.Core.Path.{refl}
use lib.ListN.{length}
use Rattle.token.proofs.Laws.{fit_spans, long_spans, sym_spans}
use Rattle.token.specs.Token.{is_token}
use Rattle.token.proofs.longest.point_token.Goals as goal

pub returns : goal.returns
unfolding is_token
returns c =
    let n = length c.args.q.now in
    let s = c.args.s in (
      simp (c.longer_of.ensures, c.fit-r.ensures, c.symbol_of.ensures, c.real_literal.ensures.0),
      long_spans n s c.longer_of.ensures (fit_spans n s _ _ c.fit-r.ensures refl c.real_literal.ensures.1.from (omega (arith, c.requires, c.real_literal.ensures.1.from, c.real_literal.ensures.1.reach)))
          (sym_spans n s _ _ c.symbol_of.ensures (omega arith) (omega arith) (λ y. omega arith)),
    )
