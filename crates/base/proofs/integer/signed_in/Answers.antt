use mathlib.Core.Path.{ap, ◌∙◌}
use native.Mathlib.Omega.{arith}
use Rattle.std.proofs.lemmas.Int.{ints}
use Rattle.base.specs.LittleEndian.{twos_complement}
use Rattle.base.proofs.LittleEndian.{signed_low, signed_high}
use Rattle.base.proofs.integer.signed_in.Goals as goal

pub returns-then-u-ones : goal.returns-then-u-ones
returns-then-u-ones c = omega (arith, ints, c.from.ensures) ∙ signed_low _ _ c.unsigned_of-u.ensures.0 c.all_ones-ones.ensures c.if-u-ones.true ∙ ap twos_complement c.piece-body.ensures

pub returns : goal.returns
returns c = omega (arith, ints, c.from-2.ensures, c.from-3.ensures)
    ∙ signed_high _ _ c.unsigned_of-u.ensures.0 c.all_ones-ones.ensures c.if-u-ones.false c.unsigned_of-u.ensures.1
    ∙ ap twos_complement c.piece-body.ensures
