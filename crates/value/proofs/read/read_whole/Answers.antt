use mathlib.Core.Path.{◌∙◌}
use mir.Val.{SFits}
use Rattle.std.specs.Int.{w128}
use Rattle.std.proofs.lemmas.Int.{to_z-of_z}
use borrow.Author.Rules.{rules}
use Rattle.value.proofs.read.read_whole.Goals as goal

pub returns-then-signed : goal.returns-then-signed
returns-then-signed c =
    let f : SFits w128 c.signed_in.result = search rules in
    to_z-of_z w128 c.signed_in.result f ∙ c.signed_in.ensures ∙ rw c.if-signed.true

pub returns : goal.returns
returns c =
    let f : SFits w128 c.from.result = search rules in
    to_z-of_z w128 c.from.result f ∙ c.from.ensures ∙ rw (c.unsigned_in.ensures, c.if-signed.false)
