use mir.Val.{SFits}
use Rattle.std.specs.Int.{w128}
use Rattle.std.proofs.lemmas.Int.{to_z-of_z}
use Rattle.instance.specs.Value.{family_value}
use Rattle.value.specs.Unit.{units_from}
use Rattle.value.specs.Item.{listed, item_value}
use borrow.Author.Rules.{rules}
use Rattle.value.proofs.read.read_family.Goals as goal

pub returns-in-Boolean : goal.returns-in-Boolean
unfolding item_value family_value
returns-in-Boolean c = rw (c.in-Boolean.is, c.byte_at.ensures, c.piece-body.ensures)

pub returns-in-Integer : goal.returns-in-Integer
unfolding item_value family_value
returns-in-Integer c =
    let f : SFits w128 c.read_whole.result = search rules in
    rw (c.in-Integer.is, to_z-of_z w128 c.read_whole.result f, c.read_whole.ensures, c.piece-body.ensures)

pub returns-in-Real : goal.returns-in-Real
unfolding item_value family_value
returns-in-Real c = rw (c.in-Real.is, c.read_real.ensures, c.piece-body.ensures)

pub returns-in-Text : goal.returns-in-Text
unfolding item_value family_value listed units_from
returns-in-Text c = rw (c.sequence_of.ensures, c.in-Text.is)

pub returns-in-Char16 : goal.returns-in-Char16
unfolding item_value family_value listed units_from
returns-in-Char16 c = rw (c.sequence_of-in-Char16.ensures, c.in-Char16.is)

pub returns-in-Octets : goal.returns-in-Octets
unfolding item_value family_value listed units_from
returns-in-Octets c = rw (c.sequence_of-in-Octets.ensures, c.in-Octets.is)

pub returns-in-Datetime : goal.returns-in-Datetime
unfolding item_value family_value
returns-in-Datetime c = rw (c.in-Datetime.is, c.read_datetime.ensures, c.piece-body.ensures)

pub returns-in-Reference : goal.returns-in-Reference
unfolding item_value family_value listed units_from
returns-in-Reference c = rw (c.sequence_of-in-Reference.ensures, c.in-Reference.is)
