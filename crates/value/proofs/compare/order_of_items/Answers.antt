use mir.Val.{SFits}
use Rattle.std.specs.Int.{w128}
use Rattle.std.proofs.lemmas.Int.{to_z-of_z}
use Rattle.value.proofs.Ordering as law
use Rattle.value.specs.Compare.{order_of_scalars}
use Rattle.value.specs.Item.{item_value}
use borrow.Author.Rules.{rules}
use Rattle.value.proofs.compare.order_of_items.Goals as goal

pub returns-in-Truth-Truth : goal.returns-in-Truth-Truth
unfolding item_value order_of_scalars
returns-in-Truth-Truth c = rw (c.in-Truth-Truth.is-0, c.in-Truth-Truth.is-1) c.order_of_truths.ensures

pub returns-in-Integer-Integer : goal.returns-in-Integer-Integer
unfolding item_value order_of_scalars
returns-in-Integer-Integer c =
    let f : SFits w128 c.in-Integer-Integer.m = search rules in
    let g : SFits w128 c.in-Integer-Integer.n = search rules in
    rw (c.in-Integer-Integer.is-0, c.in-Integer-Integer.is-1) (rw (to_z-of_z w128 c.in-Integer-Integer.m f, to_z-of_z w128 c.in-Integer-Integer.n g) at c.order_of_whole.ensures)

pub returns-in-Real-Real : goal.returns-in-Real-Real
unfolding item_value order_of_scalars
returns-in-Real-Real c = rw (c.in-Real-Real.is-0, c.in-Real-Real.is-1) c.order_of_reals.ensures

pub returns-in-Datetime-Datetime : goal.returns-in-Datetime-Datetime
unfolding item_value order_of_scalars
returns-in-Datetime-Datetime c = rw (c.in-Datetime-Datetime.is-0, c.in-Datetime-Datetime.is-1) c.order_of_datetimes.ensures

pub returns-in-Sequence-Sequence : goal.returns-in-Sequence-Sequence
unfolding item_value
returns-in-Sequence-Sequence c = rw (c.in-Sequence-Sequence.is-0, c.in-Sequence-Sequence.is-1) c.order_of_sequences.ensures

pub returns-in_default : goal.returns-in_default
returns-in_default c = search law.beside_truth

pub returns-in_default-2 : goal.returns-in_default-2
returns-in_default-2 c = search law.beside_whole

pub returns-in_default-3 : goal.returns-in_default-3
returns-in_default-3 c = search law.beside_real

pub returns-in_default-4 : goal.returns-in_default-4
returns-in_default-4 c = search law.beside_datetime

pub returns-in_default-5 : goal.returns-in_default-5
returns-in_default-5 c = search law.beside_sequence

pub returns-in_default-6 : goal.returns-in_default-6
returns-in_default-6 c = search law.beside_null
