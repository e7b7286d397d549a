-- What the code's answers say, over the query that they were read from.
use Rattle.std.specs.Prelude.{ℕ, List, Err, Ok, Result}
use Rattle.value.specs.Item.{item_value}
use Rattle.operand.specs.declared.literal_read.ReadFault.TheVariants.{Misfit, OutOfRange, Malformed}
use Rattle.operand.specs.LiteralReading.{LiteralReading, misfit, out_of_range, malformed, reads}
use Rattle.value.specs.declared.item.Item.{Item}
use Rattle.operand.specs.declared.literal_read.ReadFault.{ReadFault}

unfoldable pub reading_of : (query : List ℕ) → Result Item ReadFault → LiteralReading
reading_of q (Err Misfit) = misfit
reading_of q (Err OutOfRange) = out_of_range
reading_of q (Err Malformed) = malformed
reading_of q (Ok x) = reads (item_value q x)
