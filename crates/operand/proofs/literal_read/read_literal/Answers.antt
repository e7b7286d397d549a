use native.Mathlib.Omega.{arith}
use borrow.Author.Rules.{rules}
use Rattle.operand.proofs.Laws as law
use Rattle.operand.proofs.literal_read.read_literal.Goals as goal

pub returns-then-not-fits : goal.returns-then-not-fits
returns-then-not-fits c = law.literal_unfit _ _ _ (omega arith) c.is_unsigned_hex.ensures c.sort_of.ensures c.fits.ensures c.if-not-fits.true

pub returns-in-Err : goal.returns-in-Err
returns-in-Err c =
    law.literal_fault _ _ _ (omega arith) c.is_unsigned_hex.ensures c.sort_of.ensures c.fits.ensures c.if-not-fits.false c.same_row.ensures c.literal_of.ensures _ c.in-Err.is _ c.from.ensures

pub returns-then-is_no_datetime : goal.returns-then-is_no_datetime
returns-then-is_no_datetime c =
    law.literal_malformed _ _ _ (omega arith) c.is_unsigned_hex.ensures c.sort_of.ensures c.fits.ensures c.if-not-fits.false c.same_row.ensures c.literal_of.ensures
    _ c.in-Ok.is _ c.literal_item-item.ensures c.is_no_datetime.ensures c.if-is_no_datetime.true

pub returns : goal.returns
returns c =
    law.literal_reads _ _ _ (omega arith) c.is_unsigned_hex.ensures c.sort_of.ensures c.fits.ensures c.if-not-fits.false c.same_row.ensures c.literal_of.ensures
    _ c.in-Ok.is _ c.literal_item-item.ensures c.is_no_datetime.ensures c.if-is_no_datetime.false
