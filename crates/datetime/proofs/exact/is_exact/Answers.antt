use mathlib.Core.Bool.{not}
use mathlib.Core.Path.{ap}
use Rattle.datetime.proofs.Bounds.{shape_of}
use Rattle.datetime.proofs.Laws.{passed}
use Rattle.datetime.proofs.exact.is_exact.Goals as goal

pub bounds-s-21 : goal.bounds-s-21
bounds-s-21 c = (shape_of _ (passed _ c.is_shaped.ensures (ap not c.if-not-is_shaped.false))).sign

pub decimal_at-requires : goal.decimal_at-requires
decimal_at-requires c = (shape_of _ (passed _ c.is_shaped.ensures (ap not c.if-not-is_shaped.false))).after_sign
