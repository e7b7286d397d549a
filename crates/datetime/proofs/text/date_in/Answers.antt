use Rattle.datetime.specs.Text.{date_in}
use native.Mathlib.Omega.{arith}
use Rattle.datetime.proofs.Bounds.{shape_of}
use Rattle.datetime.proofs.text.date_in.Goals as goal

pub decimal_at-requires : goal.decimal_at-requires
decimal_at-requires c = (shape_of _ c.requires).before_point 0 4 (omega arith)

pub decimal_at-requires-2 : goal.decimal_at-requires-2
decimal_at-requires-2 c = (shape_of _ c.requires).before_point 4 2 (omega arith)

pub decimal_at-requires-3 : goal.decimal_at-requires-3
decimal_at-requires-3 c = (shape_of _ c.requires).before_point 6 2 (omega arith)

pub returns : goal.returns
unfolding date_in
returns c = rw (c.decimal_at.ensures, c.decimal_at-2.ensures, c.decimal_at-3.ensures)
