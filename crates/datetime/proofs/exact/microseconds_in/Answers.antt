use native.Mathlib.Omega.{arith}
use Rattle.datetime.proofs.Bounds.{shape_of}
use Rattle.datetime.proofs.Laws as law
use Rattle.datetime.proofs.exact.microseconds_in.Goals as goal

pub decimal_at-requires : goal.decimal_at-requires
decimal_at-requires c = (shape_of _ (law.exact_shaped _ c.requires)).before_point 0 8 (omega arith)

pub add_time-requires : goal.add_time-requires
add_time-requires c = (law.days_below _ c.requires c.decimal_at.ensures, law.time_passes _ c.requires c.time_in-t.ensures, law.microsecond_below _ c.requires c.time_in-t.ensures)

pub days_before-requires : goal.days_before-requires
days_before-requires c = law.dated _ c.requires c.if-sign-eq58.false c.date_in.ensures

pub add_time-local-requires : goal.add_time-local-requires
add_time-local-requires c = (omega (arith, c.days_before.ensures.1), law.time_passes _ c.requires c.time_in-t.ensures, law.microsecond_below _ c.requires c.time_in-t.ensures)

pub decimal_at-requires-2 : goal.decimal_at-requires-2
decimal_at-requires-2 c = (shape_of _ (law.exact_shaped _ c.requires)).after_sign

pub less_offset-requires : goal.less_offset-requires
less_offset-requires c = (omega (arith, c.add_time-local.ensures.1), law.minutes_below _ c.requires c.decimal_at-2.ensures)
