use Prim.Native.Nat.{◌%◌}
use native.Mathlib.Omega.{arith}
use Rattle.datetime.proofs.Years.{days_by_cycle, leap_years_le}
use Rattle.datetime.proofs.calendar.days_before_year.Goals as goal

pub overflow_add-result : goal.overflow_add-result
overflow_add-result c = omega (arith, leap_years_le (c.args.y % 400))

pub returns : goal.returns
returns c = let e = days_by_cycle c.args.y c.days_before_in_cycle.result c.days_before_in_cycle.ensures in (e, omega (arith, leap_years_le c.args.y, e))
