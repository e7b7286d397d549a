use native.Mathlib.Omega.{arith}
use Rattle.datetime.proofs.Months as law
use Rattle.datetime.proofs.calendar.days_before_month.Goals as goal

pub returns-then-leap-m : goal.returns-then-leap-m
returns-then-leap-m c = (law.with_leap_day c.args.leap c.args.m c.requires.1 c.days_before_month_of_common_year-days.ensures.0 c.if-leap-m.true, omega (arith, c.days_before_month_of_common_year-days.ensures.1))

pub returns-else-leap-m : goal.returns-else-leap-m
returns-else-leap-m c = (law.without_leap_day c.args.leap c.args.m c.requires.1 c.days_before_month_of_common_year-days.ensures.0 c.if-leap-m.false, omega (arith, c.days_before_month_of_common_year-days.ensures.1))
