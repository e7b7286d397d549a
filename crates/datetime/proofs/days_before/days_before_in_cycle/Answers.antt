use Rattle.base.proofs.Tabulate.{tab_at}
use Rattle.datetime.specs.Calendar.{days_before_year, leap_years}
use borrow.Author.Rules.{rules}
use Rattle.datetime.proofs.days_before.days_before_in_cycle.Goals as goal

pub returns : goal.returns
unfolding leap_years
returns c = tab_at days_before_year 400 c.args.k 0 (search rules)
