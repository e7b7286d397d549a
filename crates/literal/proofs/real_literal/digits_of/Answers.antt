use Rattle.base.proofs.Digits.{fits_limit}
use Rattle.literal.proofs.Laws as law
use borrow.Author.Rules.{rules}
use Rattle.literal.proofs.real_literal.digits_of.Goals as goal

pub read_value-requires-2 : goal.read_value-requires-2
read_value-requires-2 c = (search rules, search rules, search (rules, fits_limit), search rules)

pub returns : goal.returns
returns c = search (law.digits_whole, c.in_ok-v.was)
