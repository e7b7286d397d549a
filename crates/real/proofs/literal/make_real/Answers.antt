use Rattle.real.proofs.Laws.{too_many_digits, up_most, down_some, down_most, up_made, down_made, beyond_made}
use Rattle.std.proofs.Common.{rules}
use Rattle.real.proofs.literal.make_real.Goals as goal

pub returns-then-digits-ge1000000000000000 : goal.returns-then-digits-ge1000000000000000
returns-then-digits-ge1000000000000000 c = search too_many_digits

pub returns-in_err-scale : goal.returns-in_err-scale
returns-in_err-scale c = search (rules, beyond_made)

pub multiply-requires : goal.multiply-requires
multiply-requires c = let scaled = c.in_ok-scale.was in (search rules, search up_most)

pub divide-requires : goal.divide-requires
divide-requires c = let scaled = c.in_ok-scale.was in (search rules, search down_some, search down_most)

pub returns-in-Up : goal.returns-in-Up
returns-in-Up c = let scaled = c.in_ok-scale.was in search up_made

pub returns-in-Down : goal.returns-in-Down
returns-in-Down c = let scaled = c.in_ok-scale.was in search down_made
