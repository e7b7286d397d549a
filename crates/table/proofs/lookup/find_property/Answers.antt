use Rattle.std.proofs.Common.{rules, inl}
use Rattle.table.specs.Properties.{find_property}
use Rattle.table.proofs.Laws as law
use Rattle.table.proofs.lookup.find_property.Goals as goal

pub loop-number-init-derived : goal.loop-number-init-derived
loop-number-init-derived c = ((tt, tt, inl (search rules)), tt)

pub loop-number-init : goal.loop-number-init
unfolding find_property
loop-number-init c = search rules

pub returns-in_err-record : goal.returns-in_err-record
returns-in_err-record c = search (rules, law.find_broken)

pub returns-then-same_name : goal.returns-then-same_name
returns-then-same_name c = search (rules, law.find_found)

pub loop-number-preserved : goal.loop-number-preserved
loop-number-preserved c = search (rules, law.find_next)

pub returns : goal.returns
returns c = search (rules, law.find_end)
