use Rattle.std.proofs.Common.{rules}
use Rattle.record.specs.Reserved
use Rattle.table.specs.Properties
use Rattle.table.proofs.Laws as law
use Rattle.table.proofs.validate.name_used.Goals as goal

pub returns-in_default : goal.returns-in_default
returns-in_default c = search (rules, law.used_broken)

pub returns-then-stop-record : goal.returns-then-stop-record
returns-then-stop-record c = search (rules, law.used_past)

pub returns-then-same_name : goal.returns-then-same_name
returns-then-same_name c = search (rules, law.used_found)

pub loop-record-preserved : goal.loop-record-preserved
unfolding Reserved.among Properties.names_before
loop-record-preserved c = search (rules, law.used_next)

pub returns : goal.returns
returns c = search (rules, law.used_end)
