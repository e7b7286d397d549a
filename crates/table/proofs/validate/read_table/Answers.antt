use Rattle.std.proofs.Common.{rules}
use Rattle.table.proofs.Laws as law
use Rattle.table.proofs.validate.read_table.Goals as goal

pub returns-then-t-gt8192 : goal.returns-then-t-gt8192
returns-then-t-gt8192 c = search (rules, law.table_long)

pub returns-then-not-is_class_record : goal.returns-then-not-is_class_record
returns-then-not-is_class_record c = search (rules, law.table_no_class)

pub returns-else-not-is_class_record : goal.returns-else-not-is_class_record
returns-else-not-is_class_record c = search (rules, law.table_class)

pub returns-in-Broken : goal.returns-in-Broken
returns-in-Broken c = search (rules, law.table_broken)

pub returns-in-End : goal.returns-in-End
returns-in-End c = search (rules, law.table_end)
