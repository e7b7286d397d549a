use Rattle.value.proofs.PlainUnits as law
use Rattle.value.proofs.plain.skip_plain.Goals as goal

pub returns-then-not-is_bytewise : goal.returns-then-not-is_bytewise
returns-then-not-is_bytewise c = search law.nothing_skipped

pub returns-then-not-is_plain : goal.returns-then-not-is_plain
returns-then-not-is_plain c = search law.nothing_skipped

pub returns-then-other_plain : goal.returns-then-other_plain
returns-then-other_plain c = search law.plain_differ

pub returns : goal.returns
returns c = search law.plain_skipped
