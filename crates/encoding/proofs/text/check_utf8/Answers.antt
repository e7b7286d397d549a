use Rattle.encoding.proofs.Blocks as law
use Rattle.encoding.proofs.text.check_utf8.Goals as goal

pub returns-then-s-start : goal.returns-then-s-start
returns-then-s-start c = search law.ascii_found

pub returns-then-end-rest : goal.returns-then-end-rest
returns-then-end-rest c = search law.ill_formed_found

pub returns : goal.returns
returns c = search law.well_formed_found
