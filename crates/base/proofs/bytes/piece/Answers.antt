use Rattle.base.proofs.Lists.{part_past, part_rest, part_whole}
use Rattle.base.proofs.bytes.piece.Goals as goal

pub returns-then-s-start : goal.returns-then-s-start
returns-then-s-start c = part_past c.args.s.now c.args.start c.args.len c.if-s-start.true

pub returns-then-s-start-2 : goal.returns-then-s-start-2
returns-then-s-start-2 c = part_rest c.args.s.now c.args.start c.args.len c.if-s-start-2.true

pub returns : goal.returns
returns c = part_whole c.args.s.now c.args.start c.args.len
