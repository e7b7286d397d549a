use Rattle.search.proofs.Searching as law
use Rattle.search.proofs.search.Goals as goal

pub returns-in-Some : goal.returns-in-Some
returns-in-Some c =
    law.search_body c.args.negated c.args.any c.args.op _ _ _ _ c.args.y _ c.in-Some.is _ c.bytes_of-b.ensures _ c.piece-a.ensures _ c.search_records.ensures _ c.turn.ensures
