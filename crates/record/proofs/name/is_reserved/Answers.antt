use Rattle.record.proofs.Laws as law
use Rattle.record.proofs.name.is_reserved.Goals as goal

pub returns : goal.returns
returns c = rw (c.same_name.ensures, c.same_name-2.ensures, c.same_name-3.ensures, c.same_name-4.ensures, c.same_name-5.ensures, c.same_name-6.ensures, c.same_name-7.ensures, c.same_name-8.ensures, c.same_name-9.ensures) (law.reserved_any _)
