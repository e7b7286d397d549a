use Rattle.scan.proofs.Ends as law
use Rattle.scan.proofs.run_end.Goals as goal

pub returns-in-Some : goal.returns-in-Some
returns-in-Some c = law.run_stopped _ _ _ c.min.ensures c.first_outside.ensures c.in-Some.is

pub returns-in-None : goal.returns-in-None
returns-in-None c = law.run_to_end _ _ _ c.min.ensures c.first_outside.ensures c.in-None.is
