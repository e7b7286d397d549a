-- 01 "What can go wrong with a call": "run doesn't divide into 0x0300 records" is 40, "marks shorter than the run's instances" 41.
use Rattle.std.specs.Prelude.{ℕ}
use Rattle.run.specs.declared.fault.RunFault.{RunFault}
use Rattle.run.specs.declared.fault.RunFault.TheVariants.{Indivisible, MarksTooFew}

abbrev pub number_of : RunFault → ℕ
number_of Indivisible = 40
number_of MarksTooFew = 41
