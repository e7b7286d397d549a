-- 01 "A fan to try", last part, and 02 Q-1: what the program writes for the sample's table and run, and for some others.
use Rattle.std.specs.Prelude.{ℕ, List, [], ◌∷◌, ◌++◌}
use Rattle.base.specs.Ascii.{bytes}
use Rattle.record.specs.Write.{write}
use Rattle.table.specs.Sample.{sample_table}
use Rattle.instance.specs.Sample.{sample_instance}
use Rattle.report.specs.Output.{output}
use Rattle.examples.specs.Marks.{sample_run}

-- query and run
abbrev pub printed : List ℕ × List ℕ → List ℕ
printed x = output x.0 sample_table x.1

abbrev pub outputs : List ((List ℕ × List ℕ) × List ℕ)
outputs =
    ((bytes "On = TRUE", sample_run), bytes "1 included 1\n2 failed 31\ntotal 2 1 0 1\n")
    ∷ ((bytes "Dev = {14,3}", write 0x0300 sample_instance), bytes "1 excluded 2\ntotal 1 0 1 0\n")
    -- an empty run
    ∷ ((bytes "On = TRUE", []), bytes "total 0 0 0 0\n")
    -- a run that breaks off after its two records; the check before it
    ∷ ((bytes "On = TRUE", sample_run ++ 0 ∷ []), bytes "refused 40 103\n")
    ∷ ((bytes "On = TRUE AND", 0 ∷ []), bytes "refused 11 13\n")
    ∷ []
