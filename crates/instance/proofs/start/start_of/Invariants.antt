use Rattle.std.proofs.Common.{◌≡◌}
use Rattle.instance.specs.Start.{start_of}
use Rattle.instance.proofs.start.start_of.Given as goal

abbrev pub invariant-loop-n : goal.invariant-loop-n
invariant-loop-n l = l.at ≡ start_of l.i l.n
