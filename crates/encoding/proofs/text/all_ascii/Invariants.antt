use mathlib.Core.Path.{◌≡◌}
use Rattle.encoding.specs.Blocks.{all_ascii}
use Rattle.encoding.proofs.text.all_ascii.Given as goal

abbrev pub invariant-loop-i : goal.invariant-loop-i
invariant-loop-i l = l.all ≡ all_ascii l.s l.at l.i
