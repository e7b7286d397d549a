use mathlib.Core.Path.{◌≡◌}
use Rattle.encoding.specs.Blocks.{all_whole}
use Rattle.encoding.proofs.whole.whole_block.Given as goal

abbrev pub invariant-loop-i : goal.invariant-loop-i
invariant-loop-i l = l.all ≡ all_whole l.s l.at l.i
