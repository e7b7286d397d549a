use Prim.Native.Nat.{◌≤◌, ◌-◌}
use mathlib.Core.Path.{◌≡◌}
use mathlib.Core.List.{◌++◌}
use lib.ListN.{length, take}
use Rattle.string_literal.specs.Text.{text_at, characters_of}
use Rattle.string_literal.proofs.fill.Given as goal

abbrev pub invariant-loop-i : goal.invariant-loop-i
invariant-loop-i l = (characters_of (text_at l.q l.at) ≡ take l.n l.out ++ characters_of (text_at l.q l.i)) × (l.n ≤ length l.initial.out) × (length l.out ≡ length l.initial.out)

abbrev pub decreases-loop-i : goal.decreases-loop-i
decreases-loop-i l = length l.q - l.i
