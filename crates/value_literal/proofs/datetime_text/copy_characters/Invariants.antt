use Prim.Native.Nat.{◌≤◌, ◌-◌}
use mathlib.Core.Path.{◌≡◌}
use mathlib.Core.List.{◌++◌}
use lib.ListN.{length, take}
use Rattle.string_literal.specs.Text.{text_at, characters_of}
use Rattle.value_literal.proofs.datetime_text.copy_characters.Given as goal

abbrev pub invariant-loop-v : goal.invariant-loop-v
invariant-loop-v l = (characters_of (text_at l.q l.at) ≡ take l.n l.out ++ characters_of (text_at l.q l.i)) × (l.n ≤ 25) × (length l.out ≡ 25)

abbrev pub decreases-loop-v : goal.decreases-loop-v
decreases-loop-v l = length l.q - l.i
