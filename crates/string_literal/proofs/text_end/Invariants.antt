use Prim.Native.Nat.{◌≤◌, ◌-◌}
use mathlib.Core.Path.{◌≡◌}
use lib.ListN.{length}
use Rattle.string_literal.specs.Text.{text_at, end_or}
use Rattle.string_literal.proofs.text_end.Given as goal

abbrev pub invariant-loop-i : goal.invariant-loop-i
invariant-loop-i l = (end_or l.none (text_at l.q l.at) ≡ end_or l.none (text_at l.q l.i)) × (l.none ≤ l.i) × (l.i ≤ length l.q)

abbrev pub decreases-loop-i : goal.decreases-loop-i
decreases-loop-i l = length l.q - l.i
