use Prim.Native.Nat.{◌-◌, ◌*◌, ◌≤◌}
use mathlib.Core.Path.{◌≡◌}
use Rattle.syntax.specs.Scan.{scan}
use Rattle.query_text.specs.Query.{query_from}
use Rattle.short_circuit.specs.Walk.{walk_query, initial, state_of}
use Rattle.filter.specs.Answers.{truth_noted, steps_noted}
use Rattle.filter.proofs.evaluate.walk_from.Given as goal

abbrev pub invariant-loop-read : goal.invariant-loop-read
invariant-loop-read l = (walk_query (truth_noted l.q l.t l.i l.notes) (steps_noted l.q l.t l.i l.notes) initial 0 (query_from 64 (scan l.q) l.grouped l.initial.token) ≡ walk_query (truth_noted l.q l.t l.i l.notes) (steps_noted l.q l.t l.i l.notes) (state_of l.chains) l.steps (query_from (64 - l.read) (scan l.q) l.grouped l.token)) × (l.steps ≤ 65536 * l.read)
