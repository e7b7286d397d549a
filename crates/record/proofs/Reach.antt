-- Walking along records: each step comes nearer to the end; which offsets are reached.
use Prim.Native.Nat.{ℕ, ◌+◌, ◌-◌, ◌≤◌, ◌<◌}
use mathlib.Core.List.{List}
use mathlib.Core.Path.{◌≡◌, sym, ◌∙◌}
use native.Mathlib.Omega.{arith}
use lib.ListN.{length}
use Rattle.record.specs.declared.read.RecordAt.{RecordAt}
use Rattle.record.specs.declared.read.RecordAt.TheVariants.{Whole}
use Rattle.record.specs.Record.{record_at}
use Rattle.record.proofs.Records.{WholeIn, whole_in_law}

module _ (s : List ℕ) (at : ℕ) {r : RecordAt} (e : r ≡ record_at s at) {kind start len next : ℕ} (f : r ≡ Whole kind start len next) where
  pub step_in : WholeIn (length s) at start len next
  step_in = whole_in_law s at kind start len next (sym e ∙ f)

  pub step_less : length s - next < length s - at
  step_less = let w = step_in in omega arith

  -- a counter that is not above the offset stays so, and has room
  pub step_counts : (n : ℕ) → n ≤ at → n + 1 ≤ next
  step_counts n h = let w = step_in in omega arith

  pub step_room : (n : ℕ) → n ≤ at → n + 1 ≤ length s
  step_room n h = let w = step_in in omega arith

-- the offsets that whole records lead to
pub data Reaches (s : List ℕ) : ℕ → ℕ → Type 0 where
  here : {at : ℕ} → Reaches s at at
  along : {first kind start len next at : ℕ} → record_at s first ≡ Whole kind start len next → Reaches s next at → Reaches s first at

pub reaches_later : (s : List ℕ) {first at : ℕ} → Reaches s first at → first ≤ at
reaches_later s here = omega arith
reaches_later s (along {first} {kind} {start} {len} {next} e r) = let w = whole_in_law s first kind start len next e in omega (arith, reaches_later s r)

pub reaches_next : (s : List ℕ) {first at kind start len next : ℕ} → Reaches s first at → record_at s at ≡ Whole kind start len next → Reaches s first next
reaches_next s here f = along f here
reaches_next s (along e r) f = along e (reaches_next s r f)
