-- Laws of the ends of rules.
use Prim.Native.Nat.{ℕ, ◌+◌, ◌-◌, ◌≤◌, ◌<◌, min}
use mathlib.Core.Path.{◌≡◌, refl}
use mathlib.Core.List.{List}
use mathlib.Core.Bool.{Bool, true, false}
use native.Mathlib.Omega.{arith}
use lib.ListN.{length, take, drop}
use Rattle.std.specs.Prelude.{Option, Some, None, position, not, unwrap_or}
use Rattle.base.specs.Pick.{pick}
use Rattle.scan.specs.declared.Class.{Class}
use Rattle.scan.specs.Class.{in_class, run}
pub use Rattle.scan.specs.Ends.{Ends}
use Rattle.scan.proofs.Runs.{run_from, run_reach, span_outside, rest_from}

-- from a place within the text it is within the text
pub ends_within : {n at e : ℕ} → Ends n at e → at ≤ n → e ≤ n
ends_within w h = omega (arith, w.from, w.reach)

module _ (n : ℕ) where
  pub stays : (at : ℕ) → Ends n at at
  stays at = record { from = omega arith; reach = omega arith }

  pub on : {at m e : ℕ} → Ends n at m → Ends n m e → Ends n at e
  on f g = record { from = omega (arith, f.from, g.from); reach = omega (arith, f.from, f.reach, g.from, g.reach) }

  pub chosen : {at a b : ℕ} (t : Bool) → (t ≡ true → Ends n at a) → (t ≡ false → Ends n at b) → Ends n at (pick t a b)
  chosen true f g = f refl
  chosen false f g = g refl

  pub one_on : {at : ℕ} → at < n → Ends n at (at + 1)
  one_on h = record { from = omega arith; reach = omega arith }

pub run_ends : (c : Class) (q : List ℕ) (at : ℕ) → Ends (length q) at (run c q at)
run_ends c q at = record { from = run_from c q at; reach = run_reach c q at }

-- what equals an end is one
pub reached : {r e n at : ℕ} → r ≡ e → Ends n at e → (r ≡ e) × Ends n at r
reached e w = (e, rw e w)

-- the run ends where the first byte outside its class stands in what is left, or where that ends
module _ {m : ℕ} {o : Option ℕ} (c : Class) (q : List ℕ) (at : ℕ) (from : m ≡ min at (length q))
    (told : o ≡ position (λ b. not (in_class c b)) (take (length q - m) (drop m q))) where
  reaches : at + unwrap_or o (length (take (length q - m) (drop m q))) ≡ run c q at
  unfolding run
  reaches = rw (told, rest_from q at from) (rw (span_outside c (drop at q)) refl)

  pub run_stopped : {n : ℕ} → o ≡ Some n → (at + n ≡ run c q at) × Ends (length q) at (at + n)
  run_stopped is = reached (rw is at reaches) (run_ends c q at)

  pub run_to_end : o ≡ None → (at + length (take (length q - m) (drop m q)) ≡ run c q at) × Ends (length q) at (at + length (take (length q - m) (drop m q)))
  run_to_end is = reached (rw is at reaches) (run_ends c q at)
