-- A test as a number: 1 where it is true, else 0.
use Prim.Native.Nat.{ℕ, ◌≤◌}
use mathlib.Core.Bool.{Bool, true, false}
use mathlib.Core.Path.{◌≡◌, refl}
use native.Mathlib.Omega.{arith}
use mir.Val.{bool_byte}
use Rattle.base.specs.Pick.{pick}

pub picked_small : (b : Bool) → pick b 1 0 ≤ 1
picked_small true = omega arith
picked_small false = omega arith

pub picked_one : (b : Bool) → ◌≡◌ {A = ℕ} (pick b 1 0) 1 → b ≡ true
picked_one true e = refl
picked_one false e = absurd (omega (arith, e))

-- as code makes it
pub as_number : (b : Bool) → bool_byte b ≡ pick b 1 0
as_number true = refl
as_number false = refl
