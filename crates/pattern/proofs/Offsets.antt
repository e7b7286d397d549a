-- What stands at an offset, as the front of what is left there. Assumes nothing.
use mathlib.Core.Path.{◌≡◌}
use mathlib.Core.Bool.{Bool, true, false, ◌||◌}
use mathlib.Core.List.{List}
use Prim.Native.Nat.{ℕ, ◌≤◌, ◌<◌, ◌+◌}
use lib.ListN.{length, get_or, drop, drop_of_length-le}
use lib.Seq.{drop-drop}
use lib.Dec.{eqb}
use Rattle.base.proofs.Lists.{left_next}
use Rattle.pattern.specs.Character.{starts_with, bar, close_group}
use Rattle.pattern.specs.Reading.{ends}

pub drop_next : (s : List ℕ) (at : ℕ) → drop 1 (drop at s) ≡ drop (at + 1) s
drop_next s at = drop-drop 1 at s

module _ (s : List ℕ) (at x : ℕ) where
  pub starts_past : length s ≤ at → false ≡ starts_with x (drop at s)
  unfolding starts_with
  starts_past h = rw (drop_of_length-le s h)

  pub starts_here : at < length s → eqb (get_or s at 0) x ≡ starts_with x (drop at s)
  unfolding starts_with
  starts_here h = rw (left_next s at h)

pub ends_past : (s : List ℕ) (at : ℕ) → length s ≤ at → true ≡ ends (drop at s)
unfolding ends
ends_past s at h = rw (drop_of_length-le s h)

pub ends_here : (s : List ℕ) (at : ℕ) → at < length s → {t : Bool} → (eqb (get_or s at 0) bar || eqb (get_or s at 0) close_group) ≡ t → t ≡ ends (drop at s)
unfolding ends
ends_here s at h q = rw (left_next s at h, q)
