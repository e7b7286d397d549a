-- The matcher's state: the live symbols, and those that may come next.
use Rattle.std.specs.Prelude.{◌≡◌, Bool, not, List, ℕ, ◌<◌, eqb}
use Rattle.std.specs.Int.Bits.{bit_and}
use Rattle.base.specs.Pick.{pick}
use Rattle.matcher.specs.declared.live.Live.{Live}
use Rattle.pattern.specs.declared.fragment.Fragment.{Fragment}
use Rattle.pattern.specs.Links.{Gathers}

-- before the first character no symbol is live, and the first ones may come
abbrev pub initial : ℕ → Live
initial first = record { set = 0; onward = first; place = 0 }

-- a character has been read, and a symbol is live
abbrev pub begun : Live → Bool
begun st = not (eqb st.set 0)

-- the symbols that may come next and stand for the character
abbrev pub next_set : Live → (hit : ℕ) → ℕ
next_set st hit = bit_and st.onward hit

-- what may come next is what the links lead to from the live symbols
pub record Kept (links : List ℕ) (st : Live) : Type 0 where
  pub from_set : (st.set ≡ 0 → ⊥) → Gathers links st.set st.onward
  pub room : st.place < 4

-- a state with the symbols of the set live
pub record Steps (links : List ℕ) (set : ℕ) (r : Live) : Type 0 where
  pub moves : r.set ≡ set
  pub keeps : Kept links r

-- whether the text may end here
abbrev pub accepted : Fragment → Live → Bool
accepted whole st = pick (begun st) (not (eqb (bit_and st.set whole.last) 0)) whole.nullable
