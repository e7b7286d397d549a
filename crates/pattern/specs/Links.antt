-- The links of a pattern: for each of its symbols, by number, those that may follow it.
use Rattle.std.specs.Prelude.{◌≡◌, Bool, true, false, not, ◌&&◌, ◌||◌, List, ℕ, zero, suc, ◌≤◌, ◌<◌, ◌+◌, ◌^◌, length, get_or}
use Rattle.std.specs.Int.Bits.{bit_or}
use Rattle.base.specs.Bits.{bit}

-- the set r has the members of S but for k
pub record Without (S k r : ℕ) : Type 0 where
  pub fewer : r < S
  pub gone : bit r k ≡ false
  pub others : (i : ℕ) → (i ≡ k → ⊥) → bit r i ≡ bit S i

-- the set r has the members of S that T has not
pub record Outside (S T r : ℕ) : Type 0 where
  pub fewer : r ≤ S
  pub members : (i : ℕ) → bit r i ≡ (bit S i && not (bit T i))

-- each symbol has more symbols behind it than before
pub record Adds (next : ℕ → ℕ) (before after : List ℕ) : Type 0 where
  pub each : (j : ℕ) → j < 64 → get_or after j 0 ≡ bit_or (get_or before j 0) (next j)
  pub all : length after ≡ 64

-- a test holds of a number below n
unfoldable pub any_below : ℕ → (ℕ → Bool) → Bool
any_below zero f = false
any_below (suc n) f = f n || any_below n f

-- whether symbol i may follow one of the set S
abbrev pub leads : (ℕ → ℕ) → ℕ → ℕ → Bool
leads next S i = any_below 64 (λ j. bit S j && bit (next j) i)

-- the symbols that may follow one of the set S, by the links
abbrev pub Gathers : List ℕ → ℕ → ℕ → Type 0
Gathers links S r = (i : ℕ) → bit r i ≡ leads (λ j. get_or links j 0) S i

-- each symbol of S leads to the next one and to no other
pub record Simple (links : List ℕ) (S : ℕ) : Type 0 where
  pub next : (k : ℕ) → bit S k ≡ true → get_or links k 0 ≡ 2 ^ (k + 1)
  pub small : S < 2 ^ 63

-- what may follow a symbol that may follow one of S may follow that one itself
pub record Closed (links : List ℕ) (S : ℕ) : Type 0 where
  pub follows : (k : ℕ) → bit S k ≡ true → (j i : ℕ) → j < 64 → bit (get_or links k 0) j ≡ true → bit (get_or links j 0) i ≡ true → bit (get_or links k 0) i ≡ true
