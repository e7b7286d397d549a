-- The symbols that stand for some characters: for each of ASCII its symbols, 0 where they are not known; for others at each of 64 places the
-- character's number and one, and its symbols.
use Rattle.std.specs.Prelude.{◌≡◌, List, ℕ, ◌+◌, ◌<◌, get_or}
use Rattle.pattern.specs.Hits.{Hits}
use Rattle.matcher.specs.declared.remembered.Memory.{Memory}

pub record Remembers (p : List ℕ) (memory : Memory) : Type 0 where
  pub ascii : (c : ℕ) → c < 128 → (get_or memory.ascii c 0 ≡ 0 → ⊥) → Hits p c (get_or memory.ascii c 0)
  pub others : (k c : ℕ) → k < 64 → get_or memory.numbers k 0 ≡ c + 1 → Hits p c (get_or memory.hits k 0)
