-- A buffer into which a text was written, for the lines of 01 "A fan to try".
use Rattle.std.specs.Prelude.{ℕ, ◌+◌, min, max, List, ◌≡◌, length}
use Rattle.std.proofs.lemmas.List.Edits.{sets}

-- `before` with the text's bytes from `at` on, as far as it has room, and `next` the place after them; all other bytes keep their values
pub record Written (before : List ℕ) (at : ℕ) (text : List ℕ) (next : ℕ) (after : List ℕ) : Type 0 where
  pub stores : after ≡ sets before at text
  pub ends : next ≡ max at (min (at + length text) (length before))
