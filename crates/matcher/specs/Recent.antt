-- The sets of live symbols that were gathered last: at each of 4 places a set, and what may come after it. Then two sets of symbols by which less
-- is to be gathered.
use Rattle.std.specs.Prelude.{List, ℕ, ◌<◌, get_or}
use Rattle.pattern.specs.Links.{Gathers, Simple, Closed}
use Rattle.matcher.specs.declared.recent.Recent.{Recent}

pub record Recalls (links : List ℕ) (recent : Recent) : Type 0 where
  pub right : (k : ℕ) → k < 4 → Gathers links (get_or recent.sets k 0) (get_or recent.onward k 0)
  pub simple : Simple links recent.simple
  pub closed : Closed links recent.closed
