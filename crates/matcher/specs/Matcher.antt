-- LIKE of a text, for a text that is a pattern or none.
use Rattle.std.specs.Prelude.{◌≡◌, Bool, false, List, ℕ, ◌<◌, length, get_or}
use Rattle.std.proofs.Math.Option.{Option, none, some}
use Rattle.encoding.specs.Characters.{characters}
use Rattle.matcher.specs.declared.matcher.Matched.{Matched}
use Rattle.pattern.specs.declared.fragment.Fragment.{Fragment}
use Rattle.pattern.specs.Regex.{Regex}
use Rattle.pattern.specs.Reading.{parse}
use Rattle.pattern.specs.Automaton.{automaton_of}
use Rattle.matcher.specs.Run.{likes}

-- whether a pattern matches the whole text; what is no pattern matches none
abbrev pub like_of : Option (Regex ℕ) → List ℕ → Bool
like_of none w = false
like_of (some r) w = likes r w

-- LIKE of a UTF-8 text, with the number of its characters (01, "Steps")
abbrev pub match_of : List ℕ → List ℕ → Matched
match_of p s = record { holds = like_of (parse p) (characters s); characters = length (characters s) }

-- a pattern's sets, and for each of its symbols those that may follow it
pub record Linked (X : Option (Regex ℕ)) (whole : Fragment) (links : List ℕ) : Type 0 where
  pub regex : Regex ℕ
  pub is : X ≡ some regex
  pub sets : whole ≡ (automaton_of regex).sets
  pub next : (j : ℕ) → j < 64 → get_or links j 0 ≡ (automaton_of regex).next j
  pub all : length links ≡ 64
