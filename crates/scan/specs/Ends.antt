-- Ends of rules: never before their place, and within the text.
use Rattle.std.specs.Prelude.{ℕ, ◌-◌, ◌≤◌}

-- an end that a rule reaches from a place on in n bytes; from a place past the end it reaches nothing
pub record Ends (n at e : ℕ) : Type 0 where
  pub from : at ≤ e
  pub reach : e - at ≤ n - at
