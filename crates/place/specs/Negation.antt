-- 01 "Meaning": NOT.
use Rattle.std.specs.Prelude.{Bool, not}
use Rattle.base.specs.Pick.{pick}

-- "NOT reverses, also for LIKE"
abbrev pub reversed_if : (negated : Bool) → Bool → Bool
reversed_if negated b = pick negated (not b) b
