-- A number as a set of small numbers: i is in x where bit i of x is set.
use Rattle.std.specs.Prelude.{Bool, ℕ, ◌/◌, ◌%◌, ◌^◌, eqb}

abbrev pub bit : ℕ → ℕ → Bool
bit x i = eqb (x / 2 ^ i % 2) 1
