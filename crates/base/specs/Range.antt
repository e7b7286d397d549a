-- Ranges of bytes and of code points, both ends included.
use Rattle.std.specs.Prelude.{ℕ, Bool, ◌&&◌, leb}

unfoldable pub within : ℕ → ℕ → ℕ → Bool
within low high b = leb low b && leb b high
