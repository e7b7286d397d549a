-- An exponent from −22 to 22 as the index of a power of ten and a direction: what the table of powers is asked for.
use Rattle.std.specs.Prelude.{suc, ℤ, pos, negsuc, nat_le, Option, Some, None}
use Rattle.base.specs.Pick.{pick}
use Rattle.real.specs.declared.scale.Scale.{Scale}
use Rattle.real.specs.declared.scale.Scale.TheVariants.{Up, Down}

unfoldable pub scale_of : ℤ → Option Scale
scale_of (pos k) = pick (nat_le k 22) (Some (Up k)) None
scale_of (negsuc k) = pick (nat_le (suc k) 22) (Some (Down (suc k))) None
