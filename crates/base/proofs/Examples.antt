-- The worked values, computed.
use Prim.Native.Nat.{ℕ}
use mathlib.Core.List.{List}
use mathlib.Core.Path.{◌≡◌, refl}
use lib.ListN.{length}
use Rattle.base.specs.LittleEndian.{unsigned, twos_complement}
use Rattle.base.specs.Range.{within}
use Rattle.base.specs.Digit.{digit_of, value_of}
use Rattle.base.specs.Vectors.{results, expected}
use Rattle.base.specs.Examples.{signed, without_sign, numerals}

pub signed_right : results twos_complement signed ≡ expected signed
unfolding unsigned twos_complement
signed_right = refl

pub unsigned_right : results unsigned without_sign ≡ expected without_sign
unfolding unsigned
unsigned_right = refl

pub numerals_right : results (λ (x : ℕ × List ℕ). value_of x.0 0 x.1 0 (length x.1)) numerals ≡ expected numerals
unfolding digit_of value_of within
numerals_right = refl
