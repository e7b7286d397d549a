-- The worked reals, computed.
use Rattle.std.proofs.Common.{refl}
use lib.Ieee.{of_bits, of_int, mul, div, neg, round, lt, eq}
use Rattle.base.specs.LittleEndian.{unsigned}
use Rattle.real.specs.Real.{magnitude, real_of}
use Rattle.real.specs.Examples.{AllKept, AllValues32, AllValues64, AllJudged}

pub all_kept : AllKept
unfolding real_of magnitude of_bits of_int mul div neg round
all_kept = refl

pub values32 : AllValues32
unfolding unsigned of_bits
values32 = refl

pub values64 : AllValues64
unfolding unsigned of_bits
values64 = refl

pub all_judged : AllJudged
unfolding of_bits lt eq
all_judged = refl
