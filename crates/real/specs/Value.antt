-- 01 "Records": "4 real32, 4 bytes, 5 real64, 8 bytes, IEEE 754"; "Meaning": "real32 widened exactly". `Float` has the values of both formats,
-- so a real32 and its widening are the same value. Every pattern is a value: there is one NaN.
use Rattle.std.specs.Prelude.{ℕ, List, take, from_bits, Float}
use Rattle.std.specs.Float.{binary32, binary64}
use Rattle.base.specs.LittleEndian.{unsigned}

abbrev pub real32_of : List ℕ → Float
real32_of s = from_bits binary32 (unsigned (take 4 s))

abbrev pub real64_of : List ℕ → Float
real64_of s = from_bits binary64 (unsigned (take 8 s))
