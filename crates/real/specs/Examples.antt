-- Worked reals: literals and what is kept of them, bytes and their values, and comparisons of patterns of 64 bits.
use Rattle.std.specs.Prelude.{◌≡◌, ℕ, Bool, true, false, List, [], ◌∷◌, ℤ, pos, negsuc, from_bits, Float, Option, Some, None}
use Rattle.std.specs.Float.{nan, inf, fin, binary64}
use Rattle.base.specs.Vectors.{results, expected}
use Rattle.base.specs.Order.{holds}
use Rattle.base.specs.declared.order.Operator.{Operator}
use Rattle.base.specs.declared.order.Operator.TheVariants.{Equal, Unequal, Less, AtMost, Greater, AtLeast}
use Rattle.real.specs.Real.{exponent_of, real_of}
use Rattle.real.specs.Value.{real32_of, real64_of}
use Rattle.real.specs.Order.{order_of_reals}
use Rattle.real.specs.declared.Real.{Real}

-- a literal's sign, its digits without the point, its exponent's sign and size, and the number of digits after the point
abbrev pub Written : Type 0
Written = Bool × ℕ × Bool × ℕ × ℕ

-- kept with e and the pattern of its value
abbrev pub accepted : Bool → ℕ → Bool → ℕ → ℕ → ℤ → ℕ → Written × Option Real
accepted n d b x f e bits = ((n, d, b, x, f), Some (record { negative = n; digits = d; exponent = e; value = from_bits binary64 bits }))

abbrev pub refused : Bool → ℕ → Bool → ℕ → ℕ → Written × Option Real
refused n d b x f = ((n, d, b, x, f), None)

-- .5 · .15 · −123456789012345.E22 · −.0 · 1.0E22 · 1.0E23 · 1.E-22 · 5.E-0 · 999999999999999.
-- 1.000000000000000 · 1.0E-22 · 0.E23 · .0E-22 · 0.0E400
abbrev pub literals : List (Written × Option Real)
literals =
    accepted false 5 false 0 1 (negsuc 0) 0x3fe0000000000000
    ∷ accepted false 15 false 0 2 (negsuc 1) 0x3fc3333333333333
    ∷ accepted true 123456789012345 false 22 0 (pos 22) 0xc76db89cafccd3a9
    ∷ accepted true 0 false 0 1 (negsuc 0) 0x8000000000000000
    ∷ accepted false 10 false 22 1 (pos 21) 0x4480f0cf064dd592
    ∷ accepted false 10 false 23 1 (pos 22) 0x44b52d02c7e14af6
    ∷ accepted false 1 true 22 0 (negsuc 21) 0x3b5e392010175ee6
    ∷ accepted false 5 true 0 0 (pos 0) 0x4014000000000000
    ∷ accepted false 999999999999999 false 0 0 (pos 0) 0x430c6bf52633fff8
    ∷ refused false 1000000000000000 false 0 15
    ∷ refused false 10 true 22 1
    ∷ refused false 0 false 23 0
    ∷ refused false 0 true 22 1
    ∷ refused false 0 false 400 1
    ∷ []

abbrev pub kept : Written → Option Real
kept w = real_of w.0 w.1 (exponent_of w.2 w.3 w.4)

abbrev pub AllKept : Type 0
AllKept = results kept literals ≡ expected literals

-- 0.1 widened; infinities, NaNs, the least subnormal
abbrev pub real32s : List (List ℕ × Float)
real32s =
    (205 ∷ 204 ∷ 204 ∷ 61 ∷ [], from_bits binary64 0x3fb99999a0000000)
    ∷ (0 ∷ 0 ∷ 128 ∷ 127 ∷ [], inf false)
    ∷ (0 ∷ 0 ∷ 128 ∷ 255 ∷ [], inf true)
    ∷ (1 ∷ 0 ∷ 128 ∷ 127 ∷ [], nan)
    ∷ (0 ∷ 0 ∷ 192 ∷ 255 ∷ [], nan)
    ∷ (1 ∷ 0 ∷ 0 ∷ 0 ∷ [], fin false 1 (negsuc 148))
    ∷ []

abbrev pub AllValues32 : Type 0
AllValues32 = results real32_of real32s ≡ expected real32s

-- the same, and −0
abbrev pub real64s : List (List ℕ × Float)
real64s =
    (154 ∷ 153 ∷ 153 ∷ 153 ∷ 153 ∷ 153 ∷ 185 ∷ 63 ∷ [], from_bits binary64 0x3fb999999999999a)
    ∷ (0 ∷ 0 ∷ 0 ∷ 0 ∷ 0 ∷ 0 ∷ 240 ∷ 127 ∷ [], inf false)
    ∷ (0 ∷ 0 ∷ 0 ∷ 0 ∷ 0 ∷ 0 ∷ 240 ∷ 255 ∷ [], inf true)
    ∷ (1 ∷ 0 ∷ 0 ∷ 0 ∷ 0 ∷ 0 ∷ 240 ∷ 127 ∷ [], nan)
    ∷ (255 ∷ 255 ∷ 255 ∷ 255 ∷ 255 ∷ 255 ∷ 255 ∷ 255 ∷ [], nan)
    ∷ (1 ∷ 0 ∷ 0 ∷ 0 ∷ 0 ∷ 0 ∷ 0 ∷ 0 ∷ [], fin false 1 (negsuc 1073))
    ∷ (0 ∷ 0 ∷ 0 ∷ 0 ∷ 0 ∷ 0 ∷ 0 ∷ 128 ∷ [], fin true 0 (pos 0))
    ∷ []

abbrev pub AllValues64 : Type 0
AllValues64 = results real64_of real64s ≡ expected real64s

-- −0 and 0; 0.1 of a real32 and of a real64; a NaN and itself, under each operator; a NaN and 1; −∞ and the least number; ∞ and the largest
abbrev pub comparisons : List ((ℕ × Operator × ℕ) × Bool)
comparisons =
    ((0x8000000000000000, Equal, 0), true)
    ∷ ((0x8000000000000000, Less, 0), false)
    ∷ ((0x3fb99999a0000000, Equal, 0x3fb999999999999a), false)
    ∷ ((0x3fb99999a0000000, Greater, 0x3fb999999999999a), true)
    ∷ ((0x7ff8000000000000, Equal, 0x7ff8000000000000), false)
    ∷ ((0x7ff8000000000000, Unequal, 0x7ff8000000000000), true)
    ∷ ((0x7ff8000000000000, Less, 0x7ff8000000000000), false)
    ∷ ((0x7ff8000000000000, AtMost, 0x7ff8000000000000), false)
    ∷ ((0x7ff8000000000000, Greater, 0x7ff8000000000000), false)
    ∷ ((0x7ff8000000000000, AtLeast, 0x7ff8000000000000), false)
    ∷ ((0x7ff0000000000001, AtMost, 0x3ff0000000000000), false)
    ∷ ((0xfff0000000000000, Less, 0xffefffffffffffff), true)
    ∷ ((0x7ff0000000000000, AtLeast, 0x7fefffffffffffff), true)
    ∷ []

abbrev pub judged : ℕ × Operator × ℕ → Bool
judged c = holds c.1 (order_of_reals (from_bits binary64 c.0) (from_bits binary64 c.2))

abbrev pub AllJudged : Type 0
AllJudged = results judged comparisons ≡ expected comparisons
