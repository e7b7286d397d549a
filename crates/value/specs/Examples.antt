-- Comparisons of some values: each sort, NULLs, NaN, both signs.
use Rattle.std.specs.Prelude.{ℕ, List, [], ◌∷◌, Bool, true, false}
use Rattle.std.proofs.Math.Option.{Option, none, some}
use Rattle.base.specs.Ascii.{bytes}
use Rattle.base.specs.declared.order.Operator.{Operator}
use Rattle.base.specs.declared.order.Operator.TheVariants.{Equal, Unequal, Less, AtMost, Greater}
use Rattle.record.specs.declared.kind.Family.{Family}
use Rattle.record.specs.declared.kind.Family.TheVariants as family
use Rattle.instance.specs.Value.{ScalarValue, truth, reference, scalar_in}
use Rattle.value.specs.Compare.{compares}

pub record Comparison : Type 0 where
  pub operator : Operator
  pub left : Option ScalarValue
  pub right : Option ScalarValue

abbrev pub judged : Comparison → Bool
judged c = compares c.operator c.left c.right

abbrev it : Operator → Option ScalarValue → Option ScalarValue → Comparison
it op x y = record { operator = op; left = x; right = y }

-- the value of a type in a body
abbrev typed : Family → ℕ → Bool → List ℕ → Option ScalarValue
typed f w g s = some (scalar_in (record { family = f; width = w; signed = g }) s)

abbrev signed : List ℕ → Option ScalarValue
signed s = typed family.Integer 8 true s

abbrev unsigned : List ℕ → Option ScalarValue
unsigned s = typed family.Integer 8 false s

abbrev minus_five : List ℕ
minus_five = 251 ∷ 255 ∷ 255 ∷ 255 ∷ 255 ∷ 255 ∷ 255 ∷ 255 ∷ []

abbrev two : List ℕ
two = 2 ∷ 0 ∷ 0 ∷ 0 ∷ 0 ∷ 0 ∷ 0 ∷ 0 ∷ []

abbrev nan : Option ScalarValue
nan = typed family.Real 8 false (0 ∷ 0 ∷ 0 ∷ 0 ∷ 0 ∷ 0 ∷ 248 ∷ 127 ∷ [])

-- one half, as a real32 and as a real64; minus zero and zero
abbrev half32 : Option ScalarValue
half32 = typed family.Real 4 false (0 ∷ 0 ∷ 0 ∷ 63 ∷ [])

abbrev half64 : Option ScalarValue
half64 = typed family.Real 8 false (0 ∷ 0 ∷ 0 ∷ 0 ∷ 0 ∷ 0 ∷ 224 ∷ 63 ∷ [])

abbrev minus_zero : Option ScalarValue
minus_zero = typed family.Real 8 false (0 ∷ 0 ∷ 0 ∷ 0 ∷ 0 ∷ 0 ∷ 0 ∷ 128 ∷ [])

abbrev zero_real : Option ScalarValue
zero_real = typed family.Real 8 false (0 ∷ 0 ∷ 0 ∷ 0 ∷ 0 ∷ 0 ∷ 0 ∷ 0 ∷ [])

abbrev string : List ℕ → Option ScalarValue
string s = typed family.Text 0 false s

abbrev char16 : List ℕ → Option ScalarValue
char16 s = typed family.Char16 2 false s

abbrev moment : List ℕ → Option ScalarValue
moment s = typed family.Datetime 25 false s

abbrev pub comparisons : List (Comparison × Bool)
comparisons =
    (it Less (signed minus_five) (unsigned two), true)
    ∷ (it Greater (unsigned minus_five) (signed two), true)
    ∷ (it Equal (signed two) (unsigned two), true)
    ∷ (it Equal (some (truth true)) (some (truth true)), true)
    ∷ (it Unequal (some (truth true)) (some (truth false)), true)
    -- NULL
    ∷ (it Equal none none, true)
    ∷ (it Unequal none none, false)
    ∷ (it Unequal (signed two) none, true)
    ∷ (it Equal none (signed two), false)
    ∷ (it AtMost none none, false)
    ∷ (it Less none (signed two), false)
    -- reals
    ∷ (it Equal nan nan, false)
    ∷ (it Unequal nan nan, true)
    ∷ (it AtMost nan nan, false)
    ∷ (it Equal half32 half64, true)
    ∷ (it Equal minus_zero zero_real, true)
    -- text by characters: é is C3 A9 in UTF-8, E9 00 as a char16
    ∷ (it Equal (string (195 ∷ 169 ∷ [])) (char16 (233 ∷ 0 ∷ [])), true)
    ∷ (it Equal (string (195 ∷ 169 ∷ 195 ∷ 169 ∷ [])) (char16 (233 ∷ 0 ∷ [])), false)
    -- é一 and é丁, and ill-formed ends, which are no characters
    ∷ (it Equal (string (195 ∷ 169 ∷ 228 ∷ 184 ∷ 128 ∷ [])) (string (195 ∷ 169 ∷ 228 ∷ 184 ∷ 128 ∷ [])), true)
    ∷ (it Equal (string (195 ∷ 169 ∷ 228 ∷ 184 ∷ 128 ∷ [])) (string (195 ∷ 169 ∷ 228 ∷ 184 ∷ 129 ∷ [])), false)
    ∷ (it Equal (string (195 ∷ 169 ∷ 195 ∷ [])) (string (195 ∷ 169 ∷ 228 ∷ 184 ∷ [])), true)
    ∷ (it Equal (string (bytes "FAN_2")) (string (bytes "FAN_")), false)
    ∷ (it Equal (string (bytes "a")) (string (bytes "A")), false)
    ∷ (it Equal (string (bytes "a")) (some (reference (bytes "a"))), false)
    ∷ (it Equal (typed family.Reference 0 false (195 ∷ 169 ∷ [])) (some (reference (195 ∷ 169 ∷ []))), true)
    ∷ (it Equal (typed family.Octets 0 false (0 ∷ 255 ∷ [])) (typed family.Octets 0 false (0 ∷ 255 ∷ [])), true)
    -- datetimes by moments
    ∷ (it Equal (moment (bytes "20051003112233.000000+000")) (moment (bytes "20051003122233.000000+060")), true)
    ∷ (it Unequal (moment (bytes "20051003112233.000000+000")) (moment (bytes "00000001000000.000000:000")), true)
    ∷ (it Less (moment (bytes "00000001000000.000000:000")) (moment (bytes "20051003112233.000000+000")), false)
    ∷ (it Less (moment (bytes "200510031122**.******+000")) (moment (bytes "20051003112300.000000+000")), true)
    ∷ (it AtMost (moment (bytes "200510031122**.******+000")) (moment (bytes "20051003112233.000000+000")), false)
    ∷ (it Equal (moment (bytes "200510031122**.******+000")) (moment (bytes "200510031222**.******+060")), true)
    ∷ []
