-- A number as the lines of 01 "A fan to try" write it: decimal digits, ASCII, the first of them not `0` unless it is the only one.
use Rattle.std.specs.Prelude.{ℕ, zero, suc, ◌+◌, ◌/◌, ◌%◌, List, [], ◌∷◌, ◌++◌, true, false, ltb}

-- by at most as many divisions by ten as the number says, which is always enough (proofs/Digits, `decimal_more`)
unfoldable pub digits_within : (divisions number : ℕ) → List ℕ
digits_within zero n = (48 + n) ∷ []
digits_within (suc k) n = elim (ltb n 10) [ true ↦ (48 + n) ∷ [] | false ↦ digits_within k (n / 10) ++ ((48 + n % 10) ∷ []) ]

unfoldable pub decimal : (number : ℕ) → List ℕ
decimal n = digits_within n n
