-- LIKE: its truth, of 01 "Meaning", and its steps, of "Steps".
use Rattle.std.specs.Prelude.{ℕ, ◌+◌, List, Bool, false, ◌≡◌, length}
use Rattle.std.proofs.Math.Option.{Option, none, some}
use Rattle.pattern.specs.Regex.{Regex}
use Rattle.matcher.specs.Run.{likes}
use Rattle.token.specs.declared.Token.{Token}
use Rattle.instance.specs.Value as value
use Rattle.instance.specs.Value.{ScalarValue}
use Rattle.operand.specs.PatternLiteral.{pattern_of}
use Rattle.short_circuit.specs.Walk.{told}
use Rattle.short_circuit.specs.declared.Told.{Told}
use Rattle.place.specs.Negation.{reversed_if}

-- a value's characters, where it is a text
unfoldable pub as_text : Option ScalarValue → Option (List ℕ)
as_text none = none
as_text (some (value.truth b)) = none
as_text (some (value.whole n)) = none
as_text (some (value.real x)) = none
as_text (some (value.text cs)) = some cs
as_text (some (value.octets s)) = none
as_text (some (value.datetime d)) = none
as_text (some (value.reference s)) = none

-- the whole text must match; "LIKE with NULL: false"
unfoldable pub like_holds : Option (List ℕ) → Regex ℕ → Bool
like_holds none r = false
like_holds (some w) r = likes r w

-- how many there are; none where NULL is
unfoldable pub size : {A : Type 0} → Option (List A) → ℕ
size none = 0
size (some xs) = length xs

-- truth and steps, as the code answers for a string literal that is a pattern
abbrev pub Likes : (query : List ℕ) → Token → (negated : Bool) → Option ScalarValue → Told → Type 0
Likes q t negated x r = (p : Regex ℕ) → pattern_of q t ≡ some p → r ≡ told (reversed_if negated (like_holds (as_text x) p)) (1 + size (as_text x))
