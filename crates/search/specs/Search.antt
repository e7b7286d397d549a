-- ANY and EVERY: their truth, of 01 "Meaning", and their steps, of "Steps".
use Rattle.std.specs.Prelude.{ℕ, suc, ◌+◌, List, [], ◌∷◌, Bool, true, false, not, ◌&&◌, ◌||◌}
use Rattle.std.proofs.Math.Option.{Option, none, some}
use Rattle.base.specs.Pick.{pick}
use Rattle.base.specs.declared.order.Operator.{Operator}
use Rattle.instance.specs.Value.{ScalarValue}
use Rattle.value.specs.Compare.{compares}
use Rattle.short_circuit.specs.Walk.{told}
use Rattle.short_circuit.specs.declared.Told.{Told}
use Rattle.place.specs.Place.{Array}
use Rattle.place.specs.Negation.{reversed_if}

-- "ANY: some element holds; EVERY: all hold"
unfoldable pub some_holds : (Option ScalarValue → Bool) → List (Option ScalarValue) → Bool
some_holds p [] = false
some_holds p (x ∷ xs) = p x || some_holds p xs

unfoldable pub all_hold : (Option ScalarValue → Bool) → List (Option ScalarValue) → Bool
all_hold p [] = true
all_hold p (x ∷ xs) = p x && all_hold p xs

-- "On an empty array EVERY is true, on NULL both are false"
unfoldable pub search_holds : (any : Bool) → (Option ScalarValue → Bool) → Array → Bool
search_holds any p none = false
search_holds true p (some xs) = some_holds p xs
search_holds false p (some xs) = all_hold p xs

abbrev pub besides : Operator → (y x : Option ScalarValue) → Bool
besides op y x = compares op x y

-- an element decides ANY where it holds, EVERY where it doesn't
abbrev pub decides : (any : Bool) → (holds : Bool) → Bool
decides any b = reversed_if (not any) b

-- "ANY and EVERY add one per element; the search ends at the first element that decides it"
unfoldable pub elements_seen : (any : Bool) → (Option ScalarValue → Bool) → List (Option ScalarValue) → ℕ
elements_seen any p [] = 0
elements_seen any p (x ∷ xs) = suc (pick (decides any (p x)) 0 (elements_seen any p xs))

unfoldable pub search_steps : (any : Bool) → (Option ScalarValue → Bool) → Array → ℕ
search_steps any p none = 0
search_steps any p (some xs) = elements_seen any p xs

-- truth and steps, as the code answers
unfoldable pub searched : (negated any : Bool) → Operator → Array → Option ScalarValue → Told
searched negated any op xs y = told (reversed_if negated (search_holds any (besides op y) xs)) (1 + search_steps any (besides op y) xs)
