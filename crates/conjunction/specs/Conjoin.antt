-- conjoin (first, second, table, buffer): 02 Q-7. "A fault in either query is returned with its number and place and with which query it is; the first is checked before the
-- second, and a table fault comes with the first. A refusal writes nothing. Refused: 43 ..., and then 44 when the buffer is shorter than the result, both after the two checks
-- and naming neither query." What it returns depends on the buffer's length alone, never on what stands in it.
use Rattle.std.specs.Prelude.{ℕ, List, ◌++◌, length, drop, ltb, Err, Ok, Result}
use Rattle.base.specs.Pick.{pick}
use Rattle.filter.specs.Refusal as call
use Rattle.filter.specs.Check.{check}
use Rattle.conjunction.specs.declared.refusal.ConjoinCause.{ConjoinCause}
use Rattle.conjunction.specs.declared.refusal.ConjoinCause.TheVariants.{First, Second, Size, Buffer}
use Rattle.conjunction.specs.Conjunction.{conjunction, is_too_large}
use Rattle.conjunction.specs.declared.refusal.ConjoinRefusal.{ConjoinRefusal}
use Rattle.filter.specs.declared.refusal.Refusal.{Refusal}

abbrev pub number_of : ConjoinCause → ℕ
number_of (First c) = call.number_of c
number_of (Second c) = call.number_of c
number_of Size = 43
number_of Buffer = 44

-- "with which query it is": the first or the second; 0 for neither
abbrev pub query_of : ConjoinCause → ℕ
query_of (First c) = 1
query_of (Second c) = 2
query_of Size = 0
query_of Buffer = 0

abbrev pub refused : ConjoinCause → (place : ℕ) → Result ℕ ConjoinRefusal
refused c p = Err (record { cause = c; place = p })

-- the result's size before the buffer's; `size` is the buffer's length
abbrev pub conjoin_accepted : (first second : List ℕ) (size : ℕ) → Result ℕ ConjoinRefusal
conjoin_accepted q p size =
    pick (is_too_large q p) (refused Size 0)
    (pick (ltb size (length (conjunction q p))) (refused Buffer 0) (Ok (length (conjunction q p))))

abbrev pub conjoin_second : (first second : List ℕ) (size : ℕ) → Result (Unit {0}) Refusal → Result ℕ ConjoinRefusal
conjoin_second q p size (Err r) = refused (Second r.cause) r.place
conjoin_second q p size (Ok tt) = conjoin_accepted q p size

abbrev pub conjoin_first : (first second table : List ℕ) (size : ℕ) → Result (Unit {0}) Refusal → Result ℕ ConjoinRefusal
conjoin_first q p t size (Err r) = refused (First r.cause) r.place
conjoin_first q p t size (Ok tt) = conjoin_second q p size (check p t)

unfoldable pub conjoin : (first second table : List ℕ) (size : ℕ) → Result ℕ ConjoinRefusal
conjoin q p t size = conjoin_first q p t size (check q t)

-- the buffer after a call: as it was where it is refused; else the text, "bytes beyond it untouched"
abbrev pub buffer_by : (first second buffer : List ℕ) → Result ℕ ConjoinRefusal → List ℕ
buffer_by q p b (Err r) = b
buffer_by q p b (Ok n) = conjunction q p ++ drop n b

unfoldable pub buffer_after : (first second table buffer : List ℕ) → List ℕ
buffer_after q p t b = buffer_by q p b (conjoin q p t (length b))
