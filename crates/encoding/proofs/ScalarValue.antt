-- The scalar value of a sequence, by its length; where a sequence is well-formed it is a scalar value. Assumes nothing.
use Prim.Native.Nat.{ℕ, ◌+◌, ◌*◌, ◌%◌, ◌≤◌, ◌<◌}
use mathlib.Core.List.{List, [], ◌∷◌}
use mathlib.Core.Bool.{Bool, true, false, ◌&&◌, false≢true}
use mathlib.Core.Path.{◌≡◌, refl}
use native.Mathlib.Omega.{arith}
use lib.ListN.{length, get_or, take, drop}
use lib.Dec.{leb}
use borrow.Author.Tests.{leb-true, le-leb, lt-leb}
use Rattle.base.proofs.Lists.{left_next}
use Rattle.base.proofs.Says.{and_both}
use Rattle.base.specs.Pick.{pick}
use Rattle.base.specs.Range.{within}
use Rattle.encoding.specs.WellFormed.{Range, ◌‥◌, table, in_range, fits, sequence_in, sequence_at}
use Rattle.encoding.specs.Scalar.{is_scalar_value, scalar_of, scalar_at}
use Rattle.encoding.proofs.WellFormed.{one_at}

pub scalar_none : (q : List ℕ) → length q ≡ 0 → 0 ≡ scalar_of q
unfolding scalar_of
scalar_none [] h = refl
scalar_none (a ∷ q) h = absurd (omega arith)

pub scalar_one : (q : List ℕ) → length q ≡ 1 → get_or q 0 0 ≡ scalar_of q
unfolding scalar_of
scalar_one [] h = absurd (omega arith)
scalar_one (a ∷ []) h = refl
scalar_one (a ∷ b ∷ q) h = absurd (omega arith)

pub scalar_two : (q : List ℕ) → length q ≡ 2 → get_or q 0 0 % 32 * 64 + get_or q 1 0 % 64 ≡ scalar_of q
unfolding scalar_of
scalar_two [] h = absurd (omega arith)
scalar_two (a ∷ []) h = absurd (omega arith)
scalar_two (a ∷ b ∷ []) h = refl
scalar_two (a ∷ b ∷ c ∷ q) h = absurd (omega arith)

pub scalar_three : (q : List ℕ) → length q ≡ 3 → (get_or q 0 0 % 16 * 64 + get_or q 1 0 % 64) * 64 + get_or q 2 0 % 64 ≡ scalar_of q
unfolding scalar_of
scalar_three [] h = absurd (omega arith)
scalar_three (a ∷ []) h = absurd (omega arith)
scalar_three (a ∷ b ∷ []) h = absurd (omega arith)
scalar_three (a ∷ b ∷ c ∷ []) h = refl
scalar_three (a ∷ b ∷ c ∷ d ∷ q) h = absurd (omega arith)

pub scalar_four : (q : List ℕ) → 4 ≤ length q
    → ((get_or q 0 0 % 8 * 64 + get_or q 1 0 % 64) * 64 + get_or q 2 0 % 64) * 64 + get_or q 3 0 % 64 ≡ scalar_of q
unfolding scalar_of
scalar_four [] h = absurd (omega arith)
scalar_four (a ∷ []) h = absurd (omega arith)
scalar_four (a ∷ b ∷ []) h = absurd (omega arith)
scalar_four (a ∷ b ∷ c ∷ []) h = absurd (omega arith)
scalar_four (a ∷ b ∷ c ∷ d ∷ q) h = refl

-- a byte below 80 is a character of its own
pub scalar_ascii : (s : List ℕ) (at : ℕ) → at < length s → get_or s at 0 < 0x80 → get_or s at 0 ≡ scalar_at s at
unfolding scalar_at scalar_of
scalar_ascii s at inside low = rw (← one_at s at inside low, left_next s at inside)

-- ---- a well-formed sequence has a scalar value

-- the bounds that a row puts on the bytes it fits
Bounds : List Range → List ℕ → Type 0
Bounds [] s = Unit
Bounds (r ∷ row) [] = ⊥
Bounds ((low ‥ high) ∷ row) (b ∷ s) = (low ≤ b) × (b ≤ high) × Bounds row s

bounds : (row : List Range) (s : List ℕ) → fits row s ≡ true → Bounds row s
unfolding fits in_range within Bounds
bounds [] s h = tt
bounds (r ∷ row) [] h = absurd (false≢true h)
bounds ((low ‥ high) ∷ row) (b ∷ s) h =
    let p = and_both (leb low b && leb b high) (fits row s) h in
    let q = and_both (leb low b) (leb b high) p.0 in
    (leb-true low b q.0, leb-true b high q.1, bounds row s p.1)

abbrev Scalar : ℕ → Type 0
Scalar v = is_scalar_value v ≡ true

-- a value below the surrogates, and one above them
below : (v : ℕ) → v ≤ 0xD7FF → Scalar v
unfolding is_scalar_value within
below v h = rw (le-leb 0 v (omega arith), le-leb v 0xD7FF h)

above : (v : ℕ) → 0xE000 ≤ v → v ≤ 0x10FFFF → Scalar v
unfolding is_scalar_value within
above v l h = rw (lt-leb v 0xD7FF (omega arith), le-leb 0 v (omega arith), le-leb 0xE000 v l, le-leb v 0x10FFFF h)

-- what a row's bounds say of the value, by the number of its ranges
abbrev Holds : List Range → Type 0
Holds row = (s : List ℕ) → Bounds row s → Scalar (scalar_of (take (length row) s))

module _ (i j : ℕ) where
  one : ((a : ℕ) → i ≤ a → a ≤ j → Scalar a) → Holds (i ‥ j ∷ [])
  unfolding Bounds scalar_of
  one f [] h = absurd h
  one f (a ∷ s) h = f a h.0 h.1

  two : (k l : ℕ) → ((a b : ℕ) → i ≤ a → a ≤ j → k ≤ b → b ≤ l → Scalar (a % 32 * 64 + b % 64)) → Holds (i ‥ j ∷ k ‥ l ∷ [])
  unfolding Bounds scalar_of
  two k l f [] h = absurd h
  two k l f (a ∷ []) h = absurd h.2
  two k l f (a ∷ b ∷ s) h = f a b h.0 h.1 h.2.0 h.2.1

  three : (k l : ℕ) → ((a b c : ℕ) → i ≤ a → a ≤ j → k ≤ b → b ≤ l → Scalar ((a % 16 * 64 + b % 64) * 64 + c % 64))
      → Holds (i ‥ j ∷ k ‥ l ∷ 0x80 ‥ 0xBF ∷ [])
  unfolding Bounds scalar_of
  three k l f [] h = absurd h
  three k l f (a ∷ []) h = absurd h.2
  three k l f (a ∷ b ∷ []) h = absurd h.2.2
  three k l f (a ∷ b ∷ c ∷ s) h = f a b c h.0 h.1 h.2.0 h.2.1

  four : (k l : ℕ) → ((a b c d : ℕ) → i ≤ a → a ≤ j → k ≤ b → b ≤ l → Scalar (((a % 8 * 64 + b % 64) * 64 + c % 64) * 64 + d % 64))
      → Holds (i ‥ j ∷ k ‥ l ∷ 0x80 ‥ 0xBF ∷ 0x80 ‥ 0xBF ∷ [])
  unfolding Bounds scalar_of
  four k l f [] h = absurd h
  four k l f (a ∷ []) h = absurd h.2
  four k l f (a ∷ b ∷ []) h = absurd h.2.2
  four k l f (a ∷ b ∷ c ∷ []) h = absurd h.2.2.2
  four k l f (a ∷ b ∷ c ∷ d ∷ s) h = f a b c d h.0 h.1 h.2.0 h.2.1

data Each : List (List Range) → Type 0 where
  none : Each []
  more : {row : List Range} {rows : List (List Range)} → Holds row → Each rows → Each (row ∷ rows)

each : Each table
each =
    more (one 0x00 0x7F (λ a p q. below _ (omega arith)))
    (more (two 0xC2 0xDF 0x80 0xBF (λ a b p q r t. below _ (omega arith)))
    (more (three 0xE0 0xE0 0xA0 0xBF (λ a b c p q r t. below _ (omega arith)))
    (more (three 0xE1 0xEC 0x80 0xBF (λ a b c p q r t. below _ (omega arith)))
    (more (three 0xED 0xED 0x80 0x9F (λ a b c p q r t. below _ (omega arith)))
    (more (three 0xEE 0xEF 0x80 0xBF (λ a b c p q r t. above _ (omega arith) (omega arith)))
    (more (four 0xF0 0xF0 0x90 0xBF (λ a b c d p q r t. above _ (omega arith) (omega arith)))
    (more (four 0xF1 0xF3 0x80 0xBF (λ a b c d p q r t. above _ (omega arith) (omega arith)))
    (more (four 0xF4 0xF4 0x80 0x8F (λ a b c d p q r t. above _ (omega arith) (omega arith)))
    none))))))))

scalar_in_law : (rows : List (List Range)) → Each rows → (s : List ℕ) → (sequence_in rows s ≡ 0 → ⊥) → Scalar (scalar_of (take (sequence_in rows s) s))
unfolding sequence_in
scalar_in_law [] none s n = absurd (n refl)
scalar_in_law (row ∷ rows) (more h e) s n = go (fits row s) refl n (scalar_in_law rows e s)
  where
    go : (t : Bool) → fits row s ≡ t → (pick t (length row) (sequence_in rows s) ≡ 0 → ⊥)
        → ((sequence_in rows s ≡ 0 → ⊥) → Scalar (scalar_of (take (sequence_in rows s) s)))
        → Scalar (scalar_of (take (pick t (length row) (sequence_in rows s)) s))
    go true f n k = h s (bounds row s f)
    go false f n k = k n

-- where a well-formed sequence starts, it has a scalar value: below 110000, and no surrogate
pub scalar_at_value : (s : List ℕ) (at : ℕ) → (sequence_at s at ≡ 0 → ⊥) → is_scalar_value (scalar_at s at) ≡ true
unfolding sequence_at scalar_at
scalar_at_value s at n = scalar_in_law table each (drop at s) n
