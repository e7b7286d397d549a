-- What a character says of its first byte. Characters below 0x80 and bytes below 0x80 are the same in UTF-8: no longer sequence has such a byte first or such a value.
use Prim.Native.Nat.{ℕ, ◌+◌, ◌*◌, ◌%◌, ◌≤◌, ◌<◌}
use mathlib.Core.Path.{◌≡◌, refl, ◌∙◌}
use mathlib.Core.List.{List, [], ◌∷◌}
use mathlib.Core.Bool.{Bool, true, false, ◌&&◌, ◌||◌, false≢true, or-true}
use native.Mathlib.Omega.{arith}
use lib.ListN.{length, get_or, take, drop}
use lib.Dec.{leb, ltb}
use borrow.Author.Tests.{leb-true, leb-false, ltb-true, ltb-false, le-leb}
use Rattle.base.specs.Pick.{pick}
use Rattle.base.specs.Range.{within}
use Rattle.base.specs.Part.{byte_at}
use Rattle.base.proofs.Lists.{left_next, byte_within}
use Rattle.base.proofs.Says.{and_both}
use Rattle.encoding.specs.WellFormed.{Range, ◌‥◌, table, in_range, fits, sequence_in, sequence_at}
use Rattle.encoding.specs.Scalar.{is_scalar_value, scalar_of, scalar_at}
use Rattle.encoding.proofs.ScalarValue.{scalar_at_value}
use Rattle.string_literal.specs.declared.InString.TheVariants.{Character}
use Rattle.string_literal.specs.Char.{unicode_char, raw_at}

-- a row that fits, byte by byte
row_first : (i j b : ℕ) (row : List Range) (s : List ℕ) → fits (i ‥ j ∷ row) (b ∷ s) ≡ true → (i ≤ b) × (b ≤ j) × (fits row s ≡ true)
unfolding fits in_range within
row_first i j b row s h =
    let p = and_both (leb i b && leb b j) (fits row s) h in
    let r = and_both (leb i b) (leb b j) p.0 in
    (leb-true i b r.0, leb-true b j r.1, p.1)

no_row : {A : Type 0} (r : Range) (row : List Range) → fits (r ∷ row) [] ≡ true → A
unfolding fits
no_row r row h = absurd (false≢true h)

-- a value below 0x80 is the first byte; the two of a plane's end that are no UNICODE-CHAR have EF first
record First (b v : ℕ) : Type 0 where
  low : v < 0x80 → b ≡ v
  last : 0xFFFE ≤ v → v ≤ 0xFFFF → b ≡ 0xEF

abbrev Leads : List Range → Type 0
Leads row = (s : List ℕ) → fits row s ≡ true → First (get_or s 0 0) (scalar_of (take (length row) s))

module _ (i j : ℕ) where
  one : ((a : ℕ) → i ≤ a → a ≤ j → First a a) → Leads (i ‥ j ∷ [])
  unfolding scalar_of
  one p [] f = no_row (i ‥ j) [] f
  one p (a ∷ s) f = let r = row_first i j a [] s f in p a r.0 r.1

  two : (k l : ℕ) → ((a b : ℕ) → i ≤ a → a ≤ j → First a (a % 32 * 64 + b % 64)) → Leads (i ‥ j ∷ k ‥ l ∷ [])
  unfolding scalar_of
  two k l p [] f = no_row (i ‥ j) (k ‥ l ∷ []) f
  two k l p (a ∷ []) f = no_row (k ‥ l) [] (row_first i j a (k ‥ l ∷ []) [] f).2
  two k l p (a ∷ b ∷ s) f =
      let r = row_first i j a (k ‥ l ∷ []) (b ∷ s) f in
      p a b r.0 r.1

  three : (k l m n : ℕ) → ((a b c : ℕ) → i ≤ a → a ≤ j → k ≤ b → b ≤ l → First a ((a % 16 * 64 + b % 64) * 64 + c % 64)) → Leads (i ‥ j ∷ k ‥ l ∷ m ‥ n ∷ [])
  unfolding scalar_of
  three k l m n p [] f = no_row (i ‥ j) (k ‥ l ∷ m ‥ n ∷ []) f
  three k l m n p (a ∷ []) f = no_row (k ‥ l) (m ‥ n ∷ []) (row_first i j a (k ‥ l ∷ m ‥ n ∷ []) [] f).2
  three k l m n p (a ∷ b ∷ []) f = no_row (m ‥ n) [] (row_first k l b (m ‥ n ∷ []) [] (row_first i j a (k ‥ l ∷ m ‥ n ∷ []) (b ∷ []) f).2).2
  three k l m n p (a ∷ b ∷ c ∷ s) f =
      let r = row_first i j a (k ‥ l ∷ m ‥ n ∷ []) (b ∷ c ∷ s) f in
      let t = row_first k l b (m ‥ n ∷ []) (c ∷ s) r.2 in
      p a b c r.0 r.1 t.0 t.1

  four : (k l m n o u : ℕ) → ((a b c d : ℕ) → i ≤ a → a ≤ j → k ≤ b → b ≤ l → First a (((a % 8 * 64 + b % 64) * 64 + c % 64) * 64 + d % 64)) → Leads (i ‥ j ∷ k ‥ l ∷ m ‥ n ∷ o ‥ u ∷ [])
  unfolding scalar_of
  four k l m n o u p [] f = no_row (i ‥ j) (k ‥ l ∷ m ‥ n ∷ o ‥ u ∷ []) f
  four k l m n o u p (a ∷ []) f = no_row (k ‥ l) (m ‥ n ∷ o ‥ u ∷ []) (row_first i j a (k ‥ l ∷ m ‥ n ∷ o ‥ u ∷ []) [] f).2
  four k l m n o u p (a ∷ b ∷ []) f =
      no_row (m ‥ n) (o ‥ u ∷ []) (row_first k l b (m ‥ n ∷ o ‥ u ∷ []) [] (row_first i j a (k ‥ l ∷ m ‥ n ∷ o ‥ u ∷ []) (b ∷ []) f).2).2
  four k l m n o u p (a ∷ b ∷ c ∷ []) f =
      no_row (o ‥ u) []
      (row_first m n c (o ‥ u ∷ []) [] (row_first k l b (m ‥ n ∷ o ‥ u ∷ []) (c ∷ []) (row_first i j a (k ‥ l ∷ m ‥ n ∷ o ‥ u ∷ []) (b ∷ c ∷ []) f).2).2).2
  four k l m n o u p (a ∷ b ∷ c ∷ d ∷ s) f =
      let r = row_first i j a (k ‥ l ∷ m ‥ n ∷ o ‥ u ∷ []) (b ∷ c ∷ d ∷ s) f in
      let t = row_first k l b (m ‥ n ∷ o ‥ u ∷ []) (c ∷ d ∷ s) r.2 in
      p a b c d r.0 r.1 t.0 t.1

data Each : List (List Range) → Type 0 where
  none : Each []
  more : {row : List Range} {rows : List (List Range)} → Leads row → Each rows → Each (row ∷ rows)

-- a value that is neither
other : (a v : ℕ) → 0x80 ≤ v → (0xFFFE ≤ v → v ≤ 0xFFFF → a ≡ 0xEF) → First a v
other a v l h = record { low = λ k. absurd (omega arith); last = h }

each : Each table
each =
    more (one 0x00 0x7F (λ a p q. record { low = λ h. refl; last = λ h k. absurd (omega arith) }))
    (more (two 0xC2 0xDF 0x80 0xBF (λ a b p q. other a _ (omega arith) (λ h k. omega arith)))
    (more (three 0xE0 0xE0 0xA0 0xBF 0x80 0xBF (λ a b c p q r t. other a _ (omega arith) (λ h k. omega arith)))
    (more (three 0xE1 0xEC 0x80 0xBF 0x80 0xBF (λ a b c p q r t. other a _ (omega arith) (λ h k. omega arith)))
    (more (three 0xED 0xED 0x80 0x9F 0x80 0xBF (λ a b c p q r t. other a _ (omega arith) (λ h k. omega arith)))
    (more (three 0xEE 0xEF 0x80 0xBF 0x80 0xBF (λ a b c p q r t. other a _ (omega arith) (λ h k. omega arith)))
    (more (four 0xF0 0xF0 0x90 0xBF 0x80 0xBF 0x80 0xBF (λ a b c d p q r t. other a _ (omega arith) (λ h k. omega arith)))
    (more (four 0xF1 0xF3 0x80 0xBF 0x80 0xBF 0x80 0xBF (λ a b c d p q r t. other a _ (omega arith) (λ h k. omega arith)))
    (more (four 0xF4 0xF4 0x80 0x8F 0x80 0xBF 0x80 0xBF (λ a b c d p q r t. other a _ (omega arith) (λ h k. omega arith)))
    none))))))))

first_in : (rows : List (List Range)) → Each rows → (s : List ℕ) → (sequence_in rows s ≡ 0 → ⊥) → First (get_or s 0 0) (scalar_of (take (sequence_in rows s) s))
unfolding sequence_in
first_in [] none s n = absurd (n refl)
first_in (row ∷ rows) (more l e) s n = go (fits row s) refl n (first_in rows e s)
  where
    go : (t : Bool) → fits row s ≡ t → (pick t (length row) (sequence_in rows s) ≡ 0 → ⊥)
        → ((sequence_in rows s ≡ 0 → ⊥) → First (get_or s 0 0) (scalar_of (take (sequence_in rows s) s)))
        → First (get_or s 0 0) (scalar_of (take (pick t (length row) (sequence_in rows s)) s))
    go true f n k = l s f
    go false f n k = k n

value_from : (b v : ℕ) → First b v → 0x20 ≤ b → 0x20 ≤ v
value_from b v f l = go (ltb v 0x80) refl
  where
    go : (t : Bool) → ltb v 0x80 ≡ t → 0x20 ≤ v
    go true e = let z = f.low (ltb-true v 0x80 e) in omega arith
    go false e = omega (arith, ltb-false v 0x80 e)

-- a scalar value from the blank on is a UNICODE-CHAR, but for those two
string_value : (v : ℕ) → is_scalar_value v ≡ true → 0x20 ≤ v → (0xFFFE ≤ v → v ≤ 0xFFFF → ⊥) → unicode_char v ≡ true
unfolding unicode_char is_scalar_value within
string_value v s l n = go (leb v 0xD7FF) refl (leb v 0xfffd) refl (leb 0x10000 v) refl (rw (le-leb 0 v (omega arith)) at s)
  where
    go : (t : Bool) → leb v 0xD7FF ≡ t → (u : Bool) → leb v 0xfffd ≡ u → (w : Bool) → leb 0x10000 v ≡ w → (t || (leb 0xE000 v && leb v 0x10FFFF)) ≡ true
        → ((leb 0x20 v && t) || ((leb 0xe000 v && u) || (w && leb v 0x10ffff))) ≡ true
    go true e u f w g h = rw (le-leb 0x20 v l)
    go false e true f w g h = rw ((and_both (leb 0xE000 v) (leb v 0x10FFFF) h).0, or-true (leb 0x20 v && false))
    go false e false f true g h = rw ((and_both (leb 0xE000 v) (leb v 0x10FFFF) h).1, or-true (leb 0xe000 v && false), or-true (leb 0x20 v && false))
    go false e false f false g h = absurd (n (omega (arith, leb-false v 0xfffd f)) (omega (arith, leb-false 0x10000 v g)))

module _ (q : List ℕ) (at : ℕ) where
  first_of : at < length q → byte_at q at ≡ get_or (drop at q) 0 0
  first_of h = rw (left_next q at h)

  first_byte : at < length q → (sequence_at q at ≡ 0 → ⊥) → First (byte_at q at) (scalar_at q at)
  unfolding sequence_at scalar_at
  first_byte h n = rw (first_of h) (first_in table each (drop at q) n)

  -- a character below 0x80 is its first byte
  pub low_character : at < length q → (sequence_at q at ≡ 0 → ⊥) → scalar_at q at < 0x80 → byte_at q at ≡ scalar_at q at
  low_character h n l = (first_byte h n).low l

  -- a character whose first byte is from the blank on and not EF is one of a string
  pub string_character : at < length q → (sequence_at q at ≡ 0 → ⊥) → 0x20 ≤ byte_at q at → (byte_at q at ≡ 0xEF → ⊥) → unicode_char (scalar_at q at) ≡ true
  string_character h n b e =
      let f = first_byte h n in
      string_value (scalar_at q at) (scalar_at_value q at n) (value_from (byte_at q at) (scalar_at q at) f b) (λ l m. e (f.last l m))

  -- a byte below 0x80 is a character
  pub low_byte : at < length q → byte_at q at < 0x80 → (sequence_at q at ≡ 1) × (scalar_at q at ≡ byte_at q at)
  unfolding sequence_at scalar_at sequence_in fits in_range within scalar_of
  low_byte h l = rw (left_next q at h, le-leb 0 (byte_at q at) (omega arith), le-leb (byte_at q at) 0x7F (omega arith)) (refl, refl)

  -- one from the blank on is a character of a string, as the code meets it
  module _ {b : ℕ} (e : b ≡ byte_at q at) (h : (leb 0x20 b && ltb b 0x80) ≡ true) where
    from_blank : (0x20 ≤ b) × (b < 0x80)
    from_blank = let p = and_both (leb 0x20 b) (ltb b 0x80) h in (leb-true 0x20 b p.0, ltb-true b 0x80 p.1)

    pub ascii_within : at < length q
    ascii_within = byte_within q at (λ z. let y : b ≡ 0 = e ∙ z in omega (arith, from_blank.0))

    pub ascii_raw : Character b (at + 1) ≡ raw_at q at
    unfolding raw_at unicode_char within
    ascii_raw =
        let l = low_byte ascii_within (rw (← e) from_blank.1) in
        rw (l.0, l.1, ← e, le-leb 0x20 b from_blank.0, le-leb b 0xd7ff (omega (arith, from_blank.1))) refl
