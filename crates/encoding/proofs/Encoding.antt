-- What is encoded reads back: a scalar value's sequence is one well-formed sequence, with that value. Assumes nothing.
use Prim.Native.Nat.{ℕ, ◌+◌, ◌*◌, ◌/◌, ◌%◌, ◌≤◌, ◌<◌}
use mathlib.Core.List.{List, [], ◌∷◌, ◌++◌}
use mathlib.Core.Bool.{Bool, true, false, ◌&&◌, ◌||◌}
use mathlib.Core.Path.{◌≡◌, refl, sym, ◌∙◌}
use native.Mathlib.Omega.{arith}
use lib.ListN.{length}
use lib.Dec.{ltb, leb, eqb}
use borrow.Author.Tests.{eqb-true, ltb-true, ltb-false, leb-true, le-leb}
use Rattle.base.specs.Pick.{pick}
use Rattle.base.specs.Range.{within}
use Rattle.base.proofs.Says.{and_both}
use Rattle.encoding.specs.WellFormed.{in_range, fits, sequence_at}
use Rattle.encoding.specs.Lead.{second_low, second_high}
use Rattle.encoding.specs.Scalar.{is_scalar_value, scalar_of, two_bytes, three_bytes, four_bytes, encode}
use Rattle.encoding.proofs.WellFormed.{continuations, single, by_second, low_by, high_by, lead_ascii, lead_two, lead_three, lead_four}

in_range_law : (low high b : ℕ) → low ≤ b → b ≤ high → within low high b ≡ true
unfolding within
in_range_law low high b p q = rw (le-leb low b p, le-leb b high q)

-- a second byte that the first byte's row takes
pub second : (a b : ℕ) → a < 256 → 0x80 ≤ b → b ≤ 0xBF → (a ≡ 0xE0 → 0xA0 ≤ b) → (a ≡ 0xF0 → 0x90 ≤ b) → (a ≡ 0xED → b ≤ 0x9F) → (a ≡ 0xF4 → b ≤ 0x8F)
    → within (second_low a) (second_high a) b ≡ true
second a b byte l h e0 f0 ed f4 = in_range_law (second_low a) (second_high a) b (rw (low_by a byte) (low (eqb a 0xE0) refl (eqb a 0xF0) refl)) (rw (high_by a byte) (high (eqb a 0xED) refl (eqb a 0xF4) refl))
  where
    low : (t : Bool) → eqb a 0xE0 ≡ t → (u : Bool) → eqb a 0xF0 ≡ u → pick t 0xA0 (pick u 0x90 0x80) ≤ b
    low true p u q = e0 (eqb-true a 0xE0 p)
    low false p true q = f0 (eqb-true a 0xF0 q)
    low false p false q = l

    high : (t : Bool) → eqb a 0xED ≡ t → (u : Bool) → eqb a 0xF4 ≡ u → b ≤ pick t 0x9F (pick u 0x8F 0xBF)
    high true p u q = ed (eqb-true a 0xED p)
    high false p true q = f4 (eqb-true a 0xF4 q)
    high false p false q = h

-- a value that is no surrogate and not above 10FFFF
record Value (v : ℕ) : Type 0 where
  top : v ≤ 0x10FFFF
  gap : 0xD7FF < v → 0xE000 ≤ v

value : (v : ℕ) → is_scalar_value v ≡ true → Value v
unfolding is_scalar_value within
value v h = go (leb v 0xD7FF) refl (rw (le-leb 0 v (omega arith)) at h)
  where
    go : (t : Bool) → leb v 0xD7FF ≡ t → (t || (leb 0xE000 v && leb v 0x10FFFF)) ≡ true → Value v
    go true e k = let l = leb-true v 0xD7FF e in record { top = omega arith; gap = λ g. omega arith }
    go false e k =
        let z = and_both (leb 0xE000 v) (leb v 0x10FFFF) k in
        let p = leb-true 0xE000 v z.0 in
        record { top = leb-true v 0x10FFFF z.1; gap = λ g. p }

module _ (v : ℕ) (t : List ℕ) where
  two : 0x80 ≤ v → v < 0x800 → sequence_at (two_bytes v ++ t) 0 ≡ 2
  unfolding fits continuations
  two l h =
      let a = 0xC0 + v / 64 in
      let b = 0x80 + v % 64 in
      by_second (a ∷ b ∷ t) 0 (omega arith) (omega arith) 2 (lead_two a (omega arith) (omega arith) (omega arith) (omega arith)) (omega arith) (omega arith)
      ∙ rw (second a b (omega arith) (omega arith) (omega arith) (λ e. omega arith) (λ e. omega arith) (λ e. omega arith) (λ e. omega arith))

  three : Value v → 0x800 ≤ v → v < 0x10000 → sequence_at (three_bytes v ++ t) 0 ≡ 3
  unfolding fits in_range continuations
  three w l h =
      let a = 0xE0 + v / 4096 in
      let b = 0x80 + v / 64 % 64 in
      let c = 0x80 + v % 64 in
      by_second (a ∷ b ∷ c ∷ t) 0 (omega arith) (omega arith) 3 (lead_three a (omega arith) (omega arith) (omega arith) (omega arith) (omega arith)) (omega arith) (omega arith)
      ∙ rw (
        second a b (omega arith) (omega arith) (omega arith) (λ e. omega arith) (λ e. omega arith) (λ e. below_surrogates e) (λ e. omega arith),
        in_range_law 0x80 0xBF c (omega arith) (omega arith),
      )
    where
      below_surrogates : 0xE0 + v / 4096 ≡ 0xED → 0x80 + v / 64 % 64 ≤ 0x9F
      below_surrogates e = go (ltb 0xD7FF v) refl
        where
          go : (b : Bool) → ltb 0xD7FF v ≡ b → 0x80 + v / 64 % 64 ≤ 0x9F
          go true k = let g = w.gap (ltb-true 0xD7FF v k) in omega arith
          go false k = let g = ltb-false 0xD7FF v k in omega arith

  four : Value v → 0x10000 ≤ v → sequence_at (four_bytes v ++ t) 0 ≡ 4
  unfolding fits in_range continuations
  four w l =
      let a = 0xF0 + v / 262144 in
      let b = 0x80 + v / 4096 % 64 in
      let top = w.top in
      by_second (a ∷ b ∷ (0x80 + v / 64 % 64) ∷ (0x80 + v % 64) ∷ t) 0 (omega arith) (omega arith) 4
      (lead_four a (omega arith) (omega arith) (omega arith) (omega arith) (omega arith) (omega arith)) (omega arith) (omega arith)
      ∙ rw (
        second a b (omega arith) (omega arith) (omega arith) (λ e. omega arith) (λ e. omega arith) (λ e. omega arith) (λ e. omega arith),
        in_range_law 0x80 0xBF (0x80 + v / 64 % 64) (omega arith) (omega arith),
        in_range_law 0x80 0xBF (0x80 + v % 64) (omega arith) (omega arith),
      )

-- the low six bits of a continuation byte, and six bits put behind a value's higher ones
six_bits : (x : ℕ) → (0x80 + x % 64) % 64 ≡ x % 64
six_bits x = omega arith

behind : (v q : ℕ) → q ≡ v / 64 → q * 64 + v % 64 ≡ v
behind v q e = omega arith

four_value : (v : ℕ) → v ≤ 0x10FFFF → scalar_of (four_bytes v) ≡ v
unfolding scalar_of
four_value v l =
    let a : (0xF0 + v / 262144) % 8 ≡ v / 262144 = omega arith in
    let p : v / 262144 ≡ v / 4096 / 64 = omega arith in
    let q : v / 4096 ≡ v / 64 / 64 = omega arith in
    rw (a, six_bits (v / 4096), six_bits (v / 64), six_bits v, behind (v / 4096) (v / 262144) p, behind (v / 64) (v / 4096) q) (behind v (v / 64) refl)

-- a sequence, in front of any text, is one well-formed sequence of the value
abbrev pub ReadsBack : ℕ → List ℕ → List ℕ → Type 0
ReadsBack v t s = (sequence_at (s ++ t) 0 ≡ length s) × (scalar_of s ≡ v)

pub encode_reads : (v : ℕ) → is_scalar_value v ≡ true → (t : List ℕ) → ReadsBack v t (encode v)
unfolding encode scalar_of
encode_reads v h t = by_1 (ltb v 0x80) refl
  where
    w : Value v
    w = value v h

    by_3 : 0x800 ≤ v → (b : Bool) → ltb v 0x10000 ≡ b → ReadsBack v t (pick b (three_bytes v) (four_bytes v))
    by_3 l true e = let k = ltb-true v 0x10000 e in (three v t w l k, omega arith)
    by_3 l false e = (four v t w (ltb-false v 0x10000 e), four_value v w.top)

    by_2 : 0x80 ≤ v → (b : Bool) → ltb v 0x800 ≡ b → ReadsBack v t (pick b (two_bytes v) (pick (ltb v 0x10000) (three_bytes v) (four_bytes v)))
    by_2 l true e = let k = ltb-true v 0x800 e in (two v t l k, omega arith)
    by_2 l false e = by_3 (ltb-false v 0x800 e) (ltb v 0x10000) refl

    by_1 : (b : Bool) → ltb v 0x80 ≡ b → ReadsBack v t (pick b (v ∷ []) (pick (ltb v 0x800) (two_bytes v) (pick (ltb v 0x10000) (three_bytes v) (four_bytes v))))
    by_1 true e =
        let k = ltb-true v 0x80 e in
        (sym (single (v ∷ t) 0 (omega arith) (omega arith) 1 (lead_ascii v (omega arith) k) (omega arith)), refl)
    by_1 false e = by_2 (ltb-false v 0x80 e) (ltb v 0x800) refl
