-- The memory of the symbols that stand for a character: it starts with none, and stays right as one is found in it or put there. Assumes nothing.
use mathlib.Core.Path.{◌≡◌, refl, ap, subst, sym as inv, ◌∙◌}
use mathlib.Core.Bool.{Bool, ◌||◌, or-false}
use mathlib.Core.List.{List}
use Prim.Native.Nat.{ℕ, zero, suc, ◌+◌, ◌<◌}
use native.Mathlib.Omega.{arith}
use native.Mathlib.Decide.{ℕ_discrete}
use lib.ListN.{length, get_or, set, replicate}
use lib.Seq.{get_or-set_same, get_or-set_other}
use lib.Bits.{bit_or}
use Rattle.base.specs.Bits.{bit}
use Rattle.base.proofs.Bits.{bit_or_law, bit_other}
use Rattle.base.specs.Part.{part}
use Rattle.encoding.specs.WellFormed.{sequence_at}
use Rattle.encoding.specs.Scalar.{scalar_of, scalar_at}
use Rattle.encoding.proofs.ScalarValue.{scalar_ascii}
use Rattle.pattern.specs.Hits.{Hits}
use Rattle.matcher.specs.declared.remembered.Memory.{Memory}
use Rattle.matcher.specs.Remembered.{Remembers}

-- a list of zeros reads 0 also past its end
pub zero_at : (n k : ℕ) → ◌≡◌ {A = ℕ} (get_or (replicate n 0) k 0) 0
zero_at zero k = refl
zero_at (suc n) zero = refl
zero_at (suc n) (suc k) = zero_at n k

pub remembers_none : (p : List ℕ) → Remembers p (record { ascii = replicate 128 0; numbers = replicate 64 0; hits = replicate 64 0 })
remembers_none p = record { ascii = λ c l z. absurd (z (zero_at 128 c)); others = λ k c l e. absurd (omega (arith, zero_at 64 k, e)) }

module _ (p : List ℕ) (c : ℕ) {memory : Memory} (right : Remembers p memory) where
  -- ---- of ASCII

  module _ (low : c < 128) where
    pub ascii_found : (get_or memory.ascii c 0 ≡ 0 → ⊥) → Hits p c (get_or memory.ascii c 0)
    ascii_found z = right.ascii c low z

    module _ (hit : ℕ) (found : Hits p c hit) where
      pub ascii_known : Hits p c (bit_or hit 0x8000000000000000)
      ascii_known ps l i b =
          bit_or_law hit 0x8000000000000000 i
          ∙ ap (λ (t : Bool). bit hit i || t) (bit_other 63 i (λ d. omega arith))
          ∙ or-false (bit hit i)
          ∙ found ps l i b

      pub ascii_stored : length memory.ascii ≡ 128
          → Remembers p (record { ascii = set memory.ascii c (bit_or hit 0x8000000000000000); numbers = memory.numbers; hits = memory.hits })
      ascii_stored long = record { ascii = λ j l z. at j l z (ℕ_discrete j c); others = right.others }
        where
          r : ℕ
          r = bit_or hit 0x8000000000000000

          at : (j : ℕ) → j < 128 → (get_or (set memory.ascii c r) j 0 ≡ 0 → ⊥) → Dec (j ≡ c) → Hits p j (get_or (set memory.ascii c r) j 0)
          at j l z (yes q) =
              let x : get_or (set memory.ascii c r) c 0 ≡ r = get_or-set_same memory.ascii c r 0 (omega (arith, long, low)) in
              rw (q, x) ascii_known
          at j l z (no q) =
              let y : get_or (set memory.ascii c r) j 0 ≡ get_or memory.ascii j 0 = get_or-set_other memory.ascii c j r 0 q in
              rw y (right.ascii j l (λ d. z (y ∙ d)))

  -- ---- of the others

  module _ (k : ℕ) (place : k < 64) where
    pub other_found : get_or memory.numbers k 0 ≡ c + 1 → Hits p c (get_or memory.hits k 0)
    other_found e = right.others k c place e

    pub other_stored : (hit : ℕ) → Hits p c hit → length memory.numbers ≡ 64 → length memory.hits ≡ 64
        → Remembers p (record { ascii = memory.ascii; numbers = set memory.numbers k (c + 1); hits = set memory.hits k hit })
    other_stored hit found numbered long = record { ascii = right.ascii; others = λ j x l e. at j x l e (ℕ_discrete j k) }
      where
        at : (j x : ℕ) → j < 64 → get_or (set memory.numbers k (c + 1)) j 0 ≡ x + 1 → Dec (j ≡ k) → Hits p x (get_or (set memory.hits k hit) j 0)
        at j x l e (yes q) =
            let u : get_or (set memory.numbers k (c + 1)) k 0 ≡ c + 1 = get_or-set_same memory.numbers k (c + 1) 0 (omega (arith, place, numbered)) in
            let v : get_or (set memory.hits k hit) k 0 ≡ hit = get_or-set_same memory.hits k hit 0 (omega (arith, place, long)) in
            let same : c ≡ x = omega (arith, u, e, ap (λ (n : ℕ). get_or (set memory.numbers k (c + 1)) n 0) q) in
            rw (q, v) (subst (λ (n : ℕ). Hits p n hit) same found)
        at j x l e (no q) =
            rw (get_or-set_other memory.hits k j hit 0 q)
            (right.others j x l (inv (get_or-set_other memory.numbers k j (c + 1) 0 q) ∙ e))

-- ---- of the character at an offset

module _ (p s : List ℕ) (at r : ℕ) (more : Memory) where
  of_scalar : {c : ℕ} → c ≡ scalar_at s at → Hits p c r × Remembers p more → Hits p (scalar_at s at) r × Remembers p more
  of_scalar e h = (subst (λ (n : ℕ). Hits p n r) e h.0, h.1)

  pub hit_of_ascii : at < length s → get_or s at 0 < 0x80 → Hits p (get_or s at 0) r × Remembers p more → Hits p (scalar_at s at) r × Remembers p more
  hit_of_ascii inside low h = of_scalar (scalar_ascii s at inside low) h

  pub hit_of_other : {n c : ℕ} {q : List ℕ} → n ≡ sequence_at s at → q ≡ part s at n → c ≡ scalar_of q → Hits p c r × Remembers p more → Hits p (scalar_at s at) r × Remembers p more
  unfolding scalar_at
  hit_of_other e f g h = of_scalar (g ∙ ap scalar_of (f ∙ ap (λ (n : ℕ). part s at n) e)) h
