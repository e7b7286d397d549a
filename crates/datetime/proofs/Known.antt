-- Which bytes of a text are known: none before `known s` is a star, and the one there is, unless all 21 are known.
use Prim.Native.Nat.{ℕ, zero, suc, ◌+◌, ◌≤◌, ◌<◌}
use mathlib.Core.Path.{◌≡◌, refl}
use mathlib.Core.Bool.{Bool, true, false}
use mathlib.Core.List.{List}
use mathlib.Core.Logic.{◌⊎◌, inl, inr, ◌↔◌}
use native.Mathlib.Nat.{eq-or-lt_of_le}
use native.Mathlib.Omega.{arith}
use lib.Dec.{eqb}
use borrow.Author.Tests.{eqb-true, eqb-false}
use Rattle.base.specs.Pick.{pick}
use Rattle.base.specs.Part.{byte_at}
use Rattle.datetime.specs.Unknown.{star_from, known, Starless}

-- `r` is the offset of the first star among the `n` bytes from `at` on, or their end
pub record FirstStar (s : List ℕ) (at n r : ℕ) : Type 0 where
  pub from : at ≤ r
  pub most : r ≤ at + n
  pub before : (i : ℕ) → at ≤ i → i < r → byte_at s i ≡ 42 → ⊥
  pub there : r < at + n → byte_at s r ≡ 42

pub first_star : (s : List ℕ) (at n : ℕ) → FirstStar s at n (star_from s at n)
unfolding star_from
first_star s at zero = record { from = omega arith; most = omega arith; before = λ i g h e. omega arith; there = λ h. absurd (omega arith) }
first_star s at (suc n) = go (eqb (byte_at s at) 42) refl (first_star s (at + 1) n)
  where
    go : (b : Bool) → eqb (byte_at s at) 42 ≡ b → FirstStar s (at + 1) n (star_from s (at + 1) n) → FirstStar s at (suc n) (pick b at (star_from s (at + 1) n))
    go true e f = record { from = omega arith; most = omega arith; before = λ i g h z. omega arith; there = λ h. eqb-true (byte_at s at) 42 e }
    go false e f =
        record {
          from = omega (arith, f.from);
          most = omega (arith, f.most);
          before = λ i g h z. next i (eq-or-lt_of_le g) h z;
          there = λ h. f.there (omega arith);
        }
      where
        next : (i : ℕ) → (at ≡ i) ⊎ (at < i) → i < star_from s (at + 1) n → byte_at s i ≡ 42 → ⊥
        next i (inl k) h z = eqb-false (byte_at s at) 42 e (rw k z)
        next i (inr k) h z = f.before i (omega arith) h z

pub known_first : (s : List ℕ) → FirstStar s 0 21 (known s)
unfolding known
known_first s = first_star s 0 21

pub all_known : (s : List ℕ) → (known s ≡ 21) ↔ Starless s
all_known s = (λ e i h z. f.before i (omega arith) (omega arith) z, λ h. go h (eq-or-lt_of_le f.most))
  where
    f : FirstStar s 0 21 (known s)
    f = known_first s

    go : Starless s → (known s ≡ 21) ⊎ (known s < 21) → known s ≡ 21
    go h (inl e) = e
    go h (inr l) = absurd (h (known s) l (f.there l))

pub known_most : (s : List ℕ) → known s ≤ 21
known_most s = omega (arith, (known_first s).most)
