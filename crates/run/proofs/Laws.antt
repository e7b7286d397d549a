-- One law for each exit of `src/reading.rt`, and what a run divides into.
use Rattle.std.specs.Prelude.{Result, Ok, Err}
use Prim.Native.Nat.{ℕ, ◌+◌}
use mathlib.Core.List.{List}
use mathlib.Core.Bool.{Bool, true, false}
use mathlib.Core.Path.{◌≡◌, refl, sym, ◌∙◌}
use native.Mathlib.Omega.{arith}
use lib.ListN.{length}
use lib.Dec.{eqb}
use borrow.Author.Tests.{eq-eqb, ne_eqb}
use Rattle.base.specs.Pick.{pick}
use Rattle.record.specs.Record.{Records, item, broken, ended, records}
use Rattle.run.specs.Run.{reading_from, run_reading, bodies_of, instances_of}

-- ---- the records of a run
pub run_begins : (s : List ℕ) → run_reading s ≡ reading_from 0 (records s 0)
unfolding run_reading
run_begins s = refl

module _ (n : ℕ) (w : Result ℕ ℕ) (rs : Records) (inv : w ≡ reading_from n rs) where
  pub run_broken : (place : ℕ) → rs ≡ broken place → Err place ≡ w
  unfolding reading_from
  run_broken place f = sym (inv ∙ rw f)

  pub run_end : rs ≡ ended → Ok n ≡ w
  unfolding reading_from
  run_end f = sym (inv ∙ rw f)

  module _ (place kind start len : ℕ) (rest : Records) (f : rs ≡ item place kind start len rest) where
    pub run_other : (kind ≡ 0x0300 → ⊥) → Err place ≡ w
    unfolding reading_from
    run_other h = sym (inv ∙ rw (f, ne_eqb _ _ h))

    pub run_next : kind ≡ 0x0300 → w ≡ reading_from (n + 1) rest
    unfolding reading_from
    run_next h = inv ∙ rw (f, eq-eqb _ _ h)

-- a run that divides does so into its instances
apart : (p n : ℕ) → Err p ≡ Ok n → ⊥
apart p n e = let z : ◌≡◌ {A = ℕ} 0 1 = cc in omega arith

divides_from : (s : List ℕ) (k n : ℕ) (r : Records) → reading_from k r ≡ Ok n → n ≡ k + length (bodies_of s r)
unfolding reading_from bodies_of
divides_from s k n (item place kind start len rest) e = go (eqb kind 0x0300) e (divides_from s (k + 1) n rest)
  where
    go : (b : Bool) → pick b (reading_from (k + 1) rest) (Err place) ≡ Ok n → (reading_from (k + 1) rest ≡ Ok n → n ≡ k + 1 + length (bodies_of s rest))
        → n ≡ k + length (bodies_of s (item place kind start len rest))
    go true f g = omega (arith, g f)
    go false f g = absurd (apart place n f)
divides_from s k n (broken place) e = absurd (apart place n e)
divides_from s k n ended e = let z : k ≡ n = cc in omega arith

pub divides : (run : List ℕ) (n : ℕ) → run_reading run ≡ Ok n → n ≡ length (instances_of run)
unfolding run_reading instances_of
divides run n e = omega (arith, divides_from run 0 n (records run 0) e)
