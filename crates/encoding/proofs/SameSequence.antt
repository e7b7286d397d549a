-- A sequence is told by its own bytes: where another text has the same ones, the same sequence stands there, with the same scalar value. Assumes nothing.
use Prim.Native.Nat.{ℕ, zero, suc, ◌≤◌}
use mathlib.Core.Path.{◌≡◌, refl, sym, ap, ◌∙◌}
use mathlib.Core.List.{List, [], ◌∷◌}
use mathlib.Core.Bool.{Bool, true, false, ◌&&◌}
use native.Mathlib.Omega.{arith}
use lib.ListN.{length, take, drop}
use lib.Dec.{leb}
use borrow.Author.Tests.{leb-true}
use Rattle.base.specs.Pick.{pick}
use Rattle.base.specs.Part.{part}
use Rattle.base.proofs.Says.{and_both}
use Rattle.encoding.specs.WellFormed.{Range, table, fits, sequence_in, sequence_at}
use Rattle.encoding.specs.Scalar.{scalar_of, scalar_at}

-- a row looks at no more bytes than it has ranges
fits_same : (row : List Range) (n : ℕ) (s t : List ℕ) → take n s ≡ take n t → length row ≤ n → fits row s ≡ fits row t
unfolding fits
fits_same [] n s t e h = refl
fits_same (x ∷ row) zero s t e h = absurd (omega arith)
fits_same (x ∷ row) (suc n) [] [] e h = refl
fits_same (x ∷ row) (suc n) [] (c ∷ t) e h = let z : ◌≡◌ {A = ℕ} 0 1 = cc in absurd (omega arith)
fits_same (x ∷ row) (suc n) (b ∷ s) [] e h = let z : ◌≡◌ {A = ℕ} 0 1 = cc in absurd (omega arith)
fits_same (x ∷ row) (suc n) (b ∷ s) (c ∷ t) e h =
    let p : b ≡ c = cc in
    let r : take n s ≡ take n t = cc in
    rw (p, fits_same row n s t r (omega arith))

-- the rows stand by length
abbrev longer_rows : ℕ → List (List Range) → Bool
longer_rows n [] = true
longer_rows n (row ∷ rows) = leb n (length row) && longer_rows n rows

at_least : (n : ℕ) (rows : List (List Range)) → longer_rows n rows ≡ true → (s : List ℕ) → (sequence_in rows s ≡ 0 → ⊥) → n ≤ sequence_in rows s
unfolding sequence_in
at_least n [] h s z = absurd (z refl)
at_least n (row ∷ rows) h s z =
    let p = and_both (leb n (length row)) (longer_rows n rows) h in
    go (fits row s) (leb-true n (length row) p.0) z (at_least n rows p.1 s)
  where
    go : (t : Bool) → n ≤ length row → (pick t (length row) (sequence_in rows s) ≡ 0 → ⊥) → ((sequence_in rows s ≡ 0 → ⊥) → n ≤ sequence_in rows s)
        → n ≤ pick t (length row) (sequence_in rows s)
    go true l z f = l
    go false l z f = f z

data Rising : List (List Range) → Type 0 where
  no_rows : Rising []
  a_row : {row : List Range} {rows : List (List Range)} → longer_rows (length row) rows ≡ true → Rising rows → Rising (row ∷ rows)

rising : Rising table
rising = a_row refl (a_row refl (a_row refl (a_row refl (a_row refl (a_row refl (a_row refl (a_row refl (a_row refl no_rows))))))))

same_in_law : (rows : List (List Range)) → Rising rows → (n : ℕ) (s t : List ℕ) → take n s ≡ take n t → (sequence_in rows s ≡ 0 → ⊥) → sequence_in rows s ≤ n
    → sequence_in rows t ≡ sequence_in rows s
unfolding sequence_in
same_in_law [] no_rows n s t e z h = refl
same_in_law (row ∷ rows) (a_row l r) n s t e z h = go (fits row s) refl z h (same_in_law rows r n s t e) (at_least (length row) rows l s)
  where
    go : (u : Bool) → fits row s ≡ u → (pick u (length row) (sequence_in rows s) ≡ 0 → ⊥) → pick u (length row) (sequence_in rows s) ≤ n
        → ((sequence_in rows s ≡ 0 → ⊥) → sequence_in rows s ≤ n → sequence_in rows t ≡ sequence_in rows s)
        → ((sequence_in rows s ≡ 0 → ⊥) → length row ≤ sequence_in rows s)
        → pick (fits row t) (length row) (sequence_in rows t) ≡ pick u (length row) (sequence_in rows s)
    go true f z h k m = rw (← fits_same row n s t e h, f)
    go false f z h k m = let w = m z in rw (← fits_same row n s t e (omega arith), f) (k z h)

module _ (s : List ℕ) (i : ℕ) (t : List ℕ) (j : ℕ) (same : part s i (sequence_at s i) ≡ part t j (sequence_at s i)) (some : sequence_at s i ≡ 0 → ⊥) where
  pub same_sequence : sequence_at t j ≡ sequence_at s i
  unfolding sequence_at
  same_sequence = same_in_law table rising (sequence_at s i) (drop i s) (drop j t) same some (omega arith)

  pub same_scalar : scalar_at t j ≡ scalar_at s i
  unfolding scalar_at
  same_scalar = ap (λ (n : ℕ). scalar_of (part t j n)) same_sequence ∙ ap scalar_of (sym same)
