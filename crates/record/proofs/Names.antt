-- Names are the same exactly where their bytes are, with capital letters made small: an equivalence.
use Prim.Native.Nat.{ℕ}
use mathlib.Core.List.{List, [], ◌∷◌}
use mathlib.Core.Bool.{true}
use mathlib.Core.Path.{◌≡◌, refl, sym, ◌∙◌}
use native.Mathlib.Omega.{arith}
use lib.Dec.{eqb}
use Rattle.base.proofs.Says.{Says, apart, says_eqb, says_and}
use Rattle.record.specs.Name.{lower, same_name}

-- the bytes of a name with capital letters made small
unfoldable pub lowered : List ℕ → List ℕ
lowered [] = []
lowered (b ∷ s) = lower b ∷ lowered s

pub says_same_name : (a b : List ℕ) → Says (same_name a b) (lowered a ≡ lowered b)
unfolding same_name lowered
says_same_name [] [] = record { to = λ e. refl; from = λ h. refl }
says_same_name [] (y ∷ ys) = record { to = λ e. absurd (apart e); from = λ h. absurd (let z : ◌≡◌ {A = ℕ} 0 1 = cc in omega arith) }
says_same_name (x ∷ xs) [] = record { to = λ e. absurd (apart e); from = λ h. absurd (let z : ◌≡◌ {A = ℕ} 0 1 = cc in omega arith) }
says_same_name (x ∷ xs) (y ∷ ys) =
    let h = says_and (eqb (lower x) (lower y)) (same_name xs ys) (says_eqb (lower x) (lower y)) (says_same_name xs ys) in
    record { to = λ e. joined (h.to e).0 (h.to e).1; from = λ e. h.from (first e, rest e) }
  where
    joined : {a b : ℕ} {s t : List ℕ} → a ≡ b → s ≡ t → ◌≡◌ {A = List ℕ} (a ∷ s) (b ∷ t)
    joined p q = cc

    first : {a b : ℕ} {s t : List ℕ} → ◌≡◌ {A = List ℕ} (a ∷ s) (b ∷ t) → a ≡ b
    first p = cc

    rest : {a b : ℕ} {s t : List ℕ} → ◌≡◌ {A = List ℕ} (a ∷ s) (b ∷ t) → s ≡ t
    rest p = cc

pub same_self : (a : List ℕ) → same_name a a ≡ true
same_self a = (says_same_name a a).from refl

pub same_turned : (a b : List ℕ) → same_name a b ≡ true → same_name b a ≡ true
same_turned a b h = (says_same_name b a).from (sym ((says_same_name a b).to h))

pub same_through : (a b c : List ℕ) → same_name a b ≡ true → same_name b c ≡ true → same_name a c ≡ true
same_through a b c h g = (says_same_name a c).from ((says_same_name a b).to h ∙ (says_same_name b c).to g)
