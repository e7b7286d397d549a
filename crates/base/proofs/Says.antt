-- A test that says a fact: true exactly where the fact holds. With its combinators a definition by tests is shown to be one by properties.
use Prim.Native.Nat.{ℕ, ◌≤◌, ◌<◌}
use mathlib.Core.Bool.{Bool, true, false, not, ◌&&◌, ◌||◌}
use mathlib.Core.Path.{◌≡◌, refl, sym}
use mathlib.Core.Logic.{◌⊎◌, inl, inr}
use native.Mathlib.Omega.{arith}
use lib.Dec.{ltb, leb, eqb}
use borrow.Author.Tests.{ltb-true, leb-true, eqb-true, lt-ltb, le-leb, eq-eqb}

pub record Says (b : Bool) (P : Type 0) : Type 0 where
  pub to : b ≡ true → P
  pub from : P → b ≡ true

pub apart : false ≡ true → ⊥
apart e = let z : ◌≡◌ {A = ℕ} 0 1 = cc in omega arith

pub says_eqb : (m n : ℕ) → Says (eqb m n) (m ≡ n)
says_eqb m n = record { to = eqb-true m n; from = eq-eqb m n }

pub says_leb : (m n : ℕ) → Says (leb m n) (m ≤ n)
says_leb m n = record { to = leb-true m n; from = le-leb m n }

pub says_ltb : (m n : ℕ) → Says (ltb m n) (m < n)
says_ltb m n = record { to = ltb-true m n; from = lt-ltb m n }

pub says_true : Says true Unit
says_true = record { to = λ e. tt; from = λ h. refl }

pub says_false : Says false ⊥
says_false = record { to = λ e. apart e; from = λ h. absurd h }

pub says_not : {P : Type 0} (a : Bool) → Says a P → Says (not a) (P → ⊥)
says_not true p = record { to = λ e. absurd (apart e); from = λ h. absurd (h (p.to refl)) }
says_not false p = record { to = λ e h. apart (p.from h); from = λ h. refl }

pub says_and : {P Q : Type 0} (a b : Bool) → Says a P → Says b Q → Says (a && b) (P × Q)
says_and true b p q = record { to = λ e. (p.to refl, q.to e); from = λ h. q.from h.1 }
says_and false b p q = record { to = λ e. absurd (apart e); from = λ h. p.from h.0 }

pub says_or : {P Q : Type 0} (a b : Bool) → Says a P → Says b Q → Says (a || b) (P ⊎ Q)
says_or {P} {Q} true b p q = record { to = λ e. inl (p.to refl); from = λ h. refl }
says_or {P} {Q} false b p q = record { to = λ e. inr (q.to e); from = back }
  where
    back : P ⊎ Q → b ≡ true
    back (inl h) = absurd (apart (p.from h))
    back (inr h) = q.from h

-- a conjunction that is true, taken apart; one that is false at its end
pub and_both : (a b : Bool) → (a && b) ≡ true → (a ≡ true) × (b ≡ true)
and_both true b h = (refl, h)
and_both false true h = (h, refl)
and_both false false h = (h, h)

pub and_false : (a : Bool) → (a && false) ≡ false
and_false true = refl
and_false false = refl

-- a disjunction that is false, taken apart
pub or_neither : (a b : Bool) → (a || b) ≡ false → (a ≡ false) × (b ≡ false)
or_neither true b h = absurd (apart (sym h))
or_neither false b h = (refl, h)
