-- Numbers in a list, and the list with each of them once.
use Prim.Native.Nat.{ℕ}
use mathlib.Core.Path.{◌≡◌, refl, sym, ◌∙◌}
use mathlib.Core.List.{List, [], ◌∷◌, ◌++◌}
use mathlib.Core.Bool.{Bool, true, false}
use mathlib.Core.Logic.{inl, inr}
use lib.Dec.{eqb}
use borrow.Author.Tests.{eqb-true, eqb-false, ne_eqb}
use Rattle.base.specs.Pick.{pick}
use Rattle.invariance.specs.NamedProperties.{without, distinct, Member, Once}

pub member_left : (n : ℕ) (ns ms : List ℕ) → Member n ns → Member n (ns ++ ms)
member_left n (k ∷ ns) ms (inl e) = inl e
member_left n (k ∷ ns) ms (inr h) = inr (member_left n ns ms h)
member_left n [] ms h = absurd h

pub member_right : (n : ℕ) (ns ms : List ℕ) → Member n ms → Member n (ns ++ ms)
member_right n [] ms h = h
member_right n (k ∷ ns) ms h = inr (member_right n ns ms h)

-- what holds of all in two lists holds of all in both together
pub all_joined : (P : ℕ → Type 0) (ns ms : List ℕ) → ((n : ℕ) → Member n ns → P n) → ((n : ℕ) → Member n ms → P n) → (n : ℕ) → Member n (ns ++ ms) → P n
all_joined P [] ms f g n h = g n h
all_joined P (k ∷ ns) ms f g n (inl e) = f n (inl e)
all_joined P (k ∷ ns) ms f g n (inr h) = all_joined P ns ms (λ m w. f m (inr w)) g n h

-- ---- each once
without_step : (n k m : ℕ) (ns : List ℕ) → (Member k (without n ns) → Member k ns × (k ≡ n → ⊥)) → (b : Bool) → eqb n m ≡ b
    → Member k (pick b (without n ns) (m ∷ without n ns)) → Member k (m ∷ ns) × (k ≡ n → ⊥)
without_step n k m ns again true e h = (inr (again h).0, (again h).1)
without_step n k m ns again false e (inl d) = (inl d, λ f. eqb-false n m e (sym f ∙ d))
without_step n k m ns again false e (inr h) = (inr (again h).0, (again h).1)

without_member : (n k : ℕ) (ns : List ℕ) → Member k (without n ns) → Member k ns × (k ≡ n → ⊥)
unfolding without
without_member n k [] h = (h, λ e. h)
without_member n k (m ∷ ns) h = without_step n k m ns (without_member n k ns) (eqb n m) refl h

member_without : (n k : ℕ) (ns : List ℕ) → Member k ns → (k ≡ n → ⊥) → Member k (without n ns)
unfolding without
member_without n k [] h d = h
member_without n k (m ∷ ns) (inl e) d = rw (ne_eqb n m (λ f. d (e ∙ sym f))) (inl e)
member_without n k (m ∷ ns) (inr h) d = go (eqb n m) (member_without n k ns h d)
  where
    go : (b : Bool) → Member k (without n ns) → Member k (pick b (without n ns) (m ∷ without n ns))
    go true w = w
    go false w = inr w

without_once : (n : ℕ) (ns : List ℕ) → Once ns → Once (without n ns)
unfolding Once without
without_once n [] h = h
without_once n (m ∷ ns) h = go (eqb n m) (without_once n ns h.1)
  where
    go : (b : Bool) → Once (without n ns) → Once (pick b (without n ns) (m ∷ without n ns))
    go true w = w
    go false w = (λ k. h.0 (without_member n m ns k).0, w)

pub distinct_once : (ns : List ℕ) → Once (distinct ns)
unfolding Once distinct
distinct_once [] = tt
distinct_once (n ∷ ns) = (λ h. (without_member n n (distinct ns) h).1 refl, without_once n (distinct ns) (distinct_once ns))

pub member_distinct : (k : ℕ) (ns : List ℕ) → Member k ns → Member k (distinct ns)
unfolding distinct
member_distinct k [] h = h
member_distinct k (n ∷ ns) (inl e) = inl e
member_distinct k (n ∷ ns) (inr h) = go (eqb k n) refl (member_distinct k ns h)
  where
    go : (b : Bool) → eqb k n ≡ b → Member k (distinct ns) → Member k (n ∷ without n (distinct ns))
    go true e w = inl (eqb-true k n e)
    go false e w = inr (member_without n k (distinct ns) w (eqb-false k n e))

pub distinct_member : (k : ℕ) (ns : List ℕ) → Member k (distinct ns) → Member k ns
unfolding distinct
distinct_member k [] h = h
distinct_member k (n ∷ ns) (inl e) = inl e
distinct_member k (n ∷ ns) (inr h) = inr (distinct_member k ns (without_member n k (distinct ns) h).0)
