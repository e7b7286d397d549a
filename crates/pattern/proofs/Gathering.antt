-- What may follow the symbols of a set, by the links: at once for those that lead to the next one only, one by one for the others. Assumes nothing.
use mathlib.Core.Path.{◌≡◌, refl, ap, ap₂, subst, sym as inv, ◌∙◌}
use mathlib.Core.Bool.{Bool, true, false, not, ◌&&◌, ◌||◌, false≢true, and-true, or-false, or-true, or_assoc}
use mathlib.Core.List.{List}
use Prim.Native.Nat.{ℕ, zero, suc, ◌<◌, ◌+◌, ◌*◌, ◌%◌, ◌^◌}
use native.Mathlib.Omega.{arith}
use native.Mathlib.Decide.{ℕ_discrete, dec_lt}
use native.Mathlib.Nat.{div-eq_of_lt}
use lib.Pow.{shl_exact, shl-shr, pow-lt, pow-add}
use lib.Bits.{bit_or, bit_and, or_lt, and_le_r}
use lib.Dec.{eqb}
use lib.ListN.{get_or}
use borrow.Author.Tests.{eqb-true}
use Rattle.base.specs.Bits.{bit}
use Rattle.base.proofs.Bits.{bit_or_law, bit_and_law, bit_zero, bit_same, bit_other, half_bit, digit_zero}
use Rattle.base.proofs.Says.{and_both, and_false}
use Rattle.pattern.specs.Automaton.{kept_if}
use Rattle.pattern.specs.Links.{Without, Outside, any_below, leads, Gathers, Simple, Closed}
use Rattle.pattern.proofs.Automata.{bit_kept, bit_join}
use Rattle.pattern.proofs.Below.{any_same, any_none, any_or, any_one, any_true, any_but}
use Rattle.pattern.proofs.Linking.{shl_one}

-- ---- the symbols that lead to the next one only

-- the next symbol's set, as the code shifts it
next_set_law : (k : ℕ) → k < 63 → 2 * 2 ^ k % 2 ^ 64 ≡ 2 ^ (k + 1)
next_set_law k h = shl_exact {a = 2} 2 k 64 (omega arith) (omega arith) ∙ omega (arith, pow-add 2 k 1)

module _ (links : List ℕ) where
  pub simple_none : Simple links 0
  simple_none = record { next = λ k e. absurd (false≢true (inv (bit_zero k) ∙ e)); small = omega arith }

  pub simple_more : {S k own : ℕ} → Simple links S → k < 63 → own ≡ kept_if (eqb (get_or links k 0) (2 * 2 ^ k % 2 ^ 64)) (1 * 2 ^ k % 2 ^ 64) → Simple links (bit_or S own)
  simple_more {S} {k} {own} here h e = record {
    next = λ j t. at j (ℕ_discrete j k) (bit S j) refl (inv (ap (λ (n : ℕ). bit (bit_or S n) j) e ∙ bit_join S (1 * 2 ^ k % 2 ^ 64) j test ∙ ap (λ (n : ℕ). bit S j || (test && bit n j)) (shl_one k (omega arith))) ∙ t);
    small = or_lt 63 S own here.small (omega (arith, e, kept test));
  }
    where
      test : Bool
      test = eqb (get_or links k 0) (2 * 2 ^ k % 2 ^ 64)

      kept : (b : Bool) → kept_if b (1 * 2 ^ k % 2 ^ 64) < 2 ^ 63
      kept true = omega (arith, shl_one k (omega arith), pow-lt {i = k} {j = 63} h)
      kept false = omega arith

      at : (j : ℕ) → Dec (j ≡ k) → (b : Bool) → bit S j ≡ b → (b || (test && bit (2 ^ k) j)) ≡ true → get_or links j 0 ≡ 2 ^ (j + 1)
      at j d true q t = here.next j q
      at j (yes d) false q t = ap (λ (n : ℕ). get_or links n 0) d ∙ eqb-true _ _ (and_both test (bit (2 ^ k) j) t).0 ∙ next_set_law k h ∙ ap (λ (n : ℕ). 2 ^ (n + 1)) (inv d)
      at j (no d) false q t = absurd (false≢true (inv (bit_other k j d) ∙ (and_both test (bit (2 ^ k) j) t).1))

  -- ---- the closed ones

  pub closed_none : Closed links 0
  closed_none = record { follows = λ k e. absurd (false≢true (inv (bit_zero k) ∙ e)) }

  pub closed_more : {S k own : ℕ} (after : ℕ) → Closed links S → k < 64 → Gathers links (get_or links k 0) after
      → own ≡ kept_if (eqb (bit_and after (get_or links k 0)) after) (1 * 2 ^ k % 2 ^ 64) → Closed links (bit_or S own)
  closed_more {S} {k} {own} after here h g e = record {
    follows = λ n t. at n (ℕ_discrete n k) (bit S n) refl (inv (ap (λ (m : ℕ). bit (bit_or S m) n) e ∙ bit_join S (1 * 2 ^ k % 2 ^ 64) n test ∙ ap (λ (m : ℕ). bit S n || (test && bit m n)) (shl_one k h)) ∙ t);
  }
    where
      test : Bool
      test = eqb (bit_and after (get_or links k 0)) after

      Follows : ℕ → Type 0
      Follows n = (j i : ℕ) → j < 64 → bit (get_or links n 0) j ≡ true → bit (get_or links j 0) i ≡ true → bit (get_or links n 0) i ≡ true

      own_follows : test ≡ true → Follows k
      own_follows t j i l p q =
          let led : bit after i ≡ true = g i ∙ any_true 64 j (λ m. bit (get_or links k 0) m && bit (get_or links m 0) i) l (rw (p, q)) in
          (and_both (bit after i) (bit (get_or links k 0) i) (inv (bit_and_law after (get_or links k 0) i) ∙ ap (λ (m : ℕ). bit m i) (eqb-true _ _ t) ∙ led)).1

      at : (n : ℕ) → Dec (n ≡ k) → (b : Bool) → bit S n ≡ b → (b || (test && bit (2 ^ k) n)) ≡ true → Follows n
      at n d true q t = here.follows n q
      at n (yes d) false q t = subst Follows (inv d) (own_follows (and_both test (bit (2 ^ k) n) t).0)
      at n (no d) false q t = absurd (false≢true (inv (bit_other k n d) ∙ (and_both test (bit (2 ^ k) n) t).1))

-- ---- what follows them

-- the members of the double are those of the set, each with one added
double_bit : (a i : ℕ) → bit (a * 2 ^ 1) (suc i) ≡ bit a i
double_bit a i = let one : suc i ≡ 1 + i = omega arith in ap (λ (n : ℕ). bit (a * 2 ^ 1) n) one ∙ inv (half_bit (a * 2 ^ 1) i) ∙ ap (λ (n : ℕ). bit n i) (shl-shr a 1)

double_none : (a : ℕ) → bit (a * 2 ^ 1) 0 ≡ false
double_none a = let even : a * 2 ^ 1 % 2 ≡ 0 = omega arith in digit_zero (a * 2 ^ 1) ∙ ap (λ (n : ℕ). eqb n 1) even

bit_over : (a i : ℕ) → a < 2 ^ 63 → 63 < i → bit a i ≡ false
bit_over a i l h = let below : a < 2 ^ i = omega (arith, l, pow-lt {i = 63} {j = i} h) in ap (λ (x : ℕ). eqb (x % 2) 1) (div-eq_of_lt below)

module _ (links : List ℕ) (A : ℕ) (simple : (k : ℕ) → bit A k ≡ true → get_or links k 0 ≡ 2 ^ (k + 1)) (small : A < 2 ^ 63) where
  -- a member leads to no other than the next
  leads_other : (j i : ℕ) → (i ≡ j + 1 → ⊥) → (bit A j && bit (get_or links j 0) i) ≡ false
  leads_other j i d = go (bit A j) refl
    where
      go : (b : Bool) → bit A j ≡ b → (b && bit (get_or links j 0) i) ≡ false
      go true e = ap (λ (n : ℕ). bit n i) (simple j e) ∙ bit_other (j + 1) i d
      go false e = refl

  leads_next : (j : ℕ) → (bit A j && bit (get_or links j 0) (suc j)) ≡ bit A j
  leads_next j = go (bit A j) refl
    where
      go : (b : Bool) → bit A j ≡ b → (b && bit (get_or links j 0) (suc j)) ≡ b
      go true e = ap₂ (λ (n m : ℕ). bit n m) (simple j e) (omega arith) ∙ bit_same (j + 1)
      go false e = refl

  shifted : (i : ℕ) → bit (A * 2 ^ 1) i ≡ leads (λ j. get_or links j 0) A i
  shifted zero = double_none A ∙ inv (any_none 64 (λ j. bit A j && bit (get_or links j 0) 0) (λ j. leads_other j 0 (λ d. omega arith)))
  shifted (suc i) = go (dec_lt i 64)
    where
      go : Dec (i < 64) → bit (A * 2 ^ 1) (suc i) ≡ leads (λ j. get_or links j 0) A (suc i)
      go (yes l) =
          double_bit A i
          ∙ inv (any_one 64 i (λ j. bit A j && bit (get_or links j 0) (suc i)) l (λ j d. leads_other j (suc i) (λ q. d (omega arith))) ∙ leads_next i)
      go (no l) =
          double_bit A i
          ∙ bit_over A i small (omega arith)
          ∙ inv
          (any_same 64 (λ j. bit A j && bit (get_or links j 0) (suc i)) (λ j. false) (λ j b. leads_other j (suc i) (λ q. omega arith))
          ∙ any_none 64 (λ j. false) (λ j. refl))

-- ---- one after the other

-- where the loop stands: what is found, and what the rest leads to, is what the set leads to
pub record Gathering (links : List ℕ) (S left found : ℕ) : Type 0 where
  pub leading : (i : ℕ) → (bit found i || leads (λ j. get_or links j 0) left i) ≡ leads (λ j. get_or links j 0) S i

module _ (links : List ℕ) (S : ℕ) where
  -- the simple ones at once, and the others left
  pub gathering_start : {M left found : ℕ} → Simple links M → Outside S M left → found ≡ bit_and S M * 2 ^ 1 % 2 ^ 64 → Gathering links S left found
  gathering_start {M} {left} {found} simple others e = record {
    leading = λ i.
        ap (λ (b : Bool). b || leads (λ j. get_or links j 0) left i)
        (ap (λ (n : ℕ). bit n i) (e ∙ shl_exact {a = A} 63 1 64 small (omega arith)) ∙ shifted links A (λ k q. simple.next k (member k q)) small i)
        ∙ inv
        (any_same 64 (λ j. bit S j && bit (get_or links j 0) i) (λ j. (bit A j && bit (get_or links j 0) i) || (bit left j && bit (get_or links j 0) i))
        (λ j l. inv (split (bit S j) (bit M j) (bit A j) (bit left j) (bit (get_or links j 0) i) (bit_and_law S M j) (others.members j)))
        ∙ any_or 64 (λ j. bit A j && bit (get_or links j 0) i) (λ j. bit left j && bit (get_or links j 0) i));
  }
    where
      A : ℕ
      A = bit_and S M

      small : A < 2 ^ 63
      small = omega (arith, simple.small, and_le_r S M)

      member : (k : ℕ) → bit A k ≡ true → bit M k ≡ true
      member k q = (and_both (bit S k) (bit M k) (inv (bit_and_law S M k) ∙ q)).1

      split : (s m a b y : Bool) → a ≡ (s && m) → b ≡ (s && not m) → ((a && y) || (b && y)) ≡ (s && y)
      split true true a b y p q = rw (q, p) (or-false y)
      split true false a b y p q = rw (q, p)
      split false m a b y p q = rw (q, p)

  module _ {left found : ℕ} (here : Gathering links S left found) where
    gathered_one : {k rest : ℕ} → (k < 64) × (bit left k ≡ true) → Without left k rest → Gathering links S rest (bit_or found (get_or links k 0))
    gathered_one {k} {rest} member w = record {
      leading = λ i.
          ap (λ (b : Bool). b || leads (λ j. get_or links j 0) rest i) (bit_or_law found (get_or links k 0) i)
          ∙ or_assoc (bit found i) (bit (get_or links k 0) i) (leads (λ j. get_or links j 0) rest i)
          ∙ ap (λ (b : Bool). bit found i || b)
          (ap (λ (b : Bool). (b && bit (get_or links k 0) i) || leads (λ j. get_or links j 0) rest i) (inv member.1)
          ∙ inv
          (any_but 64 k (λ j. bit left j && bit (get_or links j 0) i) (λ j. bit rest j && bit (get_or links j 0) i) member.0
          (ap (λ (b : Bool). b && bit (get_or links k 0) i) w.gone)
          (λ j d. ap (λ (b : Bool). b && bit (get_or links j 0) i) (w.others j d))))
          ∙ here.leading i;
    }

    -- what a symbol of the closed ones leads to need not be looked at
    pub gathering_next : {k rest cover left' closed : ℕ} → (k < 64) × (bit left k ≡ true) → Without left k rest → cover ≡ kept_if (bit closed k) (get_or links k 0)
        → Outside rest cover left' → Closed links closed → Gathering links S left' (bit_or found (get_or links k 0))
    gathering_next {k} {rest} {cover} {left'} {closed} member w e others c = record { leading = λ i. at i (bit F i) refl ∙ (gathered_one member w).leading i }
      where
        F : ℕ
        F = bit_or found (get_or links k 0)

        one : (i j : ℕ) → bit F i ≡ false → j < 64 → (x y : Bool) → bit cover j ≡ x → bit (get_or links j 0) i ≡ y → ((bit rest j && not x) && y) ≡ (bit rest j && y)
        one i j z l false y p q = ap (λ (b : Bool). b && y) (and-true (bit rest j))
        one i j z l true false p q = and_false (bit rest j && false) ∙ inv (and_false (bit rest j))
        one i j z l true true p q =
            let both = and_both (bit closed k) (bit (get_or links k 0) j) (inv (bit_kept (bit closed k) (get_or links k 0) j) ∙ ap (λ (n : ℕ). bit n j) (inv e) ∙ p) in
            let led = c.follows k both.0 j i l both.1 q in
            absurd (false≢true (inv z ∙ bit_or_law found (get_or links k 0) i ∙ ap (λ (b : Bool). bit found i || b) led ∙ or-true (bit found i)))

        at : (i : ℕ) (b : Bool) → bit F i ≡ b → (bit F i || leads (λ j. get_or links j 0) left' i) ≡ (bit F i || leads (λ j. get_or links j 0) rest i)
        at i true z = rw z
        at i false z =
            ap (λ (b : Bool). bit F i || b)
            (any_same 64 (λ j. bit left' j && bit (get_or links j 0) i) (λ j. bit rest j && bit (get_or links j 0) i)
            (λ j l. ap (λ (b : Bool). b && bit (get_or links j 0) i) (others.members j) ∙ one i j z l (bit cover j) (bit (get_or links j 0) i) refl refl))

    pub gathering_end : left ≡ 0 → Gathers links S found
    unfolding any_below
    gathering_end z i =
        inv (or-false (bit found i))
        ∙ ap (λ (b : Bool). bit found i || b) (inv (none i 64))
        ∙ ap (λ (n : ℕ). bit found i || leads (λ j. get_or links j 0) n i) (inv z)
        ∙ here.leading i
      where
        none : (i n : ℕ) → any_below n (λ j. bit 0 j && bit (get_or links j 0) i) ≡ false
        none i zero = refl
        none i (suc n) = rw (bit_zero n) (none i n)
