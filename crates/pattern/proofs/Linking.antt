-- One law for each way out of the functions over sets of symbols and links. Assumes nothing.
use mathlib.Core.Path.{◌≡◌, refl, ap, ap₂, sym as inv, ◌∙◌}
use mathlib.Core.Bool.{Bool, true, false, not, ◌&&◌}
use mathlib.Core.List.{List}
use Prim.Native.Nat.{ℕ, zero, suc, ◌<◌, ◌*◌, ◌/◌, ◌%◌, ◌^◌}
use native.Mathlib.Omega.{arith}
use native.Mathlib.Decide.{ℕ_discrete}
use native.Mathlib.Nat.{one-mul, mod-lt}
use lib.Pow.{shl_exact, pow_pos}
use lib.Count.{under, count_trailing_zeros}
use lib.Bits.{bit_or, bit_and, bit_xor, xor_add_and, or_zero_r}
use lib.Dec.{eqb}
use lib.ListN.{length, get_or, set, length-set}
use lib.Seq.{get_or-set_same, get_or-set_other}
use Rattle.base.specs.Bits.{bit}
use Rattle.base.proofs.Bits.{bit_and_law, bit_xor_law, either, bit_zero, bit_same, bit_other, half_bit, digit_zero, same_members}
use Rattle.pattern.specs.Automaton.{kept_if, over}
use Rattle.pattern.specs.Links.{Without, Outside, Adds}

-- ---- the least member

-- below its k lowest digits a number that is not 0 there has a digit that is set, and the least one is counted to
least_digit : (k n : ℕ) → (n ≡ 0 → ⊥) → n < 2 ^ k → (count_trailing_zeros k n < k) × (bit n (count_trailing_zeros k n) ≡ true)
unfolding count_trailing_zeros
least_digit zero n z l = absurd (z (omega arith))
least_digit (suc k) n z l = go (n % 2) refl (λ half. least_digit k (n / 2) half (omega arith))
  where
    go : (d : ℕ) → n % 2 ≡ d → ((n / 2 ≡ 0 → ⊥) → (count_trailing_zeros k (n / 2) < k) × (bit (n / 2) (count_trailing_zeros k (n / 2)) ≡ true))
        → (under d (count_trailing_zeros k (n / 2)) < suc k) × (bit n (under d (count_trailing_zeros k (n / 2))) ≡ true)
    go zero e least = let x = least (λ h. z (omega (arith, e, h))) in (
      omega (arith, x.0),
      ap (λ (j : ℕ). bit n j) (omega arith) ∙ inv (half_bit n (count_trailing_zeros k (n / 2))) ∙ x.1,
    )
    go (suc d) e least =
        let l : n % 2 < 2 = mod-lt n (omega arith) in
        let b : suc d ≡ 1 = omega (arith, e, l) in
        (omega arith, digit_zero n ∙ ap (λ (x : ℕ). eqb x 1) (e ∙ b))

pub least_in : (n : ℕ) → (n ≡ 0 → ⊥) → n < 2 ^ 64 → (count_trailing_zeros 64 n < 64) × (bit n (count_trailing_zeros 64 n) ≡ true)
least_in n z l = least_digit 64 n z l

-- ---- without a member

-- a bit shifted to its place is a set of one
pub shl_one : (k : ℕ) → k < 64 → 1 * 2 ^ k % 2 ^ 64 ≡ 2 ^ k
shl_one k h = shl_exact {a = 1} 1 k 64 (omega arith) (omega arith) ∙ one-mul (2 ^ k)

module _ (S k : ℕ) (member : bit S k ≡ true) where
  met : bit_and S (2 ^ k) ≡ 2 ^ k
  met = same_members (bit_and S (2 ^ k)) (2 ^ k) (λ i. bit_and_law S (2 ^ k) i ∙ at i (ℕ_discrete i k))
    where
      at : (i : ℕ) → Dec (i ≡ k) → (bit S i && bit (2 ^ k) i) ≡ bit (2 ^ k) i
      at i (yes e) = rw (e, member)
      at i (no e) = rw (bit_other k i e) (none (bit S i))
        where
          none : (b : Bool) → (b && false) ≡ false
          none true = refl
          none false = refl

  pub without_member : (r : ℕ) → r ≡ bit_xor S (2 ^ k) → Without S k r
  without_member r e = record {
    fewer = omega (arith, e, xor_add_and S (2 ^ k), met, pow_pos k);
    gone = ap (λ (x : ℕ). bit x k) e ∙ bit_xor_law S (2 ^ k) k ∙ rw (member, bit_same k);
    others = λ i d. ap (λ (x : ℕ). bit x i) e ∙ bit_xor_law S (2 ^ k) i ∙ rw (bit_other k i d) (same (bit S i));
  }
    where
      same : (b : Bool) → either b false ≡ b
      same true = refl
      same false = refl

-- ---- outside another set

module _ (S T : ℕ) where
  inner : bit_and S (bit_and S T) ≡ bit_and S T
  inner = same_members (bit_and S (bit_and S T)) (bit_and S T) (λ i. bit_and_law S (bit_and S T) i ∙ ap (λ (b : Bool). bit S i && b) (bit_and_law S T i) ∙ twice (bit S i) (bit T i) ∙ inv (bit_and_law S T i))
    where
      twice : (s t : Bool) → (s && (s && t)) ≡ (s && t)
      twice true t = refl
      twice false t = refl

  pub outside_of : Outside S T (bit_xor S (bit_and S T))
  outside_of = record {
    fewer = omega (arith, xor_add_and S (bit_and S T), inner);
    members = λ i. bit_xor_law S (bit_and S T) i ∙ ap (either (bit S i)) (bit_and_law S T i) ∙ apart (bit S i) (bit T i);
  }
    where
      apart : (s t : Bool) → either s (s && t) ≡ (s && not t)
      apart true true = refl
      apart true false = refl
      apart false t = refl

-- ---- links put behind symbols, one symbol after the other

-- where the loop stands: what is left of the set is still to be linked
pub record Linking (last first : ℕ) (before : List ℕ) (left : ℕ) (links : List ℕ) : Type 0 where
  pub each : (j : ℕ) → j < 64 → bit_or (get_or links j 0) (over left first j) ≡ bit_or (get_or before j 0) (over last first j)
  pub all : length links ≡ 64

module _ (last first : ℕ) (before : List ℕ) where
  pub linking_start : length before ≡ 64 → Linking last first before last before
  linking_start l = record { each = λ j h. refl; all = l }

  module _ {left : ℕ} {links : List ℕ} (here : Linking last first before left links) where
    pub linking_next : {k rest : ℕ} → (k < 64) × (bit left k ≡ true) → Without left k rest
        → Linking last first before rest (set links k (bit_or (get_or links k 0) first))
    linking_next {k} {rest} member w = record {
      each = λ j h. at j h (ℕ_discrete j k);
      all = length-set links k (bit_or (get_or links k 0) first) ∙ here.all;
    }
      where
        at : (j : ℕ) → j < 64 → Dec (j ≡ k)
            → bit_or (get_or (set links k (bit_or (get_or links k 0) first)) j 0) (over rest first j) ≡ bit_or (get_or before j 0) (over last first j)
        at j h (yes e) =
            let room : k < length links = omega (arith, here.all, member.0) in
            ap (λ (n : ℕ). bit_or (get_or (set links k (bit_or (get_or links k 0) first)) n 0) (over rest first n)) e
            ∙ ap₂ bit_or (get_or-set_same links k (bit_or (get_or links k 0) first) 0 room) (ap (λ (b : Bool). kept_if b first) w.gone)
            ∙ or_zero_r (bit_or (get_or links k 0) first)
            ∙ ap (λ (b : Bool). bit_or (get_or links k 0) (kept_if b first)) (inv member.1)
            ∙ here.each k member.0
            ∙ ap (λ (n : ℕ). bit_or (get_or before n 0) (over last first n)) (inv e)
        at j h (no e) =
            ap₂ bit_or (get_or-set_other links k j (bit_or (get_or links k 0) first) 0 e) (ap (λ (b : Bool). kept_if b first) (w.others j e))
            ∙ here.each j h

    pub linking_end : left ≡ 0 → Adds (over last first) before links
    linking_end z = record {
      each = λ j h.
          inv (or_zero_r (get_or links j 0))
          ∙ ap (λ (b : Bool). bit_or (get_or links j 0) (kept_if b first)) (inv (bit_zero j))
          ∙ ap (λ (n : ℕ). bit_or (get_or links j 0) (over n first j)) (inv z)
          ∙ here.each j h;
      all = here.all;
    }
