-- Laws of lists for loops over a slice: what is left at an offset, one step and at the end; what stands beyond; parts; bytes past the end; equal bytes.
use Prim.Native.Nat.{ℕ, ◌+◌, ◌-◌, ◌≤◌, ◌<◌}
use mathlib.Core.List.{List, [], ◌∷◌, ◌++◌}
use mathlib.Core.Bool.{Bool, true, false}
use mathlib.Core.Path.{◌≡◌, refl, sym, ap, ◌∙◌}
use native.Mathlib.Numerals.{add-one}
use native.Mathlib.Omega.{arith}
use lib.ListN.{length, get_or, take, drop, length-take, length-drop, drop_of_length-le, get_or-eq_default}
use lib.Seq.{drop-cons, take_all, take-nil, length-take-le, get_or-append-add, get_or-drop}
use native.Mathlib.Nat.{add-sub_cancel_left, min-le_left}
use lib.Dec.{leb, eqb}
use borrow.Author.Tests.{leb-true, leb-false, eq-eqb, eqb-true}
use Rattle.base.specs.Pick.{pick}
use Rattle.base.specs.Part.{part, byte_at, same_bytes}
use Rattle.base.proofs.Says.{Says, apart}

-- what is left at `i`: the element there, and what is left after it
pub left_next : (s : List ℕ) (i : ℕ) → i < length s → drop i s ≡ get_or s i 0 ∷ drop (i + 1) s
left_next s i h = rw (add-one, drop-cons s i 0)

-- `left_next` under any function of what is left
pub at_next {ℓ} : {R : Type ℓ} (f : List ℕ → R) (s : List ℕ) (i : ℕ) → i < length s → f (drop i s) ≡ f (get_or s i 0 ∷ drop (i + 1) s)
at_next f s i h = ap f (left_next s i h)

-- nothing is left at the end, under any function
pub at_end_law {ℓ} : {R : Type ℓ} (f : List ℕ → R) (s : List ℕ) (i : ℕ) → length s ≤ i → f (drop i s) ≡ f []
at_end_law f s i h = ap f (drop_of_length-le s h)

-- what is written over the front of a list leaves what stands beyond
pub beyond_kept : (front s : List ℕ) (n i : ℕ) → length front ≡ n → n ≤ i → get_or (front ++ drop n s) i 0 ≡ get_or s i 0
beyond_kept front s n i e h =
    let a : i ≡ length front + (i - n) = omega arith in
    let b : n + (i - n) ≡ i = omega arith in
    ap (λ (j : ℕ). get_or (front ++ drop n s) j 0) a
    ∙ get_or-append-add front (drop n s) (i - n) 0
    ∙ get_or-drop n s (i - n) 0
    ∙ ap (λ (j : ℕ). get_or s j 0) b

-- bytes past the end
pub byte_past : (s : List ℕ) (at : ℕ) → length s ≤ at → 0 ≡ byte_at s at
byte_past s at h = sym (get_or-eq_default {A = ℕ} s 0 h)

-- a byte that is not 0 stands within the list: reading 0 past the end hides nothing from a rule that takes no 0
pub byte_within : (s : List ℕ) (at : ℕ) → (byte_at s at ≡ 0 → ⊥) → at < length s
byte_within s at n = go (leb (length s) at) refl
  where
    go : (t : Bool) → leb (length s) at ≡ t → at < length s
    go true e = absurd (n (sym (byte_past s at (leb-true (length s) at e))))
    go false e = omega (arith, leb-false (length s) at e)

-- parts, by where they end
module _ (s : List ℕ) (start len : ℕ) where
  pub part_past : length s < start → ◌≡◌ {A = List ℕ} [] (part s start len)
  part_past h = let l : length s ≤ start = omega arith in sym (take-nil len) ∙ ap (take len) (sym (drop_of_length-le s l))

  pub part_rest : length s - start < len → take (length s - start) (drop start s) ≡ part s start len
  part_rest h = take_all (length s - start) (drop start s) (simp length-drop (omega arith)) ∙ sym (take_all len (drop start s) (simp length-drop (omega arith)))

  pub part_whole : take (start + len - start) (drop start s) ≡ part s start len
  part_whole = ap (λ (n : ℕ). take n (drop start s)) (add-sub_cancel_left start len)

  pub part_length : start + len ≤ length s → length (part s start len) ≡ len
  part_length h = length-take-le len (drop start s) (simp length-drop (omega arith))

  pub part_short : length (part s start len) ≤ len
  part_short = rw length-take (min-le_left len (length (drop start s)))

-- the test of equal bytes is true exactly of equal lists
pub says_same : (a b : List ℕ) → Says (same_bytes a b) (a ≡ b)
unfolding same_bytes
says_same [] [] = record { to = λ e. refl; from = λ h. refl }
says_same [] (y ∷ ys) = record { to = λ e. absurd (apart e); from = λ h. absurd (let z : ◌≡◌ {A = ℕ} 0 1 = cc in omega arith) }
says_same (x ∷ xs) [] = record { to = λ e. absurd (apart e); from = λ h. absurd (let z : ◌≡◌ {A = ℕ} 0 1 = cc in omega arith) }
says_same (x ∷ xs) (y ∷ ys) = go (eqb x y) refl (says_same xs ys)
  where
    go : (t : Bool) → eqb x y ≡ t → Says (same_bytes xs ys) (xs ≡ ys) → Says (pick t (same_bytes xs ys) false) (x ∷ xs ≡ y ∷ ys)
    go true e s = record { to = λ h. let p = eqb-true x y e in let q = s.to h in cc; from = λ h. s.from (let z : xs ≡ ys = cc in z) }
    go false e s = record { to = λ h. absurd (apart h); from = λ h. absurd (apart (sym e ∙ eq-eqb x y (let z : x ≡ y = cc in z))) }
