use Rattle.std.specs.Prelude.{Ok}
use Rattle.string_literal.proofs.Local.{sequence_alike}
-- UTF-8 in two texts that are alike: a part that starts and ends at ASCII bytes is as well-formed in one as in the other.
use Prim.Native.Nat.{ℕ, zero, suc, ◌+◌, ◌-◌, ◌≤◌, ◌<◌}
use mathlib.Core.Path.{◌≡◌, refl, sym, ◌∙◌, subst}
use mathlib.Core.List.{List, [], ◌∷◌, ◌++◌}
use mathlib.Core.Bool.{Bool, true, false, ◌&&◌}
use native.Mathlib.Omega.{arith}
use lib.ListN.{length, get_or, drop, length-append, get_or-append}
use lib.Seq.{get_or-drop, get_or-append-add}
use lib.Dec.{ltb, leb}
use borrow.Author.Tests.{ltb-true, ltb-false, leb-true, lt-ltb, le-ltb, ne_eqb}
use Rattle.base.specs.Pick.{pick}
use Rattle.base.specs.Range.{within}
use Rattle.base.specs.Part.{byte_at}
use Rattle.base.proofs.Says.{and_both}
use Rattle.scan.proofs.Alike.{Alike, stop, at_stops}
use Rattle.encoding.specs.WellFormed.{Range, ◌‥◌, table, in_range, fits, sequence_in, sequence_at, ill_formed_from}
use Rattle.encoding.proofs.WellFormed.{ill_formed_at, well_formed_next, sequence_fits}
use Rattle.string_literal.proofs.Ascii.{low_byte}

-- ---- bytes behind the first of a sequence are 0x80 or more
abbrev high : List Range → Bool
high [] = true
high ((l ‥ h) ∷ row) = leb 0x80 l && high row

abbrev high_tail : List Range → Bool
high_tail [] = true
high_tail (r ∷ row) = high row

abbrev high_tails : List (List Range) → Bool
high_tails [] = true
high_tails (row ∷ rows) = high_tail row && high_tails rows

high_byte : (row : List Range) (s : List ℕ) → high row ≡ true → fits row s ≡ true → (j : ℕ) → j < length row → 0x80 ≤ get_or s j 0
unfolding fits in_range within
high_byte [] s h f j l = absurd (omega arith)
high_byte (r ∷ row) [] h f j l = let z : ◌≡◌ {A = ℕ} 0 1 = cc in absurd (omega arith)
high_byte ((low ‥ top) ∷ row) (b ∷ s) h f zero l =
    let p = and_both (leb 0x80 low) (high row) h in
    let q = and_both (leb low b && leb b top) (fits row s) f in
    let r = and_both (leb low b) (leb b top) q.0 in
    omega (arith, leb-true 0x80 low p.0, leb-true low b r.0)
high_byte ((low ‥ top) ∷ row) (b ∷ s) h f (suc j) l =
    high_byte row s (and_both (leb 0x80 low) (high row) h).1 (and_both (leb low b && leb b top) (fits row s) f).1 j (omega arith)

tail_byte : (row : List Range) (s : List ℕ) → high_tail row ≡ true → fits row s ≡ true → (j : ℕ) → 0 < j → j < length row → 0x80 ≤ get_or s j 0
unfolding fits
tail_byte [] s h f j z l = absurd (omega arith)
tail_byte (r ∷ row) [] h f j z l = let y : ◌≡◌ {A = ℕ} 0 1 = cc in absurd (omega arith)
tail_byte (r ∷ row) (b ∷ s) h f zero z l = absurd (omega arith)
tail_byte (r ∷ row) (b ∷ s) h f (suc j) z l = high_byte row s h (and_both (in_range r b) (fits row s) f).1 j (omega arith)

sequence_byte : (rows : List (List Range)) → high_tails rows ≡ true → (s : List ℕ) (j : ℕ) → 0 < j → j < sequence_in rows s → 0x80 ≤ get_or s j 0
unfolding sequence_in
sequence_byte [] h s j z l = absurd (omega arith)
sequence_byte (row ∷ rows) h s j z l =
    let p = and_both (high_tail row) (high_tails rows) h in
    go (fits row s) refl l p.0 (sequence_byte rows p.1 s j z)
  where
    go : (b : Bool) → fits row s ≡ b → j < pick b (length row) (sequence_in rows s) → high_tail row ≡ true → (j < sequence_in rows s → 0x80 ≤ get_or s j 0) → 0x80 ≤ get_or s j 0
    go true e l t again = tail_byte row s t e j z l
    go false e l t again = again l

behind : (s : List ℕ) (at j : ℕ) → 0 < j → j < sequence_at s at → 0x80 ≤ byte_at s (at + j)
unfolding sequence_at
behind s at j z l = rw get_or-drop at (sequence_byte table refl (drop at s) j z l)

-- ---- well-formed from a place on
abbrev pub From : List ℕ → ℕ → Type 0
From s at = ill_formed_from s at ≡ Ok tt

pub at_end_law : (s : List ℕ) (at : ℕ) → length s ≤ at → From s at
at_end_law s at h = ill_formed_at s at ∙ rw (le-ltb at (length s) h) refl

one_step : (s : List ℕ) (at : ℕ) → at < length s → (sequence_at s at ≡ 0 → ⊥) → From s (at + sequence_at s at) → From s at
one_step s at h z w = ill_formed_at s at ∙ rw (lt-ltb at (length s) h, ne_eqb (sequence_at s at) 0 z) w

pub ascii_step : (s : List ℕ) (at : ℕ) → at < length s → byte_at s at < 0x80 → From s (at + 1) → From s at
ascii_step s at h l w =
    let e = (low_byte s at h l).0 in
    one_step s at h (λ z. omega arith) (subst (λ (n : ℕ). From s (at + n)) (sym e) w)

-- over ASCII bytes
ascii_run : (s : List ℕ) (n at : ℕ) → ((i : ℕ) → i < n → (at + i < length s) × (byte_at s (at + i) < 0x80)) → From s (at + n) → From s at
ascii_run s zero at h w = let z : at + 0 ≡ at = omega arith in rw z at w
ascii_run s (suc n) at h w =
    let z : at + 0 ≡ at = omega arith in
    let y : at + suc n ≡ at + 1 + n = omega arith in
    ascii_step s at (rw z at (h 0 (omega arith)).0) (rw z at (h 0 (omega arith)).1)
    (ascii_run s n (at + 1) (λ i l. let u : at + suc i ≡ at + 1 + i = omega arith in (rw u at (h (suc i) (omega arith)).0, rw u at (h (suc i) (omega arith)).1)) (rw y at w))

abbrev pub ascii : List ℕ → Bool
ascii [] = true
ascii (b ∷ s) = ltb b 0x80 && ascii s

ascii_byte : (s : List ℕ) → ascii s ≡ true → (i : ℕ) → i < length s → get_or s i 0 < 0x80
ascii_byte [] h i l = absurd (omega arith)
ascii_byte (b ∷ s) h zero l = ltb-true b 0x80 (and_both (ltb b 0x80) (ascii s) h).0
ascii_byte (b ∷ s) h (suc i) l = ascii_byte s (and_both (ltb b 0x80) (ascii s) h).1 i (omega arith)

pub ascii_part : (p m r : List ℕ) → ascii m ≡ true → From (p ++ (m ++ r)) (length p + length m) → From (p ++ (m ++ r)) (length p)
ascii_part p m r h w = ascii_run (p ++ (m ++ r)) (length m) (length p) (λ i l. (simp length-append (omega arith), subst (λ (b : ℕ). b < 0x80) (sym (byte i l)) (ascii_byte m h i l))) w
  where
    byte : (i : ℕ) → i < length m → byte_at (p ++ (m ++ r)) (length p + i) ≡ get_or m i 0
    byte i l = get_or-append-add p (m ++ r) i 0 ∙ get_or-append m r 0 i l

-- a place where a character may start: the end, or an ASCII byte
abbrev pub Edge : List ℕ → ℕ → Type 0
Edge s at = at < length s → byte_at s at < 0x80

not_over : (s : List ℕ) (at a : ℕ) → at < a → a ≤ length s → Edge s a → at + sequence_at s at ≤ a
not_over s at a h l e = go (ltb a (at + sequence_at s at)) refl
  where
    go : (b : Bool) → ltb a (at + sequence_at s at) ≡ b → at + sequence_at s at ≤ a
    go true f =
        let k = ltb-true a (at + sequence_at s at) f in
        let n = sequence_fits s at in
        let z : at + (a - at) ≡ a = omega arith in
        let y : 0x80 ≤ byte_at s a = rw z at (behind s at (a - at) (omega arith) (omega arith)) in
        absurd (omega (arith, e (omega arith)))
    go false f = ltb-false a (at + sequence_at s at) f

from_edge : (s : List ℕ) (a : ℕ) → a ≤ length s → Edge s a → (f at : ℕ) → a - at < f → at ≤ a → From s at → From s a
from_edge s a l e zero at h k w = absurd (omega arith)
from_edge s a l e (suc f) at h k w = go (ltb at a) refl (λ n x y z. from_edge s a l e f n x y z)
  where
    go : (b : Bool) → ltb at a ≡ b → ((n : ℕ) → a - n < f → n ≤ a → From s n → From s a) → From s a
    go true x again =
        let m = ltb-true at a x in
        let p = well_formed_next s at w (omega arith) in
        let o = not_over s at a m l e in
        again (at + sequence_at s at) (positive (sequence_at s at) p.0) o p.1
      where
        positive : (n : ℕ) → (n ≡ 0 → ⊥) → a - (at + n) < f
        positive zero z = absurd (z refl)
        positive (suc n) z = omega (arith, ltb-true at a x)
    go false x again = let z : at ≡ a = omega (arith, ltb-false at a x) in rw z at w

-- ---- a part of a text in another
module _ {q r : List ℕ} {a b k l : ℕ} (A : Alike q r a b k l) where
  stop_low : (x : ℕ) → stop x ≡ true → x < 0x80
  stop_low = at_stops (λ (x : ℕ). x < 0x80) (omega arith) (omega arith) (omega arith) (omega arith) (omega arith) (omega arith)

  carried : (f i j : ℕ) → k - i < f → a ≤ i → i ≤ k → i + b ≡ j + a → From q i → From r l → From r j
  carried zero i j h s w x u v = absurd (omega arith)
  carried (suc f) i j h s w x u v = go (ltb i k) refl (carried f)
    where
      go : (c : Bool) → ltb i k ≡ c → ((i j : ℕ) → k - i < f → a ≤ i → i ≤ k → i + b ≡ j + a → From q i → From r l → From r j) → From r j
      go true e again =
          let m = ltb-true i k e in
          let p = well_formed_next q i u (omega (arith, A.first_within)) in
          let o = not_over q i k m A.first_within (λ y. stop_low (byte_at q k) A.first_stop) in
          let g = sequence_alike A i j s x p.0 o in
          let y = again (i + sequence_at q i) (j + sequence_at q i) (positive m (sequence_at q i) p.0) (omega arith) o (omega arith) p.1 v in
          one_step r j (omega (arith, A.ends, A.second_within)) (λ z. p.0 (sym g ∙ z)) (subst (λ (n : ℕ). From r (j + n)) (sym g) y)
        where
          positive : i < k → (n : ℕ) → (n ≡ 0 → ⊥) → k - (i + n) < f
          positive m zero z = absurd (z refl)
          positive m (suc n) z = omega arith
      go false e again = let z : j ≡ l = omega (arith, ltb-false i k e, A.ends) in rw z v

  -- if the first text is well-formed, and the second from the part's end on, so is the second from the part's start on
  pub carry : From q 0 → Edge q a → From r l → From r b
  carry u e v =
      carried (suc (k - a)) a b (omega arith) (omega arith) A.starts (omega arith) (from_edge q a (omega (arith, A.starts, A.first_within)) e (suc a) 0 (omega arith) (omega arith) u) v
