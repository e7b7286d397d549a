-- Texts written one after the other are one text; a buffer with room for a text holds all of it.
use Prim.Native.Nat.{ℕ, suc, ◌+◌, ◌≤◌, ◌<◌}
use mathlib.Core.List.{List, [], ◌∷◌, ◌++◌}
use mathlib.Core.Bool.{Bool, true, false}
use mathlib.Core.Path.{◌≡◌, refl, sym, ap, ◌∙◌}
use native.Mathlib.Omega.{arith}
use native.Mathlib.Numerals.{add-one}
use native.Mathlib.Nat.{add-suc, suc-add, add-zero}
use lib.ListN.{length, set, take, get_or, length-append}
use lib.Seq.{sets, length-sets, sets-eq, set_out, take-suc, take_all, take-append_seam}
use lib.Dec.{leb}
use borrow.Author.Tests.{leb-true, leb-false}
use Rattle.text_writer.specs.Written.{Written}

-- ---- stores one after the other
pub stores_append : (l : List ℕ) (i : ℕ) (x y : List ℕ) → sets (sets l i x) (i + length x) y ≡ sets l i (x ++ y)
stores_append l i [] y = ap (λ (k : ℕ). sets l k y) (add-zero i)
stores_append l i (a ∷ x) y = ap (λ (k : ℕ). sets (sets (set l i a) (suc i) x) k y) (add-suc i (length x) ∙ sym (suc-add i (length x))) ∙ stores_append (set l i a) (suc i) x y

-- past the end nothing is stored
pub stores_past : (l : List ℕ) (i : ℕ) (x : List ℕ) → length l ≤ i → sets l i x ≡ l
stores_past l i [] h = refl
stores_past l i (a ∷ x) h = rw (set_out l i a h) (stores_past l (suc i) x (omega arith))

module _ {b : List ℕ} {at : ℕ} where
  pub written_none : Written b at [] at b
  written_none = record { stores = refl; ends = omega arith }

  pub written_length : {x c : List ℕ} {r : ℕ} → Written b at x r c → length c ≡ length b
  written_length {x} {c} {r} w = rw w.stores (length-sets b at x)

  -- two texts, one after the other
  pub written_lengths : {x c y d : List ℕ} {r s : ℕ} → Written b at x r c → Written c r y s d → length d ≡ length b
  written_lengths {x} {c} {y} {d} {r} {s} w v = rw v.stores (length-sets c r y ∙ written_length w)

  pub written_byte : (x : ℕ) → at < length b → Written b at (x ∷ []) (at + 1) (set b at x)
  written_byte x h = record { stores = refl; ends = omega arith }

  pub written_past : (x : ℕ) → length b ≤ at → Written b at (x ∷ []) at b
  written_past x h = record { stores = sym (stores_past b at (x ∷ []) h); ends = omega arith }

  pub written_then : {x c y d : List ℕ} {r s : ℕ} → Written b at x r c → Written c r y s d → Written b at (x ++ y) s d
  written_then {x} {c} {y} {d} {r} {s} w v = record { stores = go (leb (at + length x) (length b)) refl; ends = omega (arith, w.ends, v.ends, written_length w, length-append x y) }
    where
      two : d ≡ sets (sets b at x) r y
      two = v.stores ∙ ap (λ (l : List ℕ). sets l r y) w.stores

      go : (t : Bool) → leb (at + length x) (length b) ≡ t → d ≡ sets b at (x ++ y)
      go true e = let l : at + length x ≤ length b = leb-true _ _ e in let p : r ≡ at + length x = omega (arith, w.ends) in two ∙ ap (λ (k : ℕ). sets (sets b at x) k y) p ∙ stores_append b at x y
      go false e =
          let l : length b < at + length x = leb-false _ _ e in
          let n : length (sets b at x) ≡ length b = length-sets b at x in
          let p : length (sets b at x) ≤ r = omega (arith, w.ends) in
          let k : length (sets b at x) ≤ at + length x = omega arith in
          two ∙ stores_past (sets b at x) r y p ∙ sym (stores_past (sets b at x) (at + length x) y k) ∙ stores_append b at x y

  -- the text in parts, as a loop writes it
  pub written_more : (s : List ℕ) (i : ℕ) {r n : ℕ} {c d : List ℕ} → i < length s → Written b at (take i s) r c → Written c r (get_or s i 0 ∷ []) n d → Written b at (take (i + 1) s) n d
  written_more s i h w v = rw (add-one i, take-suc s i 0 h) (written_then w v)

  pub written_all : (s : List ℕ) (i : ℕ) {r : ℕ} {c : List ℕ} → length s ≤ i → Written b at (take i s) r c → Written b at s r c
  written_all s i h w = rw (← take_all i s h) w

-- a buffer that is long enough holds the text, and what stood after it
pub written_whole : {b x c : List ℕ} {r : ℕ} → Written b 0 x r c → length x ≤ length b → take r c ≡ x
written_whole {b} {x} {c} {r} w h =
    let e : r ≡ length x = omega (arith, w.ends) in
    rw (w.stores, e, sets-eq x b 0 (omega arith)) (take-append_seam x _)
