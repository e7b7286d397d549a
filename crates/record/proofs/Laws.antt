-- One law for each way out of the functions of src/.
use Prim.Native.Nat.{ℕ, suc, ◌+◌, ◌-◌, ◌≤◌, ◌<◌}
use mathlib.Core.List.{List, [], ◌∷◌, ◌++◌}
use mathlib.Core.Bool.{Bool, true, false, not, cond, ◌&&◌, ◌||◌, or_assoc, or-false}
use mathlib.Core.Path.{◌≡◌, refl, sym, ap, ◌∙◌}
use native.Mathlib.Omega.{arith}
use lib.ListN.{length, get_or, take, length-take}
use lib.Seq.{take_all, take-suc, length-take-le}
use lib.Dec.{eqb, ltb, leb}
use borrow.Author.Tests.{le-leb, lt-leb, ltb-true, ltb-false, eqb-true, eqb-false, not-true, not-false}
use Rattle.std.specs.List.{list_all}
use Rattle.std.specs.Char.{is_ascii_digit, is_ascii_alphabetic, to_ascii_lowercase}
use Rattle.base.specs.Pick.{pick}
use Rattle.base.specs.Part.{part}
use Rattle.base.specs.Range.{within}
use Rattle.base.specs.LittleEndian.{unsigned}
use Rattle.base.proofs.Says.{and_false}
use Rattle.record.specs.declared.read.RecordAt.{RecordAt}
use Rattle.record.specs.declared.read.RecordAt.TheVariants.{Whole, Broken, End}
use Rattle.record.specs.Record.{number_at, record_at}
use Rattle.record.specs.Name.{letter, name_byte, valid_name, lower, same_name}
use Rattle.base.specs.Ascii.{bytes}
use Rattle.record.specs.Reserved.{reserved_words, among, is_reserved}
use Rattle.record.proofs.Records.{at_end_law, at_broken, at_whole}

-- two bytes are all of the first eight
pub number_of : (s b : List ℕ) (at : ℕ) → b ≡ part s at 2 → (n : ℕ) → n ≡ unsigned (take 8 b) → n ≡ number_at s at
number_of s b at e n f = f ∙ ap unsigned (take_all 8 b (rw e (simp length-take (omega arith))) ∙ e)

-- the record at an offset
module _ (s : List ℕ) (at : ℕ) where
  pub record_past : length s < at → End ≡ record_at s at
  record_past h = sym (at_end_law s at (omega arith))

  module _ (h : at ≤ length s) where
    pub record_short : length s - at < 4 → {r : RecordAt} → r ≡ pick (eqb (length s - at) 0) End Broken → r ≡ record_at s at
    record_short g e = e ∙ go (eqb (length s - at) 0) refl
      where
        go : (b : Bool) → eqb (length s - at) 0 ≡ b → pick b End Broken ≡ record_at s at
        go true f = sym (at_end_law s at (omega (arith, eqb-true (length s - at) 0 f)))
        go false f = sym (at_broken s at (omega (arith, eqb-false (length s - at) 0 f)) (omega arith))

    module _ (g : 4 ≤ length s - at) (n : ℕ) (e : n ≡ number_at s at) where
      pub record_over : length s < at + 4 + n → Broken ≡ record_at s at
      record_over f = sym (at_broken s at (omega arith) (omega arith))

      pub record_whole : at + 4 + n ≤ length s → (k : ℕ) → k ≡ number_at s (at + 2) → Whole k (at + 4) n (at + 4 + n) ≡ record_at s at
      record_whole f k d = rw (d, e) (sym (at_whole s at (omega arith)))

-- ---- the classes of bytes that the formats name, by those of ASCII
pub letter_law : (b : ℕ) → (is_ascii_alphabetic b || eqb b 95) ≡ letter b
unfolding letter within
letter_law b = refl

pub name_byte_law : (b : ℕ) → (letter b || is_ascii_digit b) ≡ name_byte b
unfolding name_byte within
name_byte_law b = refl

pub lower_law : (b : ℕ) → to_ascii_lowercase b ≡ lower b
unfolding lower within
lower_law b = go (ltb b 65) refl (ltb b 91) refl
  where
    go : (x : Bool) → ltb b 65 ≡ x → (y : Bool) → ltb b 91 ≡ y → cond x b (cond y (b + 32) b) ≡ pick (leb 65 b && leb b 90) (b + 32) b
    go true e y f = rw (lt-leb 65 b (ltb-true b 65 e))
    go false e true f = rw (le-leb 65 b (ltb-false b 65 e), le-leb b 90 (let g = ltb-true b 91 f in omega arith))
    go false e false f = rw (le-leb 65 b (ltb-false b 65 e), lt-leb b 90 (let g = ltb-false b 91 f in omega arith))

module _ (s : List ℕ) where
  pub name_empty : length s < 1 → false ≡ valid_name s
  unfolding valid_name within
  name_empty h = rw (lt-leb _ _ h)

  pub name_long : 64 < length s → false ≡ valid_name s
  unfolding valid_name within
  name_long h = rw (lt-leb (length s) 64 h, and_false)

module _ (s : List ℕ) (h : 1 ≤ length s) (g : length s ≤ 64) where
  pub name_first : letter (get_or s 0 0) ≡ true → list_all name_byte s ≡ valid_name s
  unfolding valid_name within
  name_first e = rw (le-leb 1 (length s) h, le-leb (length s) 64 g, e)

  pub name_not : letter (get_or s 0 0) ≡ false → false ≡ valid_name s
  unfolding valid_name within
  name_not e = rw (le-leb 1 (length s) h, le-leb (length s) 64 g, e)

-- two names, byte by byte
pub same_lengths : (a b : List ℕ) → (length a ≡ length b → ⊥) → false ≡ same_name a b
unfolding same_name
same_lengths [] [] h = absurd (h refl)
same_lengths [] (y ∷ ys) h = refl
same_lengths (x ∷ xs) [] h = refl
same_lengths (x ∷ xs) (y ∷ ys) h = rw (← same_lengths xs ys (λ e. h (ap suc e))) (sym (and_false (eqb (lower x) (lower y))))

and_true : (t : Bool) → (t && true) ≡ t
and_true true = refl
and_true false = refl

-- two names of one length, by their last bytes
same_last : (xs ys : List ℕ) (x y : ℕ) → length xs ≡ length ys → same_name (xs ++ (x ∷ [])) (ys ++ (y ∷ [])) ≡ (same_name xs ys && eqb (lower x) (lower y))
unfolding same_name
same_last [] [] x y l = and_true (eqb (lower x) (lower y))
same_last [] (v ∷ ys) x y l = absurd (omega arith)
same_last (u ∷ xs) [] x y l = absurd (omega arith)
same_last (u ∷ xs) (v ∷ ys) x y l = rw (same_last xs ys x y (omega arith)) (and_and (eqb (lower u) (lower v)) (same_name xs ys) (eqb (lower x) (lower y)))
  where
    and_and : (p q r : Bool) → (p && (q && r)) ≡ ((p && q) && r)
    and_and true q r = refl
    and_and false q r = refl

pub same_start : (a b : List ℕ) → length a ≡ length b → same_name a b ≡ same_name (take (length a) a) (take (length a) b)
same_start a b l = rw (take_all (length a) a (omega arith), take_all (length a) b (omega arith))

module _ (a b : List ℕ) (l : length a ≡ length b) (i : ℕ) (w : Bool) (inv : w ≡ same_name (take i a) (take i b)) where
  pub same_end : i ≤ 0 → true ≡ w
  unfolding same_name
  same_end h = let z : i ≡ 0 = omega arith in sym (inv ∙ rw z)

  module _ (h : 0 < i) (k : i ≤ length a) {r : Bool} (e : r ≡ eqb (lower (get_or a (i - 1) 0)) (lower (get_or b (i - 1) 0))) where
    last : w ≡ (same_name (take (i - 1) a) (take (i - 1) b) && r)
    last =
        let s : i ≡ suc (i - 1) = omega arith in
        let m : length (take (i - 1) a) ≡ length (take (i - 1) b) = rw (length-take-le (i - 1) a (omega arith), length-take-le (i - 1) b (omega arith)) in
        inv
        ∙ ap (λ (n : ℕ). same_name (take n a) (take n b)) s
        ∙ rw (take-suc a (i - 1) 0 (omega arith), take-suc b (i - 1) 0 (omega arith), e) (same_last (take (i - 1) a) (take (i - 1) b) (get_or a (i - 1) 0) (get_or b (i - 1) 0) m)

    pub same_not : not r ≡ true → false ≡ w
    same_not g = sym (last ∙ rw (not-true r g) (and_false (same_name (take (i - 1) a) (take (i - 1) b))))

    pub same_next : not r ≡ false → w ≡ same_name (take (i - 1) a) (take (i - 1) b)
    same_next g = last ∙ rw (not-false r g) (and_true (same_name (take (i - 1) a) (take (i - 1) b)))

-- the nine reserved words, tried one after the other
pub reserved_any : (s : List ℕ)
    → (same_name s (bytes "AND") || same_name s (bytes "ANY") || same_name s (bytes "EVERY") || same_name s (bytes "FALSE") || same_name s (bytes "LIKE")
    || same_name s (bytes "NOT") || same_name s (bytes "NULL") || same_name s (bytes "OR") || same_name s (bytes "TRUE")) ≡ is_reserved s
unfolding is_reserved among reserved_words
reserved_any s = simp (or_assoc, or-false)
