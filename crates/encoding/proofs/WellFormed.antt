-- The table's answer, from what its rows say of a first byte. Assumes nothing.
use Prim.Native.Nat.{ℕ, zero, suc, ◌+◌, ◌-◌, ◌≤◌, ◌<◌}
use mathlib.Core.List.{List, [], ◌∷◌}
use mathlib.Core.Bool.{Bool, true, false, ◌&&◌, false≢true, and-true, and_assoc}
use mathlib.Core.Path.{◌≡◌, refl, ap, sym, ◌∙◌}
use native.Mathlib.Omega.{arith}
use native.Mathlib.Decide.{dec_lt}
use lib.ListN.{length, get_or, take, drop, length-drop}
use lib.Dec.{ltb, eqb}
use borrow.Author.Tests.{ltb-true, eqb-false, lt-ltb, le-ltb, ne_eqb}
use Rattle.base.specs.Pick.{pick}
use Rattle.base.specs.Range.{within}
use Rattle.base.proofs.Walk.{from_at}
use Rattle.base.proofs.Lists.{left_next, at_end_law}
use Rattle.base.proofs.Says.{and_both}
use Rattle.base.proofs.Tabulate.{tab, tab_at}
use Rattle.std.specs.Prelude.{Result, Ok, Err}
use Rattle.encoding.specs.WellFormed.{Range, ◌‥◌, continuation, table, in_range, fits, sequence_in, sequence_at, ill_formed_step, ill_formed_from, first_ill_formed}
use Rattle.encoding.specs.Lead.{starts_with, row_in, row_of, lead_length, second_low, second_high}

-- two functions of a byte that are equal as tables are equal at each byte
by_table : {A : Type 0} (f g : ℕ → A) → tab f 0 256 ≡ tab g 0 256 → (b : ℕ) → b < 256 → f b ≡ g b
by_table f g e b h = sym (tab_at f 256 b (f 0) h) ∙ ap (λ (l : List _). get_or l b (f 0)) e ∙ tab_at g 256 b (f 0) h

-- the row's number by the tests that the code makes
abbrev length_by : ℕ → ℕ
length_by b = pick (ltb b 0x80) 1 (pick (ltb b 0xC2) 0 (pick (ltb b 0xE0) 2 (pick (ltb b 0xF0) 3 (pick (ltb b 0xF5) 4 0))))

pub length_by_law : (b : ℕ) → b < 256 → lead_length b ≡ length_by b
unfolding lead_length row_of row_in starts_with in_range within
length_by_law = by_table lead_length length_by refl

module _ (b : ℕ) (byte : b < 256) where
  pub lead_ascii : b < 0x80 → 1 ≡ lead_length b
  lead_ascii h = rw (length_by_law b byte, lt-ltb _ _ h)

  pub lead_continues : 0x80 ≤ b → b < 0xC2 → 0 ≡ lead_length b
  lead_continues l h = rw (length_by_law b byte, le-ltb _ _ l, lt-ltb _ _ h)

  pub lead_two : 0x80 ≤ b → 0xC2 ≤ b → b < 0xE0 → 2 ≡ lead_length b
  lead_two l l2 h = rw (length_by_law b byte, le-ltb _ _ l, le-ltb _ _ l2, lt-ltb _ _ h)

  pub lead_three : 0x80 ≤ b → 0xC2 ≤ b → 0xE0 ≤ b → b < 0xF0 → 3 ≡ lead_length b
  lead_three l l2 l3 h = rw (length_by_law b byte, le-ltb _ _ l, le-ltb _ _ l2, le-ltb _ _ l3, lt-ltb _ _ h)

  pub lead_four : 0x80 ≤ b → 0xC2 ≤ b → 0xE0 ≤ b → 0xF0 ≤ b → b < 0xF5 → 4 ≡ lead_length b
  lead_four l l2 l3 l4 h = rw (length_by_law b byte, le-ltb _ _ l, le-ltb _ _ l2, le-ltb _ _ l3, le-ltb _ _ l4, lt-ltb _ _ h)

  pub lead_none : 0x80 ≤ b → 0xC2 ≤ b → 0xE0 ≤ b → 0xF0 ≤ b → 0xF5 ≤ b → 0 ≡ lead_length b
  lead_none l l2 l3 l4 l5 = rw (length_by_law b byte, le-ltb _ _ l, le-ltb _ _ l2, le-ltb _ _ l3, le-ltb _ _ l4, le-ltb _ _ l5)

pub low_by : (b : ℕ) → b < 256 → second_low b ≡ pick (eqb b 0xE0) 0xA0 (pick (eqb b 0xF0) 0x90 0x80)
unfolding second_low row_of row_in starts_with in_range within
low_by = by_table second_low _ refl

pub high_by : (b : ℕ) → b < 256 → second_high b ≡ pick (eqb b 0xED) 0x9F (pick (eqb b 0xF4) 0x8F 0xBF)
unfolding second_high row_of row_in starts_with in_range within
high_by = by_table second_high _ refl

module _ (b : ℕ) (byte : b < 256) where
  low_other : (b ≡ 0xE0 → ⊥) → (b ≡ 0xF0 → ⊥) → 0x80 ≡ second_low b
  low_other n n2 = rw (low_by b byte, ne_eqb _ _ n, ne_eqb _ _ n2)

  high_other : (b ≡ 0xED → ⊥) → (b ≡ 0xF4 → ⊥) → 0xBF ≡ second_high b
  high_other n n2 = rw (high_by b byte, ne_eqb _ _ n, ne_eqb _ _ n2)

  pub second_other : (b ≡ 0xE0 → ⊥) → (b ≡ 0xED → ⊥) → (b ≡ 0xF0 → ⊥) → (b ≡ 0xF4 → ⊥) → ◌≡◌ {A = ℕ × ℕ} (0x80, 0xBF) (second_low b, second_high b)
  second_other e0 ed f0 f4 = rw (← low_other e0 f0, ← high_other ed f4) refl

-- no row starts with a byte; at most one does
unfoldable none : List (List Range) → ℕ → Bool
none [] b = true
none ([] ∷ rows) b = false
none ((r ∷ row) ∷ rows) b = pick (in_range r b) false (none rows b)

unfoldable once : List (List Range) → ℕ → Bool
once [] b = true
once ([] ∷ rows) b = false
once ((r ∷ row) ∷ rows) b = pick (in_range r b) (none rows b) (once rows b)

once_at : (b : ℕ) → b < 256 → once table b ≡ true
unfolding once none in_range within
once_at = by_table (once table) (λ b. true) refl

module _ (b : ℕ) (t : List ℕ) where
  none_fits : (rows : List (List Range)) → none rows b ≡ true → sequence_in rows (b ∷ t) ≡ 0
  unfolding none sequence_in fits
  none_fits [] h = refl
  none_fits ([] ∷ rows) h = refl
  none_fits ((r ∷ row) ∷ rows) h = go (in_range r b) h (λ e. none_fits rows e)
    where
      go : (x : Bool) → pick x false (none rows b) ≡ true → (none rows b ≡ true → sequence_in rows (b ∷ t) ≡ 0)
          → pick (x && fits row t) (length (r ∷ row)) (sequence_in rows (b ∷ t)) ≡ 0
      go true e f = absurd (false≢true e)
      go false e f = f e

  one_fits : (rows : List (List Range)) → once rows b ≡ true → sequence_in rows (b ∷ t) ≡ pick (fits (row_in rows b) (b ∷ t)) (length (row_in rows b)) 0
  unfolding once sequence_in fits row_in starts_with
  one_fits [] h = refl
  one_fits ([] ∷ rows) h = absurd (false≢true h)
  one_fits ((r ∷ row) ∷ rows) h = go (in_range r b) refl h (λ e. one_fits rows e)
    where
      go : (x : Bool) → in_range r b ≡ x → pick x (none rows b) (once rows b) ≡ true
          → (once rows b ≡ true → sequence_in rows (b ∷ t) ≡ pick (fits (row_in rows b) (b ∷ t)) (length (row_in rows b)) 0)
          → pick (x && fits row t) (length (r ∷ row)) (sequence_in rows (b ∷ t))
          ≡ pick (fits (pick x (r ∷ row) (row_in rows b)) (b ∷ t)) (length (pick x (r ∷ row) (row_in rows b))) 0
      go true i e f = rw (i, none_fits rows e)
      go false i e f = f e

-- the first byte's range
lead_fits : (row : List Range) (b : ℕ) (t : List ℕ) → fits (take 1 row) (b ∷ []) ≡ true → fits row (b ∷ t) ≡ fits (drop 1 row) t
unfolding fits
lead_fits [] b t h = refl
lead_fits (r ∷ row) b t h = go (in_range r b) h
  where
    go : (x : Bool) → x && true ≡ true → x && fits row t ≡ fits row t
    go true e = refl
    go false e = absurd (false≢true e)

own_lead : (b : ℕ) → b < 256 → fits (take 1 (row_of b)) (b ∷ []) ≡ true
unfolding fits row_of row_in starts_with in_range within
own_lead = by_table (λ b. fits (take 1 (row_of b)) (b ∷ [])) (λ b. true) refl

-- the bytes after the second
unfoldable pub continuations : ℕ → List Range
continuations zero = []
continuations (suc n) = continuation ∷ continuations n

unfoldable rest_by : ℕ → List Range
rest_by b = pick (ltb (lead_length b) 2) [] ((second_low b ‥ second_high b) ∷ continuations (lead_length b - 2))

rest_by_law : (b : ℕ) → b < 256 → drop 1 (row_of b) ≡ rest_by b
unfolding rest_by continuations lead_length second_low second_high row_of row_in starts_with in_range within
rest_by_law = by_table (λ b. drop 1 (row_of b)) rest_by refl

-- a row needs as many bytes as it has ranges
fits_enough : (row : List Range) (s : List ℕ) → fits row s ≡ true → length row ≤ length s
unfolding fits
fits_enough [] s h = omega arith
fits_enough (r ∷ row) [] h = absurd (false≢true h)
fits_enough (r ∷ row) (b ∷ s) h = omega (arith, fits_enough row s (and_both (in_range r b) (fits row s) h).1)

fits_length : (row : List Range) (s : List ℕ) → length s < length row → fits row s ≡ false
fits_length row s h = go (fits row s) refl
  where
    go : (t : Bool) → fits row s ≡ t → t ≡ false
    go true e = absurd (omega (arith, fits_enough row s e))
    go false e = refl

-- a sequence ends within the text
fits_in : (rows : List (List Range)) (s : List ℕ) → sequence_in rows s ≤ length s
unfolding sequence_in
fits_in [] s = omega arith
fits_in (row ∷ rows) s = go (fits row s) refl (fits_in rows s)
  where
    go : (t : Bool) → fits row s ≡ t → sequence_in rows s ≤ length s → pick t (length row) (sequence_in rows s) ≤ length s
    go true e h = fits_enough row s e
    go false e h = h

pub sequence_fits : (s : List ℕ) (at : ℕ) → sequence_at s at ≤ length s - at
unfolding sequence_at
sequence_fits s at = rw (← length-drop at s) (fits_in table (drop at s))

module _ (s : List ℕ) (at : ℕ) where
  pub past_end : length s ≤ at → 0 ≡ sequence_at s at
  unfolding sequence_at sequence_in fits
  past_end h = sym (at_end_law (sequence_in table) s at h)

  module _ (within_text : at < length s) (byte : get_or s at 0 < 256) where
    by_row : sequence_at s at ≡ pick (fits (row_of (get_or s at 0)) (drop at s)) (lead_length (get_or s at 0)) 0
    unfolding sequence_at lead_length row_of
    by_row =
        rw (left_next s at within_text) (one_fits (get_or s at 0) (drop (at + 1) s) table (once_at (get_or s at 0) byte))

    by_rest : sequence_at s at ≡ pick (fits (rest_by (get_or s at 0)) (drop (at + 1) s)) (lead_length (get_or s at 0)) 0
    by_rest = by_row ∙ rw (left_next s at within_text, lead_fits (row_of (get_or s at 0)) (get_or s at 0) (drop (at + 1) s) (own_lead (get_or s at 0) byte), rest_by_law (get_or s at 0) byte)

module _ (s : List ℕ) (at : ℕ) (inside : at < length s) (byte : get_or s at 0 < 256) (n : ℕ) (lead : n ≡ lead_length (get_or s at 0)) where
  pub too_short : length s - at < n → 0 ≡ sequence_at s at
  unfolding lead_length
  too_short h =
      let b = get_or s at 0 in
      sym (by_row s at inside byte ∙ rw (fits_length (row_of b) (drop at s) (simp length-drop (omega arith))))

  pub single : n < 2 → n ≡ sequence_at s at
  unfolding rest_by fits
  single h = rw lead (sym (by_rest s at inside byte ∙ rw (lt-ltb (lead_length (get_or s at 0)) 2 (omega arith))))

  module _ (enough : n ≤ length s - at) (several : 2 ≤ n) where
    -- what the second byte and those after it decide
    pub by_second : sequence_at s at
        ≡ pick (within (second_low (get_or s at 0)) (second_high (get_or s at 0)) (get_or s (at + 1) 0) && fits (continuations (n - 2)) (drop (at + 2) s)) n 0
    unfolding rest_by fits in_range
    by_second =
        let next : at + 1 < length s = omega arith in
        let two : at + 1 + 1 ≡ at + 2 = omega arith in
        by_rest s at inside byte
        ∙ rw (← lead, le-ltb n 2 several, left_next s (at + 1) next, two)

-- one continuation byte more
continues_by : (s : List ℕ) (at n : ℕ) → at < length s
    → fits (continuations (suc n)) (drop at s) ≡ (within 0x80 0xBF (get_or s at 0) && fits (continuations n) (drop (at + 1) s))
unfolding continuations fits in_range
continues_by s at n inside = rw (left_next s at inside)

-- ---- by the number of bytes that the first one asks for

module _ (s : List ℕ) (at : ℕ) (inside : at < length s) where
  pub one_at : get_or s at 0 < 0x80 → 1 ≡ sequence_at s at
  one_at h = let byte : get_or s at 0 < 256 = omega arith in single s at inside byte 1 (lead_ascii _ byte h) (omega arith)

  module _ (low : 0x80 ≤ get_or s at 0) (high : get_or s at 0 < 0xE0) where
    byte_two : get_or s at 0 < 256
    byte_two = omega arith

    pub two_none : get_or s at 0 < 0xC2 → 0 ≡ sequence_at s at
    two_none h = single s at inside byte_two 0 (lead_continues _ byte_two low h) (omega arith)

    pub two_short : length s - at < 2 → 0 ≡ sequence_at s at
    two_short h = go (dec_lt (get_or s at 0) 0xC2)
      where
        go : Dec (get_or s at 0 < 0xC2) → 0 ≡ sequence_at s at
        go (yes l) = two_none l
        go (no l) = too_short s at inside byte_two 2 (lead_two _ byte_two low (omega arith) high) h

    module _ (leads : 0xC2 ≤ get_or s at 0) where
      lead_of_two : 2 ≡ lead_length (get_or s at 0)
      lead_of_two = lead_two _ byte_two low leads high

      pub two_by : 2 ≤ length s - at → {r t : Bool} → r ≡ within 0x80 0xBF (get_or s (at + 1) 0) → r ≡ t → pick t 2 0 ≡ sequence_at s at
      unfolding continuations fits
      two_by h {r} {t} e d = ap (λ (x : Bool). pick x 2 0) (sym d) ∙ sym
          (by_second s at inside byte_two 2 lead_of_two h (omega arith)
          ∙ rw (← low_other _ byte_two (λ q. omega arith) (λ q. omega arith), ← high_other _ byte_two (λ q. omega arith) (λ q. omega arith), ← e, and-true r))

  module _ (low : 0xE0 ≤ get_or s at 0) (high : get_or s at 0 < 0xF0) where
    byte_three : get_or s at 0 < 256
    byte_three = omega arith

    lead_of_three : 3 ≡ lead_length (get_or s at 0)
    lead_of_three = lead_three _ byte_three (omega arith) (omega arith) low high

    pub three_short : length s - at < 3 → 0 ≡ sequence_at s at
    three_short h = too_short s at inside byte_three 3 lead_of_three h

    pub three_by : 3 ≤ length s - at → {q r t : Bool} → q ≡ within (second_low (get_or s at 0)) (second_high (get_or s at 0)) (get_or s (at + 1) 0)
        → r ≡ within 0x80 0xBF (get_or s (at + 2) 0) → (q && r) ≡ t → pick t 3 0 ≡ sequence_at s at
    unfolding continuations fits
    three_by h {q} {r} {t} e f d = ap (λ (x : Bool). pick x 3 0) (sym d) ∙ sym
        (by_second s at inside byte_three 3 lead_of_three h (omega arith)
        ∙ rw (← e, continues_by s (at + 2) 0 (omega arith), ← f, and-true r))

  module _ (low : 0xF0 ≤ get_or s at 0) (byte : get_or s at 0 < 256) where
    pub four_none : 0xF5 ≤ get_or s at 0 → 0 ≡ sequence_at s at
    four_none h = single s at inside byte 0 (lead_none _ byte (omega arith) (omega arith) (omega arith) low h) (omega arith)

    pub four_short : length s - at < 4 → 0 ≡ sequence_at s at
    four_short h = go (dec_lt (get_or s at 0) 0xF5)
      where
        go : Dec (get_or s at 0 < 0xF5) → 0 ≡ sequence_at s at
        go (yes l) = too_short s at inside byte 4 (lead_four _ byte (omega arith) (omega arith) (omega arith) low l) h
        go (no l) = four_none (omega arith)

    module _ (high : get_or s at 0 < 0xF5) where
      lead_of_four : 4 ≡ lead_length (get_or s at 0)
      lead_of_four = lead_four _ byte (omega arith) (omega arith) (omega arith) low high

      pub four_by : 4 ≤ length s - at → {p q r t : Bool} → p ≡ within (second_low (get_or s at 0)) (second_high (get_or s at 0)) (get_or s (at + 1) 0)
          → q ≡ within 0x80 0xBF (get_or s (at + 2) 0) → r ≡ within 0x80 0xBF (get_or s (at + 3) 0) → ((p && q) && r) ≡ t → pick t 4 0 ≡ sequence_at s at
      unfolding continuations fits
      four_by h {p} {q} {r} {t} e f g d =
          let third : at + 2 + 1 ≡ at + 3 = omega arith in
          ap (λ (x : Bool). pick x 4 0) (sym d) ∙ sym
          (by_second s at inside byte 4 lead_of_four h (omega arith)
          ∙ rw (← e, continues_by s (at + 2) 1 (omega arith), third, continues_by s (at + 3) 0 (omega arith), ← f, ← g, and-true r, and_assoc p q r))

-- the check, one step
pub ill_formed_at : (s : List ℕ) (at : ℕ) → ill_formed_from s at ≡ ill_formed_step s at (ill_formed_from s)
unfolding ill_formed_from
ill_formed_at s = from_at (ill_formed_step s) (Ok tt) (length s) (λ at p q h. one at p q h (ltb at (length s)) refl)
  where
    two : (at : ℕ) (p q : ℕ → Result (Unit {0}) ℕ) → ((next : ℕ) → at < next → next ≤ length s → p next ≡ q next) → at < length s
        → (t : Bool) → eqb (sequence_at s at) 0 ≡ t
        → pick t (Err at) (p (at + sequence_at s at)) ≡ pick t (Err at) (q (at + sequence_at s at))
    two at p q h l true e = refl
    two at p q h l false e =
        let f = sequence_fits s at in
        let z = eqb-false (sequence_at s at) 0 e in
        h (at + sequence_at s at) (omega arith) (omega arith)

    one : (at : ℕ) (p q : ℕ → Result (Unit {0}) ℕ) → ((next : ℕ) → at < next → next ≤ length s → p next ≡ q next)
        → (t : Bool) → ltb at (length s) ≡ t
        → pick t (pick (eqb (sequence_at s at) 0) (Err at) (p (at + sequence_at s at))) (Ok tt)
        ≡ pick t (pick (eqb (sequence_at s at) 0) (Err at) (q (at + sequence_at s at))) (Ok tt)
    one at p q h true e = two at p q h (ltb-true at (length s) e) (eqb (sequence_at s at) 0) refl
    one at p q h false e = refl

pub well_formed_end : (s : List ℕ) (at : ℕ) → first_ill_formed s ≡ ill_formed_from s at → length s ≤ at → Ok tt ≡ first_ill_formed s
well_formed_end s at left h = sym (left ∙ ill_formed_at s at ∙ rw (le-ltb _ _ h))

-- in a well-formed text a sequence starts at each place where one should, and what follows it is well-formed
pub well_formed_next : (s : List ℕ) (at : ℕ) → ill_formed_from s at ≡ Ok tt → at < length s
    → (sequence_at s at ≡ 0 → ⊥) × (ill_formed_from s (at + sequence_at s at) ≡ Ok tt)
well_formed_next s at w inside = go (eqb (sequence_at s at) 0) refl (sym (ill_formed_at s at ∙ rw (lt-ltb _ _ inside)) ∙ w)
  where
    go : (t : Bool) → eqb (sequence_at s at) 0 ≡ t → pick t (Err at) (ill_formed_from s (at + sequence_at s at)) ≡ Ok tt
        → (sequence_at s at ≡ 0 → ⊥) × (ill_formed_from s (at + sequence_at s at) ≡ Ok tt)
    go true e h = absurd (let z : ◌≡◌ {A = ℕ} 0 1 = cc in omega arith)
    go false e h = (eqb-false (sequence_at s at) 0 e, h)
