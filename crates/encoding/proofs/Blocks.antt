-- Blocks of a text: the walk over its sequences, and ASCII bytes, which are passed as many at a time as one likes. Assumes nothing.
use Prim.Native.Nat.{ℕ, zero, suc, ◌+◌, ◌-◌, ◌≤◌, ◌<◌, min}
use mathlib.Core.List.{List, [], ◌∷◌}
use mathlib.Core.Bool.{Bool, true, false, not, ◌&&◌, ◌||◌}
use mathlib.Core.Path.{◌≡◌, refl, sym, ap, ◌∙◌}
use native.Mathlib.Numerals.{add-one}
use native.Mathlib.Nat.{add-zero}
use native.Mathlib.Omega.{arith}
use lib.Seq.{drop-drop, take_all}
use lib.ListN.{length, get_or, take, drop, length-drop}
use lib.Dec.{ltb, leb, eqb}
use borrow.Author.Tests.{ltb-true, ltb-false, leb-true, eqb-true, eqb-false, eq-eqb, ne_eqb, lt-ltb, not-false}
use Rattle.base.specs.Part.{byte_at}
use Rattle.base.specs.Pick.{pick}
use Rattle.base.proofs.Says.{and_both, or_neither, apart}
use Rattle.std.specs.Prelude.{Ok, Err}
use Rattle.encoding.specs.WellFormed.{Range, table, fits, sequence_in, sequence_at, ill_formed_from, first_ill_formed}
use Rattle.encoding.specs.Blocks.{all_ascii, EndsAscii, Reaches, here, onward, Passed, Walked, Moved}
use Rattle.encoding.proofs.WellFormed.{lead_ascii, single, ill_formed_at, sequence_fits, past_end, well_formed_end}

-- one byte more of a run
pub ascii_more : (s : List ℕ) (at i : ℕ) {all : Bool} → all ≡ all_ascii s at i → (all && ltb (byte_at s (at + i)) 0x80) ≡ all_ascii s at (i + 1)
unfolding all_ascii
ascii_more s at i e = rw (add-one i, ← e)

-- each byte of a run, and a run by each of its bytes
ascii_in : (s : List ℕ) (at n i : ℕ) → all_ascii s at n ≡ true → i < n → ltb (byte_at s (at + i)) 0x80 ≡ true
unfolding all_ascii
ascii_in s at zero i e l = absurd (omega arith)
ascii_in s at (suc n) i e l =
    let both = and_both (all_ascii s at n) (ltb (byte_at s (at + n)) 0x80) e in
    go (eqb i n) refl both.1 (ascii_in s at n i both.0)
  where
    go : (t : Bool) → eqb i n ≡ t → ltb (byte_at s (at + n)) 0x80 ≡ true → (i < n → ltb (byte_at s (at + i)) 0x80 ≡ true) → ltb (byte_at s (at + i)) 0x80 ≡ true
    go true f last before = rw (eqb-true i n f) last
    go false f last before = let d = eqb-false i n f in before (omega arith)

ascii_of : (s : List ℕ) (at n : ℕ) → ((i : ℕ) → i < n → ltb (byte_at s (at + i)) 0x80 ≡ true) → all_ascii s at n ≡ true
unfolding all_ascii
ascii_of s at zero h = refl
ascii_of s at (suc n) h = rw (ascii_of s at n (λ i l. h i (omega arith))) (h n (omega arith))

-- the byte at `i` of a run from `from` on
ascii_at : (s : List ℕ) (from n i : ℕ) → all_ascii s from n ≡ true → from ≤ i → i < from + n → ltb (byte_at s i) 0x80 ≡ true
ascii_at s from n i e l m = let k : from + (i - from) ≡ i = omega arith in rw k at (ascii_in s from n (i - from) e (omega arith))

module _ (s : List ℕ) (n : ℕ) where
  pub ends_block : {r : Bool} → 16 ≤ length s → n < 16 → r ≡ all_ascii s (length s - 16) 16 → EndsAscii s n r
  ends_block long few e told within =
      ascii_of s (length s - n) n (λ i l. ascii_at s (length s - 16) 16 (length s - n + i) (sym e ∙ told) (omega arith) (omega arith))

  pub ends_two : (k : ℕ) {p q : Bool} → k ≤ length s → length s ≤ k + k → p ≡ all_ascii s 0 k → q ≡ all_ascii s (length s - k) k → EndsAscii s n (p && q)
  ends_two k {p} {q} long short e f told within = ascii_of s (length s - n) n (λ i l. go (length s - n + i) (omega arith) (ltb (length s - n + i) k) refl)
    where
      both : (p ≡ true) × (q ≡ true)
      both = and_both p q told

      go : (j : ℕ) → j < length s → (t : Bool) → ltb j k ≡ t → ltb (byte_at s j) 0x80 ≡ true
      go j l true h = ascii_at s 0 k j (sym e ∙ both.0) (omega arith) (omega (arith, ltb-true j k h))
      go j l false h = ascii_at s (length s - k) k j (sym f ∙ both.1) (omega (arith, ltb-false j k h)) (omega arith)

  pub ends_untold : EndsAscii s n false
  ends_untold told within = absurd (apart told)

-- ---- the walk

-- a sequence has at most 4 bytes
short_rows : List (List Range) → Bool
short_rows [] = true
short_rows (row ∷ rows) = leb (length row) 4 && short_rows rows

short_in : (rows : List (List Range)) → short_rows rows ≡ true → (s : List ℕ) → sequence_in rows s ≤ 4
unfolding short_rows sequence_in
short_in [] h s = omega arith
short_in (row ∷ rows) h s =
    let p = and_both (leb (length row) 4) (short_rows rows) h in
    go (fits row s) (leb-true (length row) 4 p.0) (short_in rows p.1 s)
  where
    go : (t : Bool) → length row ≤ 4 → sequence_in rows s ≤ 4 → pick t (length row) (sequence_in rows s) ≤ 4
    go true l m = l
    go false l m = m

sequence_short : (s : List ℕ) (at : ℕ) → sequence_at s at ≤ 4
unfolding sequence_at short_rows
sequence_short s at = short_in table refl _

reaches_on : (s : List ℕ) (at p n : ℕ) → Reaches s at p → n ≡ sequence_at s p → (n ≡ 0 → ⊥) → Reaches s at (p + n)
reaches_on s at p n r e z = rw e (onward r (λ y. z (e ∙ y)))

reaches_joined : {s : List ℕ} {at p q : ℕ} → Reaches s at p → Reaches s p q → Reaches s at q
reaches_joined r here = r
reaches_joined r (onward t z) = onward (reaches_joined r t) z

-- what is ill-formed from one place is so from the other
one_passed : (s : List ℕ) (at : ℕ) → at < length s → (sequence_at s at ≡ 0 → ⊥) → ill_formed_from s at ≡ ill_formed_from s (at + sequence_at s at)
one_passed s at inside z = ill_formed_at s at ∙ rw (lt-ltb _ _ inside, ne_eqb _ _ z)

reaches_same : (s : List ℕ) (at next : ℕ) → Reaches s at next → next ≤ length s → ill_formed_from s at ≡ ill_formed_from s next
reaches_same s at next here h = refl
reaches_same s at next (onward {p} r z) h = reaches_same s at p r (omega arith) ∙ one_passed s p (omega arith) z

-- over a run of ASCII bytes it moves on by as many
ascii_reached : (s : List ℕ) (at n : ℕ) → n ≤ length s - at → all_ascii s at n ≡ true → Reaches s at (at + n)
unfolding all_ascii
ascii_reached s at zero h e = rw (add-zero at) here
ascii_reached s at (suc n) h e =
    let both = and_both (all_ascii s at n) (ltb (byte_at s (at + n)) 0x80) e in
    let low : get_or s (at + n) 0 < 0x80 = ltb-true _ _ both.1 in
    let byte : get_or s (at + n) 0 < 256 = omega arith in
    let one = single s (at + n) (omega arith) byte 1 (lead_ascii _ byte low) (omega arith) in
    let next : at + n + 1 ≡ at + suc n = omega arith in
    rw next at (reaches_on s at (at + n) 1 (ascii_reached s at n (omega arith) both.0) one (λ z. absurd (omega arith)))

-- ---- as the code meets them
module _ (s : List ℕ) (at stop n : ℕ) (some : 0 < n) (enough : n ≤ stop - at) (within : stop ≤ length s) {r : Bool} (test : r ≡ all_ascii s at n) (all : r ≡ true) where
  pub block_passed : Passed s at stop (at + n)
  block_passed =
      record { reaches = ascii_reached s at n (omega arith) (sym test ∙ all); begins = omega arith; ends = omega arith; stays = λ e. absurd (omega arith) }

pub moved_passed : (s : List ℕ) (at stop next : ℕ) → Moved s at stop next → (next ≡ at → ⊥) → Passed s at stop next
moved_passed s at stop next m n = record { reaches = m.reaches; begins = m.begins; ends = m.ends; stays = λ e. absurd (n e) }

-- a nearer stop that is 4 bytes on at least
pub nearer_passed : (s : List ℕ) (at near stop next : ℕ) → at + 4 ≤ near → near ≤ stop → Passed s at near next → Passed s at stop next
nearer_passed s at near stop next far l p =
    record { reaches = p.reaches; begins = p.begins; ends = omega (arith, p.ends); stays = λ e h. p.stays e (omega (arith, sequence_short s at)) }

module _ (s : List ℕ) (at stop next : ℕ) (some : at < stop) (begins : at ≤ next) (ends : next ≤ stop) (walk : Reaches s at next) where
  module _ (more : next < stop) {n : ℕ} (sequence : n ≡ sequence_at s next) where
    pub sequences_stop : (eqb n 0 || ltb (stop - next) n) ≡ true → Passed s at stop next
    sequences_stop t = record { reaches = walk; begins = begins; ends = ends; stays = λ e h. go e (rw (← e, ← sequence) at h) (eqb n 0) refl t }
      where
        go : next ≡ at → n ≤ stop - next → (c : Bool) → eqb n 0 ≡ c → (c || ltb (stop - next) n) ≡ true → sequence_at s at ≡ 0
        go e h true f t = rw (← e, ← sequence) (eqb-true n 0 f)
        go e h false f t = absurd (omega (arith, ltb-true (stop - next) n t))

    pub sequences_more : (eqb n 0 || ltb (stop - next) n) ≡ false → Reaches s at (next + n)
    sequences_more t = reaches_on s at next n walk sequence (eqb-false n 0 (or_neither (eqb n 0) (ltb (stop - next) n) t).0)

    pub sequence_ends : (eqb n 0 || ltb (stop - next) n) ≡ false → next + n ≤ stop
    sequence_ends t = omega (arith, ltb-false (stop - next) n (or_neither (eqb n 0) (ltb (stop - next) n) t).1)

    pub sequence_some : (eqb n 0 || ltb (stop - next) n) ≡ false → 0 < n
    sequence_some t = let z = eqb-false n 0 (or_neither (eqb n 0) (ltb (stop - next) n) t).0 in omega arith

  pub sequences_end : stop ≤ next → Passed s at stop next
  sequences_end h = record { reaches = walk; begins = begins; ends = ends; stays = λ e. absurd (omega arith) }

-- the walk, block by block
module _ (s : List ℕ) (at stop end next : ℕ) (until : end ≡ min (length s) stop) (begins : at ≤ next) (ends : next - at ≤ end - at) (walk : Reaches s at next) where
  module _ (more : next < end) {then : ℕ} (block : Passed s next end then) where
    pub walk_stays : then ≡ next → Walked s at stop next
    walk_stays e =
        record { reaches = walk; begins = begins; ends = omega arith; stuck = λ l h. block.stays e (omega (arith, sequence_fits s next)) }

    pub walk_next : Reaches s at then
    walk_next = reaches_joined walk block.reaches

    pub walk_moves : (then ≡ next → ⊥) → end - then < end - next
    walk_moves n = omega (arith, block.begins, block.ends)

    pub walk_begins : at ≤ then
    walk_begins = omega (arith, block.begins)

    pub walk_within : then - at ≤ end - at
    walk_within = omega (arith, block.begins, block.ends)

  pub walk_ends : end ≤ next → Walked s at stop next
  walk_ends h = record { reaches = walk; begins = begins; ends = omega arith; stuck = λ l k. sym (past_end s next (omega arith)) }

-- the check: ASCII first, then the walk
module _ (s : List ℕ) (next : ℕ) (ends : next ≤ length s) (walk : Reaches s 0 next) where
  pub ascii_stops : Moved s 0 (length s) next
  ascii_stops = record { reaches = walk; begins = omega arith; ends = ends }

  ascii_further : (n : ℕ) → n ≤ length s - next → all_ascii s next n ≡ true → Reaches s 0 (next + n)
  ascii_further n h e = reaches_joined walk (ascii_reached s next n h e)

  pub ascii_next : 16 ≤ length s - next → {r : Bool} → r ≡ all_ascii s next 16 → not r ≡ false → Reaches s 0 (next + 16)
  ascii_next h e t = ascii_further 16 h (sym e ∙ not-false _ t)

  pub ascii_ends : {r : Bool} → EndsAscii s (length s - next) r → r ≡ true → Moved s 0 (length s) (length s)
  ascii_ends e told =
      let from : length s - (length s - next) ≡ next = omega arith in
      let to : next + (length s - next) ≡ length s = omega arith in
      let all = rw from at (e told (omega arith)) in
      record { reaches = rw to at (ascii_further (length s - next) (omega arith) all); begins = omega arith; ends = omega arith }

-- a sequence of what is left of a text is the text's
sequence_dropped : (s : List ℕ) (k p : ℕ) → sequence_at (drop k s) p ≡ sequence_at s (k + p)
unfolding sequence_at
sequence_dropped s k p = ap (sequence_in table) (drop-drop p k s)

reaches_dropped : (s : List ℕ) (k : ℕ) {p : ℕ} → Reaches (drop k s) 0 p → Reaches s k (k + p)
reaches_dropped s k here = rw (add-zero k) here
reaches_dropped s k (onward {p} r z) =
    let n = sequence_at (drop k s) p in
    let e : k + p + n ≡ k + (p + n) = omega arith in
    rw e at (reaches_on s k (k + p) n (reaches_dropped s k r) (sequence_dropped s k p) z)

module _ (s : List ℕ) {start : ℕ} (ascii : Moved s 0 (length s) start) where
  pub ascii_found : length s ≤ start → Ok tt ≡ first_ill_formed s
  ascii_found h = well_formed_end s start (reaches_same s 0 start ascii.reaches ascii.ends) h

  -- what is left, as the code cuts it off
  module _ {end : ℕ} (walk : Walked (take (length s - start) (drop start s)) 0 (length (take (length s - start) (drop start s))) end) where
    left : length (drop start s) ≡ length s - start
    left = length-drop start s

    all_left : take (length s - start) (drop start s) ≡ drop start s
    all_left = take_all (length s - start) (drop start s) (omega (arith, left))

    further : Walked (drop start s) 0 (length (drop start s)) end
    further = rw all_left at walk

    same : ill_formed_from s 0 ≡ ill_formed_from s (start + end)
    same =
        reaches_same s 0 (start + end) (reaches_joined ascii.reaches (reaches_dropped s start further.reaches)) (omega (arith, left, further.ends, ascii.ends))

    pub ill_formed_found : end < length (take (length s - start) (drop start s)) → Err (start + end) ≡ first_ill_formed s
    ill_formed_found h =
        let more : end < length (drop start s) = rw all_left at h in
        let none : sequence_at s (start + end) ≡ 0 = sym (sequence_dropped s start end) ∙ further.stuck more (sequence_fits (drop start s) end) in
        let inside : start + end < length s = omega (arith, left, more) in
        sym (same ∙ ill_formed_at s (start + end) ∙ rw (lt-ltb _ _ inside, eq-eqb _ _ none))

    pub well_formed_found : length (take (length s - start) (drop start s)) ≤ end → Ok tt ≡ first_ill_formed s
    well_formed_found h =
        let over : length (drop start s) ≤ end = rw all_left at h in
        well_formed_end s (start + end) same (omega (arith, left, over))
