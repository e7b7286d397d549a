-- Where each byte of a run that is no continuation starts a sequence that no further one follows, the walk over the sequences comes to each of them. Assumes nothing.
use Prim.Native.Nat.{ℕ, zero, suc, ◌+◌, ◌-◌, ◌≤◌, ◌<◌}
use mathlib.Core.List.{List}
use mathlib.Core.Bool.{Bool, true, false, not, ◌&&◌, ◌||◌}
use mathlib.Core.Path.{◌≡◌, refl, sym, ◌∙◌}
use native.Mathlib.Numerals.{add-one}
use native.Mathlib.Nat.{add-zero}
use native.Mathlib.Omega.{arith}
use lib.ListN.{length, get_or}
use lib.Dec.{ltb, leb, eqb}
use borrow.Author.Tests.{ltb-true, ltb-false, leb-true, eqb-true, eqb-false, eq-eqb, not-true, not-false}
use Rattle.base.specs.Part.{byte_at}
use Rattle.base.specs.Range.{within}
use Rattle.base.proofs.Lists.{left_next, byte_within}
use Rattle.base.proofs.Says.{and_both, apart}
use Rattle.encoding.specs.WellFormed.{in_range, fits, sequence_at}
use Rattle.encoding.specs.Blocks.{Reaches, here, onward, is_continuation, of_one, of_two, of_three, whole_at, all_whole, WholeRun, LastStart, Moved}
use Rattle.encoding.proofs.WellFormed.{continuations, single, by_second, lead_ascii, lead_two, lead_three}
use Rattle.encoding.proofs.Encoding.{second}

-- a sequence at a place, its bytes after the first, and the byte behind it
record Starts (s : List ℕ) (p : ℕ) : Type 0 where
  some : sequence_at s p ≡ 0 → ⊥
  inner : (i : ℕ) → 0 < i → i < sequence_at s p → is_continuation (byte_at s (p + i)) ≡ true
  after : is_continuation (byte_at s (p + sequence_at s p)) ≡ false

starts_of : (s : List ℕ) (p n : ℕ) → sequence_at s p ≡ n → 0 < n → ((i : ℕ) → 0 < i → i < n → is_continuation (byte_at s (p + i)) ≡ true) → is_continuation (byte_at s (p + n)) ≡ false
    → Starts s p
starts_of s p n e l inner after = record { some = λ z. absurd (omega arith); inner = λ i a b. inner i a (omega arith); after = rw e after }

bounds : (low high b : ℕ) → within low high b ≡ true → (low ≤ b) × (b ≤ high)
unfolding within
bounds low high b h = let p = and_both (leb low b) (leb b high) h in (leb-true low b p.0, leb-true b high p.1)

either : (b k : ℕ) (t : Bool) → (not (eqb b k) || t) ≡ true → b ≡ k → t ≡ true
either b k t h e = go (eqb b k) (eq-eqb b k e) h
  where
    go : (u : Bool) → u ≡ true → (not u || t) ≡ true → t ≡ true
    go true f h = h
    go false f h = absurd (apart f)

module _ (s : List ℕ) (p : ℕ) (inside : p < length s) where
  one : of_one (byte_at s p) (byte_at s (p + 1)) ≡ true → Starts s p
  one h =
      let q = and_both (ltb (byte_at s p) 0x80) (not (is_continuation (byte_at s (p + 1)))) h in
      let low : get_or s p 0 < 0x80 = ltb-true _ _ q.0 in
      let byte : get_or s p 0 < 256 = omega arith in
      starts_of s p 1 (sym (single s p inside byte 1 (lead_ascii _ byte low) (omega arith))) (omega arith) (λ i a b. absurd (omega arith)) (not-true _ q.1)

  -- a continuation byte is within the text
  there : (i : ℕ) → is_continuation (byte_at s (p + i)) ≡ true → (p + i < length s) × ((0x80 ≤ byte_at s (p + i)) × (byte_at s (p + i) ≤ 0xBF))
  there i h = let b = bounds 0x80 0xBF (byte_at s (p + i)) h in (byte_within s (p + i) (λ z. omega (arith, b.0)), b)

  two : of_two (byte_at s p) (byte_at s (p + 1)) (byte_at s (p + 2)) ≡ true → Starts s p
  unfolding fits continuations
  two h =
      let o = and_both (within 0xC2 0xDF (byte_at s p) && is_continuation (byte_at s (p + 1))) (not (is_continuation (byte_at s (p + 2)))) h in
      let q = and_both (within 0xC2 0xDF (byte_at s p)) (is_continuation (byte_at s (p + 1))) o.0 in
      let b = bounds 0xC2 0xDF (byte_at s p) q.0 in
      let c = there 1 q.1 in
      let byte : byte_at s p < 256 = omega (arith, b.1) in
      let w = second (byte_at s p) (byte_at s (p + 1)) byte c.1.0 c.1.1 (λ e. omega (arith, b.1)) (λ e. omega (arith, b.1)) (λ e. omega (arith, b.1)) (λ e. omega (arith, b.1)) in
      starts_of s p 2
      (by_second s p inside byte 2 (lead_two (byte_at s p) byte (omega (arith, b.0)) b.0 (omega (arith, b.1))) (omega (arith, c.0)) (omega arith) ∙ rw w)
      (omega arith) (λ i x y. let e : i ≡ 1 = omega arith in rw e q.1) (not-true _ o.1)

  three : of_three (byte_at s p) (byte_at s (p + 1)) (byte_at s (p + 2)) (byte_at s (p + 3)) ≡ true → Starts s p
  unfolding fits in_range continuations
  three h =
      let b0 = byte_at s p in
      let b1 = byte_at s (p + 1) in
      let b2 = byte_at s (p + 2) in
      let e0 = not (eqb b0 0xE0) || leb 0xA0 b1 in
      let ed = not (eqb b0 0xED) || leb b1 0x9F in
      let o = and_both (((within 0xE0 0xEF b0 && (e0 && ed)) && is_continuation b1) && is_continuation b2) (not (is_continuation (byte_at s (p + 3)))) h in
      let q = and_both ((within 0xE0 0xEF b0 && (e0 && ed)) && is_continuation b1) (is_continuation b2) o.0 in
      let r = and_both (within 0xE0 0xEF b0 && (e0 && ed)) (is_continuation b1) q.0 in
      let t = and_both (within 0xE0 0xEF b0) (e0 && ed) r.0 in
      let u = and_both e0 ed t.1 in
      let b = bounds 0xE0 0xEF b0 t.0 in
      let c = there 1 r.1 in
      let d = there 2 q.1 in
      let byte : b0 < 256 = omega (arith, b.1) in
      let w = second b0 b1 byte c.1.0 c.1.1 (λ e. leb-true 0xA0 b1 (either b0 0xE0 (leb 0xA0 b1) u.0 e)) (λ e. omega (arith, b.1)) (λ e. leb-true b1 0x9F (either b0 0xED (leb b1 0x9F) u.1 e)) (λ e. omega (arith, b.1)) in
      starts_of s p 3
      (by_second s p inside byte 3 (lead_three b0 byte (omega (arith, b.0)) (omega (arith, b.0)) b.0 (omega (arith, b.1))) (omega (arith, d.0)) (omega arith) ∙ rw (w, left_next s (p + 2) d.0, q.1))
      (omega arith) (λ i x y. inner r.1 q.1 i x y (eqb i 1) refl) (not-true _ o.1)
    where
      inner : is_continuation (byte_at s (p + 1)) ≡ true → is_continuation (byte_at s (p + 2)) ≡ true → (i : ℕ) → 0 < i → i < 3 → (t : Bool) → eqb i 1 ≡ t → is_continuation (byte_at s (p + i)) ≡ true
      inner c d i x y true e = rw (eqb-true i 1 e) c
      inner c d i x y false e = let n = eqb-false i 1 e in let z : i ≡ 2 = omega arith in rw z d

  starts : whole_at s p ≡ true → is_continuation (byte_at s p) ≡ false → Starts s p
  starts h k = go (of_one (byte_at s p) (byte_at s (p + 1))) refl (of_two (byte_at s p) (byte_at s (p + 1)) (byte_at s (p + 2))) refl (rw k at h)
    where
      go : (t : Bool) → of_one (byte_at s p) (byte_at s (p + 1)) ≡ t → (u : Bool) → of_two (byte_at s p) (byte_at s (p + 1)) (byte_at s (p + 2)) ≡ u
          → ((t || u) || of_three (byte_at s p) (byte_at s (p + 1)) (byte_at s (p + 2)) (byte_at s (p + 3))) ≡ true → Starts s p
      go true e u f h = one e
      go false e true f h = two f
      go false e false f h = three h

-- one place more of a run, one run behind another, and each place of it
pub whole_more : (s : List ℕ) (at i : ℕ) {all d : Bool} → all ≡ all_whole s at i → d ≡ whole_at s (at + i) → (all && d) ≡ all_whole s at (i + 1)
unfolding all_whole
whole_more s at i e f = rw (add-one i, ← e, ← f)

whole_joined : (s : List ℕ) (at n m : ℕ) → all_whole s at n ≡ true → all_whole s (at + n) m ≡ true → all_whole s at (n + m) ≡ true
unfolding all_whole
whole_joined s at n zero h k = rw (add-zero n) h
whole_joined s at n (suc m) h k =
    let p = and_both (all_whole s (at + n) m) (whole_at s (at + n + m)) k in
    let e : n + suc m ≡ suc (n + m) = omega arith in
    let x : at + n + m ≡ at + (n + m) = omega arith in
    rw (e, whole_joined s at n m h p.0, ← x) p.1

whole_in_law : (s : List ℕ) (at n i : ℕ) → all_whole s at n ≡ true → i < n → whole_at s (at + i) ≡ true
unfolding all_whole
whole_in_law s at zero i h l = absurd (omega arith)
whole_in_law s at (suc n) i h l =
    let both = and_both (all_whole s at n) (whole_at s (at + n)) h in
    go (eqb i n) refl both.1 (whole_in_law s at n i both.0)
  where
    go : (t : Bool) → eqb i n ≡ t → whole_at s (at + n) ≡ true → (i < n → whole_at s (at + i) ≡ true) → whole_at s (at + i) ≡ true
    go true e last before = rw (eqb-true i n e) last
    go false e last before = let d = eqb-false i n e in before (omega arith)

-- the walk comes to each start
module _ (s : List ℕ) (at end : ℕ) (within_text : end < length s) (whole : all_whole s at (end - at) ≡ true) (e : ℕ) (last : e ≤ end) (start : is_continuation (byte_at s e) ≡ false) where
  starts_at : (p : ℕ) → at ≤ p → p < e → is_continuation (byte_at s p) ≡ false → Starts s p
  starts_at p a l k =
      let x : at + (p - at) ≡ p = omega arith in
      starts s p (omega arith) (rw x at (whole_in_law s at (end - at) (p - at) whole (omega arith))) k

  not_over : (p : ℕ) → p < e → Starts s p → p + sequence_at s p ≤ e
  not_over p l st = go (ltb e (p + sequence_at s p)) refl
    where
      go : (t : Bool) → ltb e (p + sequence_at s p) ≡ t → p + sequence_at s p ≤ e
      go true x =
          let m = ltb-true e (p + sequence_at s p) x in
          let y : p + (e - p) ≡ e = omega arith in
          absurd (apart (sym start ∙ rw y at (st.inner (e - p) (omega arith) (omega arith))))
      go false x = ltb-false e (p + sequence_at s p) x

  walk : (f p : ℕ) → e - p < f → at ≤ p → p ≤ e → is_continuation (byte_at s p) ≡ false → Reaches s at p → Reaches s at e
  walk zero p h a b k r = absurd (omega arith)
  walk (suc f) p h a b k r =
      go (ltb p e) refl
      (λ l.
      let st = starts_at p a l k in
      let o = not_over p l st in
      let z = st.some in
      walk f (p + sequence_at s p) (omega arith) (omega arith) o st.after (onward r z))
    where
      go : (t : Bool) → ltb p e ≡ t → (p < e → Reaches s at e) → Reaches s at e
      go true x again = again (ltb-true p e x)
      go false x again = let m = ltb-false p e x in let z : p ≡ e = omega arith in rw z at r

-- ---- as the code meets them
module _ (s : List ℕ) (at stop end : ℕ) (some : at < stop) (begins : at ≤ end) (ends : end < stop) (whole : all_whole s at (end - at) ≡ true) where
  pub run_ends : WholeRun s at stop end
  run_ends = record { begins = begins; ends = ends; whole = whole }

  pub run_more : {r : Bool} → r ≡ all_whole s end 16 → not r ≡ false → all_whole s at (end + 16 - at) ≡ true
  run_more {r} e h =
      let x : end + 16 - at ≡ end - at + 16 = omega arith in
      let y : at + (end - at) ≡ end = omega arith in
      rw x (whole_joined s at (end - at) 16 whole (rw y (sym e ∙ not-false r h)))

pub no_run : (s : List ℕ) (at : ℕ) → all_whole s at (at - at) ≡ true
unfolding all_whole
no_run s at = let z : at - at ≡ 0 = omega arith in rw z

module _ (s : List ℕ) (at end start : ℕ) (begins : at ≤ start) (ends : start ≤ end) where
  pub start_found : {r : Bool} → r ≡ is_continuation (byte_at s start) → not r ≡ true → LastStart s at end start
  start_found {r} e h = record { begins = begins; ends = ends; is = λ z. sym e ∙ not-true r h }

  pub start_none : start ≤ at → LastStart s at end start
  start_none h = record { begins = begins; ends = ends; is = λ z. absurd (z (omega arith)) }

module _ (s : List ℕ) (at stop : ℕ) (some : at < stop) (within_text : stop ≤ length s) {c : Bool} (test : c ≡ is_continuation (byte_at s at)) where
  pub whole_stays : c ≡ true → Moved s at stop at
  whole_stays h = record { reaches = here; begins = omega arith; ends = omega arith }

  pub whole_moved : c ≡ false → {end start : ℕ} → WholeRun s at stop end → LastStart s at end start → Moved s at stop start
  whole_moved h {end} {start} run last =
      record {
        reaches = go (eqb start at) refl;
        begins = last.begins;
        ends = omega (arith, last.ends, run.ends);
      }
    where
      first : is_continuation (byte_at s at) ≡ false
      first = sym test ∙ h

      go : (t : Bool) → eqb start at ≡ t → Reaches s at start
      go true e = rw (eqb-true start at e) here
      go false e =
          walk s at end (omega (arith, run.ends)) run.whole start last.ends (last.is (eqb-false start at e)) (suc (start - at)) at (omega arith) (omega arith) last.begins first here
