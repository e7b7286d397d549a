-- Beyond plain bytes: any byte is a unit where bytes are; a well-formed sequence is a character in both forms of characters, where its first byte is none that a string literal may not hold. So what two texts have in common says nothing of whether they are the same,
-- up to the end of each sequence that ends among it.
use Prim.Native.Nat.{ℕ, zero, suc, ◌+◌, ◌-◌, ◌≤◌, ◌<◌}
use mathlib.Core.List.{List, ◌∷◌}
use mathlib.Core.Bool.{Bool, true, false, not, ◌&&◌}
use mathlib.Core.Path.{◌≡◌, refl, sym, ◌∙◌}
use native.Mathlib.Nat.{add-zero}
use native.Mathlib.Omega.{arith}
use lib.ListN.{length}
use lib.Dec.{eqb}
use borrow.Author.Tests.{eqb-true, eqb-false, eq-eqb, ne_eqb, not-false}
use Rattle.base.specs.Part.{byte_at, same_bytes}
use Rattle.base.proofs.Says.{and_both, apart}
use Rattle.base.proofs.Lists.{left_next}
use Rattle.scan.proofs.Alike.{part_same}
use Rattle.encoding.specs.WellFormed.{sequence_at}
use Rattle.encoding.specs.Scalar.{scalar_at}
use Rattle.encoding.specs.Blocks.{Reaches, here, onward, Walked}
use Rattle.encoding.proofs.Characters.{characters_next}
use Rattle.encoding.proofs.SameSequence.{same_sequence, same_scalar}
use Rattle.string_literal.specs.declared.InString.TheVariants.{Character}
use Rattle.string_literal.specs.Char.{raw_at, char_at}
use Rattle.string_literal.proofs.Ascii.{string_character}
use Rattle.value.specs.declared.unit.Form.{Form}
use Rattle.value.specs.declared.unit.Form.TheVariants.{Bytes, Utf8, Char16, Hex, Quoted, Encoded}
use Rattle.value.specs.declared.class.Class.{Class}
use Rattle.value.specs.declared.unit.Units.{Units}
use Rattle.value.specs.Unit.{units_from, units}
use Rattle.value.specs.Plain.{is_plain, is_in, is_bytes, is_utf8, is_characters, same_in, common_in, Common, Onward, Along}
use Rattle.value.proofs.Laws.{quoted_next}
use Rattle.value.proofs.PlainUnits.{plainly, Alone, common_onward}

-- a sequence whose first byte is of the class is a unit in the form
abbrev Characters : Class → Form → Type 0
Characters c f = (s : List ℕ) (at : ℕ) → at < length s → is_in c (byte_at s at) ≡ true → (sequence_at s at ≡ 0 → ⊥)
    → units_from f s at ≡ scalar_at s at ∷ units_from f s (at + sequence_at s at)

in_string : (s : List ℕ) (at : ℕ) → at < length s → is_plain 0xEE (byte_at s at) ≡ true → (sequence_at s at ≡ 0 → ⊥) → Character (scalar_at s at) (at + sequence_at s at) ≡ char_at s at
unfolding char_at raw_at
in_string s at i k z =
    let p = plainly 0xEE (byte_at s at) k in
    rw (ne_eqb (byte_at s at) 39 p.quote, ne_eqb (byte_at s at) 92 p.slash, ne_eqb (sequence_at s at) 0 z, string_character s at i z p.from (λ e. omega (arith, p.to)))

utf8_characters : (c : Class) (f : Form) → is_utf8 f ≡ true → Characters c f
unfolding units_from
utf8_characters c Bytes h s at i k z = absurd (apart h)
utf8_characters c Utf8 h s at i k z = characters_next s at z
utf8_characters c Char16 h s at i k z = absurd (apart h)
utf8_characters c Hex h s at i k z = absurd (apart h)
utf8_characters c Quoted h s at i k z = absurd (apart h)
utf8_characters c (Encoded n) h s at i k z = absurd (apart h)

plain_characters : (f : Form) → is_characters f ≡ true → Characters (record { any = false; high = 0xEE }) f
unfolding units_from
plain_characters Bytes h s at i k z = absurd (apart h)
plain_characters Utf8 h s at i k z = characters_next s at z
plain_characters Char16 h s at i k z = absurd (apart h)
plain_characters Hex h s at i k z = absurd (apart h)
plain_characters Quoted h s at i k z = quoted_next s at (in_string s at i k z) (scalar_at s at) (at + sequence_at s at) refl _ refl
plain_characters (Encoded n) h s at i k z = absurd (apart h)

-- any sequence where both forms are UTF-8, else those that a string literal has
module _ (f g : Form) (lefts : is_characters f ≡ true) (rights : is_characters g ≡ true) where
  both_characters : (any : Bool) → (is_utf8 f && is_utf8 g) ≡ any → Characters (record { any = any; high = 0xEE }) f × Characters (record { any = any; high = 0xEE }) g
  both_characters true e = let p = and_both (is_utf8 f) (is_utf8 g) e in (utf8_characters (record { any = true; high = 0xEE }) f p.0, utf8_characters (record { any = true; high = 0xEE }) g p.1)
  both_characters false e = (plain_characters f lefts, plain_characters g rights)

-- each byte of a common run
common_at : (c : Class) (a : List ℕ) (at : ℕ) (b : List ℕ) (beside n i : ℕ) → common_in c a at b beside n ≡ true → i < n → same_in c (byte_at a (at + i)) (byte_at b (beside + i)) ≡ true
unfolding common_in
common_at c a at b beside zero i h l = absurd (omega arith)
common_at c a at b beside (suc n) i h l =
    let both = and_both (common_in c a at b beside n) (same_in c (byte_at a (at + n)) (byte_at b (beside + n))) h in
    go (eqb i n) refl both.1 (common_at c a at b beside n i both.0)
  where
    go : (t : Bool) → eqb i n ≡ t → same_in c (byte_at a (at + n)) (byte_at b (beside + n)) ≡ true → (i < n → same_in c (byte_at a (at + i)) (byte_at b (beside + i)) ≡ true)
        → same_in c (byte_at a (at + i)) (byte_at b (beside + i)) ≡ true
    go true e last before = rw (eqb-true i n e) last
    go false e last before = let d = eqb-false i n e in before (omega arith)

reaches_begins : {s : List ℕ} {at p : ℕ} → Reaches s at p → at ≤ p
reaches_begins here = omega arith
reaches_begins (onward r z) = omega (arith, reaches_begins r)

module _ (c : Class) (f : Form) (a : List ℕ) (at : ℕ) (g : Form) (b : List ℕ) (beside : ℕ) (lefts : Characters c f) (rights : Characters c g) {n : ℕ} (run : Common c a at b beside n) where
  same_byte : (i : ℕ) → i < n → byte_at a (at + i) ≡ byte_at b (beside + i)
  same_byte i l = eqb-true _ _ (and_both (is_in c (byte_at a (at + i))) (eqb (byte_at a (at + i)) (byte_at b (beside + i))) (common_at c a at b beside n i run.common l)).1

  -- the same sequence on both sides
  one_onward : (i : ℕ) → (sequence_at a (at + i) ≡ 0 → ⊥) → i + sequence_at a (at + i) ≤ n
      → Onward (units_from f a (at + i)) (units_from g b (beside + i)) (units_from f a (at + i + sequence_at a (at + i))) (units_from g b (beside + i + sequence_at a (at + i)))
  unfolding same_bytes
  one_onward i z h =
      let l : i < n = omega arith in
      let x : at + i + sequence_at a (at + i) ≤ length a = omega (arith, run.within_left) in
      let y : beside + i + sequence_at a (at + i) ≤ length b = omega (arith, run.within_right) in
      let p = and_both (is_in c (byte_at a (at + i))) (eqb (byte_at a (at + i)) (byte_at b (beside + i))) (common_at c a at b beside n i run.common l) in
      let same = part_same a (at + i) b (beside + i) (sequence_at a (at + i)) x y (λ m o. moved m (omega arith)) in
      let s = same_sequence a (at + i) b (beside + i) same z in
      let v = same_scalar a (at + i) b (beside + i) same z in
      let left = lefts a (at + i) (omega arith) p.0 z in
      let right = rights b (beside + i) (omega arith) (rw (same_byte i l) at p.0) (λ q. z (sym s ∙ q)) in
      record { same = rw (left, right, s, v, eq-eqb (scalar_at a (at + i)) (scalar_at a (at + i)) refl); fewer = rw left (omega arith) }
    where
      moved : (m : ℕ) → i + m < n → byte_at a (at + i + m) ≡ byte_at b (beside + i + m)
      moved m o =
          let x : at + (i + m) ≡ at + i + m = omega arith in
          let y : beside + (i + m) ≡ beside + i + m = omega arith in
          rw (x, y) at (same_byte (i + m) o)

  further : (i j : ℕ) → Onward (units_from f a at) (units_from g b beside) (units_from f a (at + i)) (units_from g b (beside + i)) → (sequence_at a (at + i) ≡ 0 → ⊥)
      → i + sequence_at a (at + i) ≡ j → j ≤ n → Onward (units_from f a at) (units_from g b beside) (units_from f a (at + j)) (units_from g b (beside + j))
  further i j before z e h =
      let x : at + j ≡ at + i + sequence_at a (at + i) = omega arith in
      let y : beside + j ≡ beside + i + sequence_at a (at + i) = omega arith in
      let last = one_onward i z (omega arith) in
      rw (x, y) (record { same = before.same ∙ last.same; fewer = omega (arith, before.fewer, last.fewer) })

  -- the walk over the sequences of the first
  reached_onward : {k : ℕ} → Reaches a at k → (i : ℕ) → at + i ≡ k → i ≤ n → Onward (units_from f a at) (units_from g b beside) (units_from f a (at + i)) (units_from g b (beside + i))
  reached_onward here i e h = let z : i ≡ 0 = omega arith in rw (z, add-zero at, add-zero beside) (record { same = refl; fewer = omega arith })
  reached_onward (onward {p} r z) i e h =
      let l = reaches_begins r in
      let x : at + (p - at) ≡ p = omega arith in
      further (p - at) i (reached_onward r (p - at) x (omega arith)) (rw x z) (rw x (omega arith)) h

bytes_units : (c : Class) (f : Form) → is_bytes f ≡ true → Alone c f
unfolding units_from
bytes_units c Bytes h s at i k = left_next s at i
bytes_units c Utf8 h s at i k = absurd (apart h)
bytes_units c Char16 h s at i k = absurd (apart h)
bytes_units c Hex h s at i k = absurd (apart h)
bytes_units c Quoted h s at i k = absurd (apart h)
bytes_units c (Encoded n) h s at i k = absurd (apart h)

-- ---- as the code meets them
module _ (x y : Units) where
  pub no_characters : Along x y 0
  no_characters =
      record { within_left = omega arith; within_right = omega arith; onward = rw (add-zero x.at, add-zero y.at) (record { same = refl; fewer = omega arith }) }

  pub bytes_skipped : {l r : Bool} → l ≡ is_bytes x.form → r ≡ is_bytes y.form → (l && r) ≡ true → {n : ℕ} → Common (record { any = true; high = 0xEE }) x.bytes.now x.at y.bytes.now y.at n → Along x y n
  bytes_skipped {l} {r} lefts rights test {n} run =
      let both = and_both l r test in
      let c : Class = record { any = true; high = 0xEE } in
      record {
        within_left = run.within_left;
        within_right = run.within_right;
        onward = common_onward c x.form x.bytes.now x.at y.form y.bytes.now y.at (bytes_units c x.form (sym lefts ∙ both.0)) (bytes_units c y.form (sym rights ∙ both.1)) n run.within_left run.within_right run.common;
      }

  module _ {l r : Bool} (lefts : l ≡ is_characters x.form) (rights : r ≡ is_characters y.form) (test : not (l && r) ≡ false) {t u : Bool} (utf8-left : t ≡ is_utf8 x.form) (utf8-right : u ≡ is_utf8 y.form) {n : ℕ}
      (run : Common (record { any = t && u; high = 0xEE }) x.bytes.now x.at y.bytes.now y.at n) where
    pub characters_skipped : {k : ℕ} → Walked x.bytes.now x.at (x.at + n) k → Along x y (k - x.at)
    characters_skipped {k} walk =
        let both = and_both l r (not-false (l && r) test) in
        let v = both_characters x.form y.form (sym lefts ∙ both.0) (sym rights ∙ both.1) (t && u) (rw (← utf8-left, ← utf8-right)) in
        let few : k - x.at ≤ n = omega (arith, walk.ends) in
        record {
          within_left = omega (arith, run.within_left);
          within_right = omega (arith, run.within_right);
          onward = reached_onward (record { any = t && u; high = 0xEE }) x.form x.bytes.now x.at y.form y.bytes.now y.at v.0 v.1 run walk.reaches (k - x.at) (omega (arith, walk.begins)) few;
        }

-- plain bytes, then characters
pub skipped_further : {us vs : List ℕ} {x y : Units} → Onward us vs (units x) (units y) → {n : ℕ} → Along x y n → {us' vs' : List ℕ} → us' ≡ units_from x.form x.bytes.now (x.at + n)
    → vs' ≡ units_from y.form y.bytes.now (y.at + n) → Onward us vs us' vs'
skipped_further before along e f =
    let after = along.onward in
    rw (e, f) (record { same = before.same ∙ after.same; fewer = omega (arith, before.fewer, after.fewer) })
