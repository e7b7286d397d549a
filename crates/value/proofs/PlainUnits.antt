-- A plain byte is its own unit in each bytewise form, so a run of them that both sides have says nothing of whether the units are the same, and two that differ say that they aren't.
use Prim.Native.Nat.{ℕ, zero, suc, ◌+◌, ◌-◌, ◌≤◌, ◌<◌}
use mathlib.Core.List.{List, ◌∷◌}
use mathlib.Core.Bool.{Bool, true, false, not, ◌&&◌}
use mathlib.Core.Path.{◌≡◌, refl, sym, ◌∙◌}
use native.Mathlib.Numerals.{add-one}
use native.Mathlib.Nat.{add-zero}
use native.Mathlib.Omega.{arith}
use lib.ListN.{length}
use lib.Dec.{eqb, leb}
use borrow.Author.Tests.{eqb-true, ne_eqb, eq-eqb, le-leb, leb-true, not-true, not-false}
use Rattle.std.specs.Prelude.{Option, Some, None}
use Rattle.base.specs.Part.{byte_at, same_bytes}
use Rattle.base.specs.Range.{within}
use Rattle.base.proofs.Says.{and_both, apart}
use Rattle.base.proofs.Lists.{left_next, byte_within}
use Rattle.encoding.specs.WellFormed.{sequence_at}
use Rattle.encoding.specs.Scalar.{scalar_at}
use Rattle.encoding.proofs.Characters.{characters_next}
use Rattle.string_literal.specs.declared.InString.TheVariants.{Character}
use Rattle.string_literal.specs.Char.{unicode_char, raw_at, char_at}
use Rattle.string_literal.proofs.Ascii.{low_byte}
use Rattle.value.specs.declared.unit.Form.{Form}
use Rattle.value.specs.declared.unit.Form.TheVariants.{Bytes, Utf8, Char16, Hex, Quoted, Encoded}
use Rattle.value.specs.declared.class.Class.{Class}
use Rattle.value.specs.declared.unit.Units.{Units}
use Rattle.value.specs.declared.same.Pair.{Pair}
use Rattle.value.specs.declared.same.Pair.TheVariants.{Same, Differ, Ended}
use Rattle.value.specs.Unit.{units_from, units}
use Rattle.value.specs.Plain.{is_plain, is_in, plain_class, is_bytewise, same_in, other_plain, common_in, Common, Onward, Skips, Pairs}
use Rattle.value.proofs.Laws.{quoted_next, encoded_last, one_length, one_byte}

-- what a plain byte is
pub record Plainly (high b : ℕ) : Type 0 where
  pub from : 0x20 ≤ b
  pub to : b ≤ high
  pub quote : b ≡ 39 → ⊥
  pub slash : b ≡ 92 → ⊥

pub plainly : (high b : ℕ) → is_plain high b ≡ true → Plainly high b
unfolding is_plain within
plainly high b h =
    let p = and_both ((leb 0x20 b && leb b high) && not (eqb b 39)) (not (eqb b 92)) h in
    let q = and_both (leb 0x20 b && leb b high) (not (eqb b 39)) p.0 in
    let r = and_both (leb 0x20 b) (leb b high) q.0 in
    record {
      from = leb-true 0x20 b r.0;
      to = leb-true b high r.1;
      quote = λ e. apart (sym (not-true _ q.1) ∙ eq-eqb b 39 e);
      slash = λ e. apart (sym (not-true _ p.1) ∙ eq-eqb b 92 e);
    }

module _ (s : List ℕ) (at : ℕ) (plain : is_plain 0x7E (byte_at s at) ≡ true) where
  is : Plainly 0x7E (byte_at s at)
  is = plainly 0x7E (byte_at s at) plain

  inside : at < length s
  inside = byte_within s at (λ e. omega (arith, is.from))

  low : (sequence_at s at ≡ 1) × (scalar_at s at ≡ byte_at s at)
  low = low_byte s at inside (omega (arith, is.to))

  unicode : unicode_char (byte_at s at) ≡ true
  unfolding unicode_char within
  unicode = rw (le-leb 0x20 (byte_at s at) is.from, le-leb (byte_at s at) 0xd7ff (omega (arith, is.to)))

  in_string : Character (byte_at s at) (at + 1) ≡ char_at s at
  unfolding char_at raw_at
  in_string = rw (ne_eqb (byte_at s at) 39 is.quote, ne_eqb (byte_at s at) 92 is.slash, low.0, low.1, unicode)

  below : byte_at s at < 0x80
  below = omega (arith, is.to)

  -- one law for all these forms
  plain_unit : (f : Form) → is_bytewise f ≡ true → units_from f s at ≡ byte_at s at ∷ units_from f s (at + 1)
  unfolding units_from
  plain_unit Bytes h = left_next s at inside
  plain_unit Utf8 h = rw (← low.0, ← low.1) (characters_next s at (λ z. absurd (omega (arith, low.0))))
  plain_unit Char16 h = absurd (apart h)
  plain_unit Hex h = absurd (apart h)
  plain_unit Quoted h = quoted_next s at in_string (byte_at s at) (at + 1) refl _ refl
  plain_unit (Encoded k) h = rw (eqb-true k 0 h) first
    where
      first : units_from (Encoded 0) s at ≡ byte_at s at ∷ units_from (Encoded 0) s (at + 1)
      first = encoded_last s at in_string 0 (byte_at s at) (at + 1) refl _ refl 1 (one_length (byte_at s at) 0 below) (byte_at s at) (one_byte (byte_at s at) 0 below (omega (arith, one_length (byte_at s at) 0 below))) (omega arith) (omega arith)

-- a byte of the class is its own unit in the form
abbrev pub Alone : Class → Form → Type 0
Alone c f = (s : List ℕ) (at : ℕ) → at < length s → is_in c (byte_at s at) ≡ true → units_from f s at ≡ byte_at s at ∷ units_from f s (at + 1)

module _ (c : Class) where
  -- one byte more, and one run behind another
  pub common_more : (a : List ℕ) (at : ℕ) (b : List ℕ) (beside i : ℕ) {all d : Bool} → all ≡ common_in c a at b beside i → d ≡ same_in c (byte_at a (at + i)) (byte_at b (beside + i))
      → (all && d) ≡ common_in c a at b beside (i + 1)
  unfolding common_in
  common_more a at b beside i e f = rw (add-one i, ← e, ← f)

  common_joined : (a : List ℕ) (at : ℕ) (b : List ℕ) (beside n m : ℕ) → common_in c a at b beside n ≡ true → common_in c a (at + n) b (beside + n) m ≡ true
      → common_in c a at b beside (n + m) ≡ true
  unfolding common_in
  common_joined a at b beside n zero h k = rw (add-zero n) h
  common_joined a at b beside n (suc m) h k =
      let p = and_both (common_in c a (at + n) b (beside + n) m) (same_in c (byte_at a (at + n + m)) (byte_at b (beside + n + m))) k in
      let e : n + suc m ≡ suc (n + m) = omega arith in
      let x : at + n + m ≡ at + (n + m) = omega arith in
      let y : beside + n + m ≡ beside + (n + m) = omega arith in
      rw (e, common_joined a at b beside n m h p.0, ← x, ← y) p.1

  -- ---- as the code meets them
  module _ (a : List ℕ) (at : ℕ) (b : List ℕ) (beside limit : ℕ) (left : limit ≤ length a - at) (right : limit ≤ length b - beside) where
    module _ (n : ℕ) (some : n ≤ limit) (common : common_in c a at b beside n ≡ true) where
      pub common_found : Common c a at b beside n
      common_found = record { within_left = omega arith; within_right = omega arith; common = common }

      pub block_more : {r : Bool} → r ≡ common_in c a (at + n) b (beside + n) 16 → r ≡ true → common_in c a at b beside (n + 16) ≡ true
      block_more e h = common_joined a at b beside n 16 common (sym e ∙ h)

      pub byte_more : {r : Bool} → r ≡ same_in c (byte_at a (at + n)) (byte_at b (beside + n)) → r ≡ true → common_in c a at b beside (n + 1) ≡ true
      byte_more {r} e h = sym (common_more a at b beside n (sym common) e) ∙ h

module _ (c : Class) (f : Form) (a : List ℕ) (at : ℕ) (g : Form) (b : List ℕ) (beside : ℕ) (lefts : Alone c f) (rights : Alone c g) where
  -- the same byte of the class on both sides
  one_onward : (i j : ℕ) → i < length a → j < length b → same_in c (byte_at a i) (byte_at b j) ≡ true
      → Onward (units_from f a i) (units_from g b j) (units_from f a (i + 1)) (units_from g b (j + 1))
  unfolding same_bytes
  one_onward i j l m h =
      let p = and_both (is_in c (byte_at a i)) (eqb (byte_at a i) (byte_at b j)) h in
      let e = eqb-true (byte_at a i) (byte_at b j) p.1 in
      let u = lefts a i l p.0 in
      let v = rights b j m (rw e at p.0) in
      record { same = rw (u, v, p.1); fewer = rw u (omega arith) }

  pub common_onward : (n : ℕ) → n ≤ length a - at → n ≤ length b - beside → common_in c a at b beside n ≡ true
      → Onward (units_from f a at) (units_from g b beside) (units_from f a (at + n)) (units_from g b (beside + n))
  unfolding common_in
  common_onward zero l m h = rw (add-zero at, add-zero beside) (record { same = refl; fewer = omega arith })
  common_onward (suc n) l m h =
      let p = and_both (common_in c a at b beside n) (same_in c (byte_at a (at + n)) (byte_at b (beside + n))) h in
      let x : at + suc n ≡ at + n + 1 = omega arith in
      let y : beside + suc n ≡ beside + n + 1 = omega arith in
      let before = common_onward n (omega arith) (omega arith) p.0 in
      let last = one_onward (at + n) (beside + n) (omega arith) (omega arith) p.1 in
      rw (x, y) (record { same = before.same ∙ last.same; fewer = omega (arith, before.fewer, last.fewer) })

two_differ : (f : Form) (a : List ℕ) (i : ℕ) (g : Form) (b : List ℕ) (j : ℕ) → is_bytewise f ≡ true → is_bytewise g ≡ true → other_plain (byte_at a i) (byte_at b j) ≡ true
    → same_bytes (units_from f a i) (units_from g b j) ≡ false
unfolding same_bytes
two_differ f a i g b j lefts rights h =
    let p = and_both (is_plain 0x7E (byte_at a i) && is_plain 0x7E (byte_at b j)) (not (eqb (byte_at a i) (byte_at b j))) h in
    let q = and_both (is_plain 0x7E (byte_at a i)) (is_plain 0x7E (byte_at b j)) p.0 in
    rw (plain_unit a i q.0 f lefts, plain_unit b j q.1 g rights, not-true (eqb (byte_at a i) (byte_at b j)) p.1)

module _ (x y : Units) where
  pub nothing_skipped : Onward (units x) (units y) (units x) (units y)
  nothing_skipped = record { same = refl; fewer = omega arith }

  module _ {l r : Bool} (lefts : l ≡ is_bytewise x.form) (rights : r ≡ is_bytewise y.form) (test : not (l && r) ≡ false) {n : ℕ} (run : Common plain_class x.bytes.now x.at y.bytes.now y.at n) where
    left_is : is_bytewise x.form ≡ true
    left_is = sym lefts ∙ (and_both l r (not-false (l && r) test)).0

    right_is : is_bytewise y.form ≡ true
    right_is = sym rights ∙ (and_both l r (not-false (l && r) test)).1

    skipped : Onward (units x) (units y) (units_from x.form x.bytes.now (x.at + n)) (units_from y.form y.bytes.now (y.at + n))
    skipped =
        common_onward plain_class x.form x.bytes.now x.at y.form y.bytes.now y.at (λ s i k h. plain_unit s i h x.form left_is) (λ s i k h. plain_unit s i h y.form right_is) n
        run.within_left run.within_right run.common

    pub plain_skipped : {us vs : List ℕ} → us ≡ units_from x.form x.bytes.now (x.at + n) → vs ≡ units_from y.form y.bytes.now (y.at + n) → Onward (units x) (units y) us vs
    plain_skipped e k = rw (e, k) skipped

    pub plain_differ : {d : Bool} → d ≡ other_plain (byte_at x.bytes.now (x.at + n)) (byte_at y.bytes.now (y.at + n)) → d ≡ true → false ≡ same_bytes (units x) (units y)
    plain_differ e h = sym (skipped.same ∙ two_differ x.form x.bytes.now (x.at + n) y.form y.bytes.now (y.at + n) left_is right_is (sym e ∙ h))

-- the loop over both: plain bytes are skipped, then one unit of each is compared
module _ (w : Bool) (us vs : List ℕ) (inv : w ≡ same_bytes us vs) (s : Option (Units × Units)) (es : Skips us vs s) where
  pub skip_differ : s ≡ None → false ≡ w
  skip_differ p = let d : Skips us vs None = rw p at es in d ∙ sym inv

  module _ (x y : Units) (p : s ≡ Some (x, y)) (r : Pair) (er : Pairs (units x) (units y) r) where
    onward : w ≡ same_bytes (units x) (units y)
    onward = let o : Skips us vs (Some (x, y)) = rw p at es in inv ∙ o.same

    pub pair_differ : r ≡ Differ → false ≡ w
    pair_differ q = let d : Pairs (units x) (units y) Differ = rw q at er in d ∙ sym onward

    pub pair_ended : r ≡ Ended → true ≡ w
    pair_ended q = let d : Pairs (units x) (units y) Ended = rw q at er in d ∙ sym onward

    module _ (h k : Units) (q : r ≡ Same h k) where
      after : Pairs (units x) (units y) (Same h k)
      after = rw q at er

      pub pair_next : w ≡ same_bytes (units h) (units k)
      pair_next = onward ∙ after.0

      pub pair_fewer : length (units h) < length us
      pair_fewer =
          let o : Skips us vs (Some (x, y)) = rw p at es in
          omega (arith, o.fewer, after.1)
