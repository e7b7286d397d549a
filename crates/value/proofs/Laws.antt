-- One law for each exit of `src/`.
use Prim.Native.Nat.{ℕ, ◌+◌, ◌*◌, ◌≤◌, ◌<◌, ◌-◌}
use mathlib.Core.List.{List, [], ◌∷◌, ◌++◌}
use mathlib.Core.Bool.{Bool, true, false}
use mathlib.Core.Path.{◌≡◌, refl, sym, ◌∙◌}
use native.Mathlib.Omega.{arith}
use lib.ListN.{length, drop, get_or, drop_of_length-le}
use lib.Dec.{ltb}
use borrow.Author.Tests.{eq-eqb, ne_eqb, lt-ltb, le-ltb, ltb-true, ltb-false}
use Rattle.std.specs.Prelude.{Option, Some, None}
use Rattle.base.specs.Part.{part, same_bytes}
use Rattle.base.specs.Digit.{digit_of}
use Rattle.base.proofs.Lists.{left_next}
use Rattle.record.specs.Record.{number_at}
use Rattle.encoding.specs.WellFormed.{sequence_at}
use Rattle.encoding.specs.Scalar.{scalar_of, scalar_at, two_bytes, three_bytes, four_bytes, encode}
use Rattle.encoding.proofs.WellFormed.{sequence_fits}
use Rattle.encoding.proofs.Characters.{characters_next, characters_stop}
use Rattle.string_literal.specs.declared.InString.{InString}
use Rattle.string_literal.specs.declared.InString.TheVariants.{Character, Close, Bad}
use Rattle.string_literal.specs.Char.{char_at}
use Rattle.string_literal.specs.Text.{text_at, characters_of, bytes_of}
use Rattle.string_literal.proofs.Bounds.{text_close, text_bad}
use Rattle.string_literal.proofs.Filling as filling
use Rattle.value.specs.declared.unit.Form.TheVariants.{Bytes, Utf8, Char16, Hex, Quoted, Encoded}
use Rattle.value.specs.declared.unit.Units.{Units}
use Rattle.value.specs.Unit.{hex_pairs, utf8_after, units_from, units, Steps}

-- bytes
module _ (s : List ℕ) (at : ℕ) where
  pub byte_next : at < length s → (v : ℕ) → v ≡ get_or s at 0 → units_from Bytes s at ≡ v ∷ units_from Bytes s (at + 1)
  unfolding units_from
  byte_next h v e = rw e (left_next s at h)

  pub byte_end : length s ≤ at → units_from Bytes s at ≡ []
  unfolding units_from
  byte_end h = drop_of_length-le s h

-- the characters of UTF-8
module _ (s : List ℕ) (at n : ℕ) (e : n ≡ sequence_at s at) where
  pub character_next : (n ≡ 0 → ⊥) → (v : ℕ) (body : List ℕ) → body ≡ part s at n → v ≡ scalar_of body → units_from Utf8 s at ≡ v ∷ units_from Utf8 s (at + n)
  unfolding units_from scalar_at
  character_next h v body f g = rw (g, f, e) (characters_next s at (λ z. h (e ∙ z)))

  pub character_end : n ≡ 0 → units_from Utf8 s at ≡ []
  unfolding units_from
  character_end h = characters_stop s at (sym e ∙ h)

  pub character_room : n ≤ length s - at
  character_room = rw e (sequence_fits s at)

-- the one character of a char16
module _ (s : List ℕ) (at : ℕ) where
  pub char16_next : at ≡ 0 → (v : ℕ) → v ≡ number_at s 0 → units_from Char16 s at ≡ v ∷ units_from Char16 s 1
  unfolding units_from
  char16_next h v e = rw (h, e)

  pub char16_end : (at ≡ 0 → ⊥) → units_from Char16 s at ≡ []
  unfolding units_from
  char16_end h = rw (ne_eqb _ _ h)

-- pairs of hex digits
module _ (s : List ℕ) (at : ℕ) where
  pub pair_end : length s ≤ at → units_from Hex s at ≡ []
  unfolding units_from hex_pairs
  pair_end h = rw (drop_of_length-le s h)

  pub pair_half : at < length s → length s - at < 2 → units_from Hex s at ≡ []
  unfolding units_from hex_pairs
  pair_half h k = let l : length s ≤ at + 1 = omega arith in rw (left_next s at h, drop_of_length-le s l)

  pub pair_next : 2 ≤ length s - at → (high low : ℕ) → high ≡ digit_of (get_or s at 0) → low ≡ digit_of (get_or s (at + 1) 0)
      → units_from Hex s at ≡ (high * 16 + low) ∷ units_from Hex s (at + 2)
  unfolding units_from hex_pairs
  pair_next h high low e f =
      let k : at + 1 + 1 ≡ at + 2 = omega arith in
      rw (left_next s at (omega arith), left_next s (at + 1) (omega arith), k, e, f)

-- no character stands at the place
no_character : {r : InString} (s : List ℕ) (at : ℕ) → r ≡ char_at s at → ((v next : ℕ) → r ≡ Character v next → ⊥) → characters_of (text_at s at) ≡ []
unfolding characters_of
no_character {r = Character v next} s at e h = absurd (h v next refl)
no_character {r = Close} s at e h = rw (text_close s at (sym e))
no_character {r = Bad} s at e h = rw (text_bad s at (sym e))

-- the characters of a string literal
module _ {r : InString} (s : List ℕ) (at : ℕ) (e : r ≡ char_at s at) where
  pub quoted_next : (c next : ℕ) → r ≡ Character c next → (v : ℕ) → v ≡ c → units_from Quoted s at ≡ v ∷ units_from Quoted s next
  unfolding units_from
  quoted_next c next f v is = rw is (filling.next_character s at e c next f)

  pub quoted_end : ((v next : ℕ) → r ≡ Character v next → ⊥) → units_from Quoted s at ≡ []
  unfolding units_from
  quoted_end h = no_character s at e h

-- the sequence of a scalar value, by its length
module _ (v k : ℕ) where
  pub one_length : v < 0x80 → 1 ≡ length (encode v)
  unfolding encode
  one_length h = rw (lt-ltb _ _ h)

  pub two_length : 0x80 ≤ v → v < 0x800 → 2 ≡ length (encode v)
  unfolding encode
  two_length h i = rw (le-ltb _ _ h, lt-ltb _ _ i)

  pub three_length : 0x80 ≤ v → 0x800 ≤ v → v < 0x10000 → 3 ≡ length (encode v)
  unfolding encode
  three_length h i j = rw (le-ltb _ _ h, le-ltb _ _ i, lt-ltb _ _ j)

  pub four_length : 0x80 ≤ v → 0x800 ≤ v → 0x10000 ≤ v → 4 ≡ length (encode v)
  unfolding encode
  four_length h i j = rw (le-ltb _ _ h, le-ltb _ _ i, le-ltb _ _ j)

  pub one_byte : v < 0x80 → k < length (encode v) → v ≡ get_or (encode v) k 0
  unfolding encode
  one_byte h l =
      let m : k ≡ 0 = omega (arith, one_length h) in
      rw (m, lt-ltb _ _ h)

  pub two_room : 0x80 ≤ v → v < 0x800 → k < length (encode v) → k < 2
  two_room h i l = rw (two_length h i) l

  pub three_room : 0x80 ≤ v → 0x800 ≤ v → v < 0x10000 → k < length (encode v) → k < 3
  three_room h i j l = rw (three_length h i j) l

  pub four_room : 0x80 ≤ v → 0x800 ≤ v → 0x10000 ≤ v → k < length (encode v) → k < 4
  four_room h i j l = rw (four_length h i j) l

  pub two_byte : 0x80 ≤ v → v < 0x800 → (b : ℕ) → b ≡ get_or (two_bytes v) k 0 → b ≡ get_or (encode v) k 0
  unfolding encode
  two_byte h i b e = rw (le-ltb _ _ h, lt-ltb _ _ i) e

  pub three_byte : 0x80 ≤ v → 0x800 ≤ v → v < 0x10000 → (b : ℕ) → b ≡ get_or (three_bytes v) k 0 → b ≡ get_or (encode v) k 0
  unfolding encode
  three_byte h i j b e = rw (le-ltb _ _ h, le-ltb _ _ i, lt-ltb _ _ j) e

  pub four_byte : 0x80 ≤ v → 0x800 ≤ v → 0x10000 ≤ v → (b : ℕ) → b ≡ get_or (four_bytes v) k 0 → b ≡ get_or (encode v) k 0
  unfolding encode
  four_byte h i j b e = rw (le-ltb _ _ h, le-ltb _ _ i, le-ltb _ _ j) e

encode_some : (v : ℕ) → 0 < length (encode v)
encode_some v = by_1 (ltb v 0x80) refl
  where
    by_3 : 0x80 ≤ v → 0x800 ≤ v → (b : Bool) → ltb v 0x10000 ≡ b → 0 < length (encode v)
    by_3 h i true e = omega (arith, three_length v 0 h i (ltb-true _ _ e))
    by_3 h i false e = omega (arith, four_length v 0 h i (ltb-false _ _ e))

    by_2 : 0x80 ≤ v → (b : Bool) → ltb v 0x800 ≡ b → 0 < length (encode v)
    by_2 h true e = omega (arith, two_length v 0 h (ltb-true _ _ e))
    by_2 h false e = by_3 h (ltb-false _ _ e) (ltb v 0x10000) refl

    by_1 : (b : Bool) → ltb v 0x80 ≡ b → 0 < length (encode v)
    by_1 true e = omega (arith, one_length v 0 (ltb-true _ _ e))
    by_1 false e = by_2 (ltb-false _ _ e) (ltb v 0x800) refl

-- nothing is skipped: the whole UTF-8
pub utf8_whole : (vs : List ℕ) → utf8_after 0 vs ≡ bytes_of vs
unfolding utf8_after bytes_of
utf8_whole [] = refl
utf8_whole (v ∷ vs) = rw (lt-ltb 0 (length (encode v)) (encode_some v))

-- the UTF-8 of a string literal's characters
module _ {r : InString} (s : List ℕ) (at : ℕ) (e : r ≡ char_at s at) (k : ℕ) where
  pub encoded_end : ((v next : ℕ) → r ≡ Character v next → ⊥) → units_from (Encoded k) s at ≡ []
  unfolding units_from utf8_after
  encoded_end h = rw (no_character s at e h)

  module _ (c next : ℕ) (f : r ≡ Character c next) (v : ℕ) (same : v ≡ c) (n : ℕ) (long : n ≡ length (encode v)) where
    stands : characters_of (text_at s at) ≡ v ∷ characters_of (text_at s next)
    stands = rw same (filling.next_character s at e c next f)

    pub encoded_past : n ≤ k → units_from (Encoded k) s at ≡ []
    unfolding units_from utf8_after
    encoded_past h = rw (stands, le-ltb k (length (encode v)) (rw long at h))

    left : k < n → utf8_after k (characters_of (text_at s at)) ≡ get_or (encode v) k 0 ∷ (drop (k + 1) (encode v) ++ bytes_of (characters_of (text_at s next)))
    unfolding utf8_after
    left h =
        let l : k < length (encode v) = rw long at h in
        rw (stands, lt-ltb k (length (encode v)) l, left_next (encode v) k l)

    module _ (b : ℕ) (is : b ≡ get_or (encode v) k 0) (here : k < n) where
      pub encoded_more : k + 1 < n → units_from (Encoded k) s at ≡ b ∷ units_from (Encoded (k + 1)) s at
      unfolding units_from utf8_after
      encoded_more h =
          let l : k + 1 < length (encode v) = rw long at h in
          left here ∙ rw (is, stands, lt-ltb (k + 1) (length (encode v)) l)

      pub encoded_last : n ≤ k + 1 → units_from (Encoded k) s at ≡ b ∷ units_from (Encoded 0) s next
      unfolding units_from
      encoded_last h =
          let l : length (encode v) ≤ k + 1 = rw long at h in
          left here ∙ rw (is, drop_of_length-le (encode v) l, utf8_whole)

pub encoded_here : (v k n : ℕ) → n ≡ length (encode v) → k < n → k < length (encode v)
encoded_here v k n e h = rw e at h

-- the next units of two sequences, as the code meets them
module _ (us vs : List ℕ) (x y : Option (ℕ × Units)) (ex : Steps us x) (ey : Steps vs y) where
  pub units_both_end : x ≡ None → y ≡ None → true ≡ same_bytes us vs
  unfolding same_bytes
  units_both_end p q =
      let u : Steps us None = rw p at ex in
      let v : Steps vs None = rw q at ey in
      rw (u, v)

  module _ (m : ℕ) (h : Units) (p : x ≡ Some (m, h)) (n : ℕ) (e : Units) (q : y ≡ Some (n, e)) where
    pub units_differ : (m ≡ n → ⊥) → false ≡ same_bytes us vs
    unfolding same_bytes
    units_differ d =
        let u : Steps us (Some (m, h)) = rw p at ex in
        let v : Steps vs (Some (n, e)) = rw q at ey in
        rw (u, v, ne_eqb m n d)

    pub units_next : m ≡ n → same_bytes us vs ≡ same_bytes (units h) (units e)
    unfolding same_bytes
    units_next d =
        let u : Steps us (Some (m, h)) = rw p at ex in
        let v : Steps vs (Some (n, e)) = rw q at ey in
        rw (u, v, eq-eqb m n d)

-- each unit leaves fewer
pub units_fewer : (us : List ℕ) (x : Option (ℕ × Units)) → Steps us x → (m : ℕ) (h : Units) → x ≡ Some (m, h) → length (units h) < length us
units_fewer us x ex m h p =
    let u : Steps us (Some (m, h)) = rw p at ex in
    rw u (omega arith)
