-- The characters of a string literal: one at a time, how many, each a scalar value; and their UTF-8 bytes, which read back.
use Prim.Native.Nat.{ℕ, zero, suc, ◌+◌, ◌-◌, ◌≤◌, ◌<◌}
use mathlib.Core.Path.{◌≡◌, refl, sym, ap, ◌∙◌}
use mathlib.Core.List.{List, [], ◌∷◌, ◌++◌}
use mathlib.Core.Bool.{Bool, true, false}
use native.Mathlib.Omega.{arith}
use lib.ListN.{length}
use lib.Seq.{take_at, drop-append-add}
use lib.Dec.{ltb, eqb}
use Rattle.base.specs.Pick.{pick}
use Rattle.base.specs.Range.{within}
use Rattle.base.specs.Part.{byte_at}
use Rattle.base.specs.Digit.{value_of}
use Rattle.encoding.specs.WellFormed.{table, fits, sequence_in, sequence_at}
use Rattle.encoding.specs.Scalar.{scalar_at, is_scalar_value, encode, two_bytes, three_bytes, four_bytes}
use Rattle.encoding.specs.Characters.{characters_from, characters}
use Rattle.encoding.proofs.WellFormed.{sequence_fits}
use Rattle.encoding.proofs.ScalarValue.{scalar_at_value}
use Rattle.encoding.proofs.Characters.{Scalars, none, more, characters_next, characters_stop}
use Rattle.encoding.proofs.Encoding.{encode_reads}
use borrow.Author.Tests.{eqb-true, eqb-false}
use Rattle.string_literal.specs.declared.InString.{InString}
use Rattle.string_literal.specs.declared.InString.TheVariants.{Character, Close, Bad}
use Rattle.string_literal.specs.Char.{char_at, raw_at, escape_at, unicode_escape, plain_escape, hex_run, unicode_char}
use Rattle.string_literal.specs.Text.{text_at, characters_of, bytes_of}
use Rattle.string_literal.proofs.Bounds.{both_ways, text_character, text_close, text_bad}
use Rattle.string_literal.proofs.Induction.{text_through}

module _ (q : List ℕ) (at : ℕ) where
  -- one character at a time
  pub characters_character : (v next : ℕ) → char_at q at ≡ Character v next → characters_of (text_at q at) ≡ v ∷ characters_of (text_at q next)
  unfolding characters_of
  characters_character v next e = rw (text_character q at v next e)

  pub characters_close : char_at q at ≡ Close → characters_of (text_at q at) ≡ []
  unfolding characters_of
  characters_close e = rw (text_close q at e)

  pub characters_bad : char_at q at ≡ Bad → characters_of (text_at q at) ≡ []
  unfolding characters_of
  characters_bad e = rw (text_bad q at e)

-- no more than bytes
pub characters_fewer : (q : List ℕ) (at : ℕ) → length (characters_of (text_at q at)) ≤ length q - at
unfolding characters_of
characters_fewer q =
    text_through q (λ at t. length (characters_of t) ≤ length q - at) (λ at e w. omega arith) (λ at e. omega arith) (λ at v next e w f. omega (arith, w.0, w.1))

-- each is a scalar value
abbrev ScalarChar : InString → Type 0
ScalarChar (Character v next) = is_scalar_value v ≡ true
ScalarChar Close = Unit
ScalarChar Bad = Unit

plain_scalar : (b : ℕ) → is_scalar_value (plain_escape b) ≡ true
unfolding plain_escape is_scalar_value within
plain_scalar b =
    at_k (eqb b 92) 92 _ refl (at_k (eqb b 39) 39 _ refl (at_k (eqb b 98) 8 _ refl (at_k (eqb b 116) 9 _ refl (at_k (eqb b 110) 10 _ refl (at_k (eqb b 102) 12 _ refl (at_k (eqb b 114) 13 0 refl refl))))))
  where
    at_k : (t : Bool) (k n : ℕ) → is_scalar_value k ≡ true → is_scalar_value n ≡ true → is_scalar_value (pick t k n) ≡ true
    at_k true k n e f = e
    at_k false k n e f = f

module _ (q : List ℕ) where
  char_scalar : (at : ℕ) → ScalarChar (char_at q at)
  unfolding char_at escape_at unicode_escape raw_at
  char_scalar at =
      both_ways ScalarChar (eqb (byte_at q at) 39) Close _ (λ t. tt)
      (λ t. both_ways ScalarChar (eqb (byte_at q at) 92) (escape_at q (at + 1)) (raw_at q at)
      (λ u. both_ways ScalarChar (eqb (byte_at q (at + 1)) 117) (unicode_escape q (at + 1 + 1)) _
      (λ v. both_ways ScalarChar (ltb (hex_run q (at + 1 + 1)) 4) Bad _ (λ w. tt)
      (λ w. both_ways ScalarChar (is_scalar_value (value_of 16 0 q (at + 1 + 1) (hex_run q (at + 1 + 1)))) (Character (value_of 16 0 q (at + 1 + 1) (hex_run q (at + 1 + 1))) (at + 1 + 1 + hex_run q (at + 1 + 1))) Bad (λ x. x) (λ x. tt)))
      (λ v. both_ways ScalarChar (eqb (plain_escape (byte_at q (at + 1))) 0) Bad (Character (plain_escape (byte_at q (at + 1))) (at + 1 + 1)) (λ w. tt) (λ w. plain_scalar (byte_at q (at + 1)))))
      (λ u. both_ways ScalarChar (eqb (sequence_at q at) 0) Bad _ (λ v. tt)
      (λ v. both_ways ScalarChar (unicode_char (scalar_at q at)) (Character (scalar_at q at) (at + sequence_at q at)) Bad (λ w. scalar_at_value q at (eqb-false (sequence_at q at) 0 v)) (λ w. tt))))

  pub characters_scalar : (at : ℕ) → Scalars (characters_of (text_at q at))
  unfolding characters_of
  characters_scalar =
      text_through q (λ at t. Scalars (characters_of t)) (λ at e w. none) (λ at e. none) (λ at v next e w f. more (rw e at (char_scalar at)) f)

-- characters behind another text are the same
module _ (p t : List ℕ) where
  sequence_behind : (i : ℕ) → sequence_at (p ++ t) (length p + i) ≡ sequence_at t i
  unfolding sequence_at
  sequence_behind i = ap (sequence_in table) (drop-append-add p t i)

  scalar_behind : (i : ℕ) → scalar_at (p ++ t) (length p + i) ≡ scalar_at t i
  unfolding scalar_at
  scalar_behind i = rw (sequence_behind i, drop-append-add p t i)

  by_fuel : (f i : ℕ) → length t - i < f → characters_from (p ++ t) (length p + i) ≡ characters_from t i
  by_fuel zero i h = absurd (omega arith)
  by_fuel (suc f) i h = go (eqb (sequence_at t i) 0) refl (by_fuel f (i + sequence_at t i))
    where
      go : (u : Bool) → eqb (sequence_at t i) 0 ≡ u → (length t - (i + sequence_at t i) < f → characters_from (p ++ t) (length p + (i + sequence_at t i)) ≡ characters_from t (i + sequence_at t i))
          → characters_from (p ++ t) (length p + i) ≡ characters_from t i
      go true e k = let z = eqb-true (sequence_at t i) 0 e in rw (characters_stop (p ++ t) (length p + i) (sequence_behind i ∙ z), characters_stop t i z)
      go false e k =
          let n = eqb-false (sequence_at t i) 0 e in
          let l = sequence_fits t i in
          let z : length p + i + sequence_at t i ≡ length p + (i + sequence_at t i) = omega arith in
          characters_next (p ++ t) (length p + i) (λ y. n (sym (sequence_behind i) ∙ y))
          ∙ rw (scalar_behind i, sequence_behind i, z, k (omega arith)) (sym (characters_next t i n))

  pub characters_behind : (i : ℕ) → characters_from (p ++ t) (length p + i) ≡ characters_from t i
  characters_behind i = by_fuel (suc (length t - i)) i (omega arith)

-- an encoded character in front
encode_some : (v : ℕ) → length (encode v) ≡ 0 → ⊥
unfolding encode
encode_some v = go (ltb v 0x80) (ltb v 0x800) (ltb v 0x10000)
  where
    go : (t u w : Bool) → length (pick t (v ∷ []) (pick u (two_bytes v) (pick w (three_bytes v) (four_bytes v)))) ≡ 0 → ⊥
    go true u w e = omega arith
    go false true w e = omega arith
    go false false true e = omega arith
    go false false false e = omega arith

encode_first : (v : ℕ) → is_scalar_value v ≡ true → (t : List ℕ) → characters (encode v ++ t) ≡ v ∷ characters t
unfolding scalar_at
encode_first v h t =
    let e = encode_reads v h t in
    let z : length (encode v) + 0 ≡ length (encode v) = omega arith in
    let y : 0 + length (encode v) ≡ length (encode v) = omega arith in
    let w : scalar_at (encode v ++ t) 0 ≡ v = rw (e.0, take_at (encode v) t (length (encode v)) refl) e.1 in
    characters_next (encode v ++ t) 0 (λ x. encode_some v (sym e.0 ∙ x))
    ∙ rw (w, e.0, y) (ap (λ (l : List ℕ). v ∷ l) (rw z at (characters_behind (encode v) t 0)))

-- the bytes read back, so texts of the same bytes are the same characters
pub bytes_read : {cs : List ℕ} → Scalars cs → characters (bytes_of cs) ≡ cs
unfolding bytes_of sequence_at sequence_in fits
bytes_read none = characters_stop [] 0 refl
bytes_read (more {v = v} {l = l} h f) = encode_first v h (bytes_of l) ∙ ap (λ (x : List ℕ). v ∷ x) (bytes_read f)

pub same_bytes_law : {cs ds : List ℕ} → Scalars cs → Scalars ds → bytes_of cs ≡ bytes_of ds → cs ≡ ds
same_bytes_law f g e = sym (bytes_read f) ∙ ap characters e ∙ bytes_read g
