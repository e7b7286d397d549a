-- What is read of a token that stands in two texts which are alike: names, literals, indices and patterns are the same.
use Rattle.std.specs.Prelude.{None, Option, Some, Ok}
use Prim.Native.Nat.{ℕ, ◌+◌, ◌-◌, ◌≤◌}
use mathlib.Core.Path.{◌≡◌, refl, ap, ◌∙◌}
use mathlib.Core.List.{List}
use mathlib.Core.Bool.{Bool, true, false, ◌&&◌}
use mathlib.Core.Option.{some}
use native.Mathlib.Omega.{arith}
use lib.ListN.{length}
use lib.Dec.{ltb, leb, eqb}
use borrow.Author.Tests.{leb-true, leb-false, le-ltb}
use Rattle.base.specs.Pick.{pick}
use Rattle.base.specs.Part.{part}
use Rattle.record.specs.Kind.{same_row}
use Rattle.record.specs.declared.kind.Family.{Family}
use Rattle.record.specs.declared.kind.Family.TheVariants as family
use Rattle.real.specs.declared.Real as real
use Rattle.real.specs.Real.{real_of, exponent_of}
use Rattle.scan.proofs.Alike.{Alike, part_alike}
use Rattle.numeral.specs.Numeral.{signed}
use Rattle.numeral.proofs.Local.{signed_alike}
use Rattle.string_literal.proofs.Local.{characters_alike}
use Rattle.token.specs.declared.Reserved.{Reserved}
use Rattle.token.specs.declared.Reserved.TheVariants as Reserved
use Rattle.token.specs.declared.Form.{Form}
use Rattle.token.specs.declared.Form.TheVariants.{Decimal, Binary, Hex, Real}
use Rattle.token.specs.declared.TokenKind.{TokenKind}
use Rattle.token.specs.declared.TokenKind.TheVariants.{End, NoToken, Name, Word, Number, Text, Compare, Symbol}
use Rattle.token.specs.declared.Token.{Token}
use Rattle.token.proofs.Local.{Placed, eqb_moved}
use Rattle.token.proofs.Stands.{Standing, hex_there, real_there, text_there}
use Rattle.literal.specs.Integer.{negative, integer_of, integer_by}
use Rattle.literal.specs.RealLiteral.{fraction_from, fraction_end, digits_of, exponent_size, exponent_below, decoded_real, real_from, real_literal_of}
use Rattle.literal.specs.Sort.{sort_of, unsigned_hex}
use Rattle.literal.specs.Literal.{word_literal, hex_literal_of, number_literal, literal_by, literal_of}
use Rattle.literal.specs.declared.Literal.TheVariants as literal
use Rattle.literal.proofs.Local.{integer_alike, real_alike}
use Rattle.syntax.specs.Property.{span_of}
use Rattle.instance.specs.Value.{octets}
use Rattle.pattern.specs.Reading.{parse}
use Rattle.value.specs.Unit.{hex_pairs}
use Rattle.value_literal.specs.LiteralValue.{text_of, text_value, octets_of, literal_value}
use Rattle.operand.specs.LiteralReading.{LiteralReading, misfit, read_value, read_decoded, fits, read_literal, is_null_sort, is_null_literal}
use Rattle.operand.specs.Index.{index_by, index_of}
use Rattle.operand.specs.PatternLiteral.{pattern_of}
use Rattle.operand.specs.Named.{spanned}

module _ {q r : List ℕ} {a b k l : ℕ} {t u : Token} (A : Alike q r a b k l) (P : Placed a b k t u) (S : Standing q t) where
  here : t.start ≤ k
  here = omega (arith, P.moves, P.short)

  -- a name
  pub name_stays : spanned q (span_of t) ≡ spanned r (span_of u)
  name_stays =
      let m = P.moved.start in
      let n = P.moved.end in
      let z : t.end - t.start ≡ u.end - u.start = omega (arith, P.moves) in
      part_alike A t.start u.start (t.end - t.start) P.from (omega (arith, P.moves, P.short)) m ∙ ap (part r u.start) z

  -- the text of a string literal
  text_stays : t.kind ≡ Text → text_of q t.start ≡ text_of r u.start
  text_stays e =
      let h = text_there q t S e in
      characters_alike A t.start u.start P.from P.moved.start (omega (arith, h.0, h.1)) (omega (arith, h.1, P.short))

  -- a number
  integer_stays : (f : Form) → (f ≡ Hex → t.kind ≡ Number Hex) → integer_of q f t.start ≡ integer_of r f u.start
  integer_stays f e = integer_alike A f t.start u.start P.from here P.moved.start (λ z. hex_there q t S (e z))

  unsigned_stays : eqb (signed q t.start) t.start ≡ eqb (signed r u.start) u.start
  unsigned_stays = eqb_moved a b (signed q t.start) t.start (signed r u.start) u.start (signed_alike A t.start u.start P.from here P.moved.start) P.moved.start

  octets_stay : octets_of q t.start t.end ≡ octets_of r u.start u.end
  octets_stay = ap hex_pairs (go (leb (t.start + 2) t.end) refl)
    where
      z : t.end - (t.start + 2) ≡ u.end - (u.start + 2)
      z = omega (arith, P.moved.start, P.moved.end)

      go : (c : Bool) → leb (t.start + 2) t.end ≡ c → part q (t.start + 2) (t.end - (t.start + 2)) ≡ part r (u.start + 2) (u.end - (u.start + 2))
      go true e =
          let h = leb-true (t.start + 2) t.end e in
          part_alike A (t.start + 2) (u.start + 2) (t.end - (t.start + 2)) (omega (arith, P.from)) (omega (arith, P.short)) (omega (arith, P.moved.start))
          ∙ ap (part r (u.start + 2)) z
      go false e =
          let h = leb-false (t.start + 2) t.end e in
          let o : t.end - (t.start + 2) ≡ 0 = omega arith in
          rw (← z, o) refl

  unsigned_hex_stays : unsigned_hex q t ≡ unsigned_hex r u
  unfolding unsigned_hex
  unsigned_hex_stays = rw (unsigned_stays, P.moved.kind) refl

  pub null_stays : is_null_literal t ≡ is_null_literal u
  unfolding is_null_literal
  null_stays = ap (λ (x : TokenKind). is_null_sort (sort_of x)) P.moved.kind

  -- a literal's value beside a family: numbers, truth values and NULL hold no place
  sized_read : (f : Family) (n : Bool) (z : Option ℕ) → read_decoded f q (integer_by n z) ≡ read_decoded f r (integer_by n z)
  unfolding integer_by literal_value
  sized_read f n (Some m) = refl
  sized_read f n None = refl

  integer_read : (f : Family) (x : Form) → t.kind ≡ Number x → read_decoded f q (integer_of q x t.start) ≡ read_decoded f r (integer_of r x u.start)
  unfolding integer_of
  integer_read f x e = sized_read f _ _ ∙ ap (read_decoded f r) (integer_stays x (λ z. e ∙ ap Number z))

  ranged_read : (f : Family) (x : Option real.Real) → read_decoded f q (decoded_real x) ≡ read_decoded f r (decoded_real x)
  unfolding literal_value
  ranged_read f (Some x) = refl
  ranged_read f None = refl

  real_from_read : (f : Family) (n : Bool) (s : ℕ) → read_decoded f q (real_from q n s) ≡ read_decoded f r (real_from q n s)
  unfolding real_from
  real_from_read f n s =
      ranged_read f (real_of n (digits_of q s) (exponent_of (exponent_below q (fraction_end q s)) (exponent_size q (fraction_end q s)) (fraction_end q s - fraction_from q s)))

  real_read : (f : Family) → t.kind ≡ Number Real → read_decoded f q (real_literal_of q t.start) ≡ read_decoded f r (real_literal_of r u.start)
  unfolding real_literal_of
  real_read f e =
      real_from_read f (negative q t.start) (signed q t.start)
      ∙ ap (read_decoded f r) (real_alike A t.start u.start P.from here P.moved.start (real_there q t S e))

  word_read : (f : Family) (w : Reserved) → read_decoded f q (word_literal w) ≡ read_decoded f r (word_literal w)
  unfolding word_literal literal_value
  word_read f Reserved.And = refl
  word_read f Reserved.Any = refl
  word_read f Reserved.Every = refl
  word_read f Reserved.False = refl
  word_read f Reserved.Like = refl
  word_read f Reserved.Not = refl
  word_read f Reserved.Null = refl
  word_read f Reserved.Or = refl
  word_read f Reserved.True = refl

  hex_read : (f : Family) (asked : Bool) → t.kind ≡ Number Hex → read_decoded f q (hex_literal_of asked q t.start t.end) ≡ read_decoded f r (hex_literal_of asked r u.start u.end)
  unfolding hex_literal_of literal_value
  hex_read f asked e = rw (← unsigned_stays) (go (asked && eqb (signed q t.start) t.start))
    where
      go : (c : Bool) → read_decoded f q (pick c (Ok (literal.Octets t.start t.end)) (integer_of q Hex t.start))
          ≡ read_decoded f r (pick c (Ok (literal.Octets u.start u.end)) (integer_of r Hex u.start))
      go true = ap (λ (x : List ℕ). read_value (some (octets x))) octets_stay
      go false = integer_read f Hex e

  number_read : (f : Family) (asked : Bool) (x : Form) → t.kind ≡ Number x
      → read_decoded f q (number_literal asked q x t.start t.end) ≡ read_decoded f r (number_literal asked r x u.start u.end)
  unfolding number_literal
  number_read f asked Decimal e = integer_read f Decimal e
  number_read f asked Binary e = integer_read f Binary e
  number_read f asked Hex e = hex_read f asked e
  number_read f asked Real e = real_read f e

  kind_read : (f : Family) (asked : Bool) (x : TokenKind) → t.kind ≡ x → read_decoded f q (literal_by asked q x t.start t.end) ≡ read_decoded f r (literal_by asked r x u.start u.end)
  unfolding literal_value
  kind_read f asked End e = refl
  kind_read f asked NoToken e = refl
  kind_read f asked Name e = refl
  kind_read f asked (Word w) e = word_read f w
  kind_read f asked (Number x) e = number_read f asked x e
  kind_read f asked Text e = ap (λ (x : List ℕ). read_value (some (text_value f x))) (text_stays e)
  kind_read f asked (Compare o) e = refl
  kind_read f asked (Symbol m) e = refl

  decoded_read : (f : Family) (asked : Bool) → read_decoded f q (literal_of asked q t) ≡ read_decoded f r (literal_of asked r u)
  unfolding literal_of
  decoded_read f asked =
      kind_read f asked t.kind refl ∙ ap (λ (x : TokenKind). read_decoded f r (literal_by asked r x u.start u.end)) P.moved.kind

  -- it starts in each text
  starts_within : ltb (length q) t.start ≡ false
  starts_within = le-ltb (length q) t.start (omega (arith, here, A.first_within))

  other_within : ltb (length r) u.start ≡ false
  other_within = le-ltb (length r) u.start (omega (arith, here, P.moved.start, A.ends, A.second_within))

  pub literal_stays : (f : Family) → read_literal f q t ≡ read_literal f r u
  unfolding read_literal
  literal_stays f =
      rw (starts_within, other_within)
      (ap (λ (c : Bool). pick c (read_decoded f q (literal_of (same_row f family.Octets) q t)) misfit) fitting
      ∙ ap (λ (x : LiteralReading). pick (fits f (unsigned_hex r u) (sort_of u.kind)) x misfit) (decoded_read f (same_row f family.Octets)))
    where
      fitting : fits f (unsigned_hex q t) (sort_of t.kind) ≡ fits f (unsigned_hex r u) (sort_of u.kind)
      fitting = ap (λ (c : Bool). fits f c (sort_of t.kind)) unsigned_hex_stays ∙ ap (λ (x : TokenKind). fits f (unsigned_hex r u) (sort_of x)) P.moved.kind

  -- an index
  pub index_stays : index_of q t ≡ index_of r u
  unfolding index_of
  index_stays = rw (starts_within, other_within) (ap index_by (integer_stays Decimal (λ z. let o : ◌≡◌ {A = ℕ} 0 1 = cc in absurd (omega arith))))

  -- a pattern
  pub pattern_stays : t.kind ≡ Text → pattern_of q t ≡ pattern_of r u
  unfolding pattern_of
  pattern_stays e = ap parse (text_stays e)
