-- One law for each exit of `src/`.
use Rattle.std.specs.Prelude.{Err, None, Ok, Option, Result, Some}
use Prim.Native.Nat.{ℕ, ◌-◌, ◌≤◌, ◌<◌}
use mathlib.Core.List.{List, [], ◌∷◌}
use mathlib.Core.Bool.{Bool, true, false, ◌&&◌}
use mathlib.Core.Path.{◌≡◌, refl, sym, ap, ◌∙◌}
use mathlib.Core.Option.{none, some}
use lib.IntN.{ℤ, pos, negsuc}
use Rattle.std.specs.Prelude.{unsigned_abs, OkIff}
use Rattle.std.specs.Int.{FitsUnsigned, w16}
use native.Mathlib.Omega.{arith}
use lib.ListN.{length, take}
use lib.Seq.{length-take-le}
use lib.Dec.{eqb, leb, ltb→lt, lt→ltb, le→leb}
use borrow.Author.Tests.{lt-ltb, le-ltb, le-leb, lt-leb, leb-true, eq-eqb, ne_eqb}
use Rattle.base.specs.Pick.{pick}
use Rattle.base.specs.Part.{part}
use Rattle.record.specs.Kind.{same_row}
use Rattle.record.specs.Name.{same_name}
use Rattle.record.specs.declared.kind.Family.{Family}
use Rattle.record.specs.declared.kind.Family.TheVariants as family
use Rattle.table.specs.Properties.{class_name, find_property}
use Rattle.table.specs.declared.lookup.Property.{Property}
use Rattle.syntax.specs.declared.path.Span.{Span}
use Rattle.syntax.specs.declared.path.Path.{Path}
use Rattle.token.specs.Token.{token_at, token_after}
use Rattle.token.specs.declared.Form.TheVariants.{Decimal}
use Rattle.token.specs.declared.Token.{Token}
use Rattle.literal.specs.Integer.{integer_of}
use Rattle.literal.specs.Literal.{literal_of}
use Rattle.literal.specs.Sort.{sort_of, unsigned_hex}
use Rattle.literal.specs.declared.sort.Sort.{Sort}
use Rattle.literal.specs.declared.Literal.{Literal}
use Rattle.literal.specs.declared.Literal.TheVariants as literal
use Rattle.string_literal.specs.Text.{text_at, characters_of, filled, Holds}
use Rattle.encoding.specs.Characters.{characters}
use Rattle.pattern.specs.Reading.{parse, is_some, well_formed, alternatives, sequence, item, symbol_item, symbol, ends}
use Rattle.pattern.specs.Character.{starts_with, special}
use Rattle.matcher.specs.Matcher.{like_of, match_of}
use Rattle.matcher.specs.declared.matcher.Matched.{Matched}
use Rattle.value.specs.Item.{listed, item_value}
use Rattle.value.specs.declared.item.Sort as unit
use Rattle.value.specs.declared.item.Sequence.{Sequence}
use Rattle.value.specs.declared.item.Item.{Item}
use Rattle.value.specs.declared.item.Item.TheVariants as item
use Rattle.value_literal.specs.LiteralValue.{text_of, after_quote, literal_value}
use Rattle.value_literal.proofs.Laws.{after_quote_law}
use Rattle.operand.specs.Named.{spanned, named}
use Rattle.operand.specs.Index.{index_by, index_of}
use Rattle.operand.specs.LiteralReading.{fits, no_datetime, fault_read, read_value, read_decoded, read_literal}
use Rattle.operand.specs.Element.{next_element, first_element}
use Rattle.operand.specs.PatternLiteral.{pattern_of, matched}
use Rattle.operand.specs.Answers.{reading_of}
use Rattle.operand.specs.declared.literal_read.ReadFault.TheVariants.{Misfit, Malformed}
use Rattle.literal.specs.declared.LiteralFault.{LiteralFault}
use Rattle.operand.specs.declared.literal_read.ReadFault.{ReadFault}
use Rattle.literal.specs.declared.LiteralFault.TheVariants as LiteralFault

-- elements
module _ (q : List ℕ) (u v : Token) where
  pub element_first : (start : ℕ) → u ≡ token_at q start → v ≡ token_after q u → v ≡ first_element q start
  unfolding first_element
  element_first start e f = f ∙ ap (token_after q) e

  pub element_next : (t : Token) → u ≡ token_after q t → v ≡ token_after q u → v ≡ next_element q t
  element_next t e f = f ∙ ap (token_after q) e

-- indices
not_integer : (l : Literal) → ((n : ℤ) → l ≡ literal.Integer n → ⊥) → None ≡ index_by (Ok l)
not_integer (literal.Truth b) not = refl
not_integer (literal.Integer n) not = absurd (not n refl)
not_integer (literal.Real x) not = refl
not_integer (literal.Text start end) not = refl
not_integer (literal.Octets start end) not = refl
not_integer literal.Null not = refl

fits_index : (n : ℤ) → FitsUnsigned w16 n → Some (unsigned_abs n) ≡ index_by (Ok (literal.Integer n))
fits_index (pos m) p = let h : m < 65536 = ltb→lt m 65536 p.1.lt in rw (le-leb m 65535 (omega arith)) refl
fits_index (negsuc m) p = absurd p.0.le

no_index : (n : ℤ) → (FitsUnsigned w16 n → ⊥) → None ≡ index_by (Ok (literal.Integer n))
no_index (pos m) not = go (leb m 65535) refl
  where
    go : (b : Bool) → leb m 65535 ≡ b → None ≡ pick b (Some m) None
    go true e = let h = leb-true m 65535 e in absurd (not (record { le = le→leb 0 m (omega arith) }, record { lt = lt→ltb m 65536 (omega arith) }))
    go false e = refl
no_index (negsuc m) not = refl

module _ (q : List ℕ) (t : Token) where
  pub index_outside : length q < t.start → None ≡ index_of q t
  unfolding index_of
  index_outside h = rw (lt-ltb (length q) t.start h)

  module _ (inside : t.start ≤ length q) {d : Result Literal LiteralFault} (e : d ≡ integer_of q Decimal t.start) where
    index_inside : index_by d ≡ index_of q t
    unfolding index_of
    index_inside = rw (e, le-ltb (length q) t.start inside) refl

    pub index_fault : (x : LiteralFault) → d ≡ Err x → None ≡ index_of q t
    index_fault LiteralFault.OutOfRange h = rw h at index_inside
    index_fault LiteralFault.NoLiteral h = rw h at index_inside

    pub index_other : (l : Literal) → d ≡ Ok l → ((n : ℤ) → l ≡ literal.Integer n → ⊥) → None ≡ index_of q t
    index_other l h not = not_integer l not ∙ rw h at index_inside

    module _ (l : Literal) (h : d ≡ Ok l) (n : ℤ) (g : l ≡ literal.Integer n) {E : Type 0} (r : Result ℕ E) (fits : OkIff r (FitsUnsigned w16 n) (unsigned_abs n)) where
      integer_inside : index_by (Ok (literal.Integer n)) ≡ index_of q t
      integer_inside = let z : index_by (Ok l) ≡ index_of q t = rw h at index_inside in rw g at z

      pub index_fits : (i : ℕ) → r ≡ Ok i → Some i ≡ index_of q t
      index_fits i k =
          let z : FitsUnsigned w16 n × (i ≡ unsigned_abs n) = rw k at fits in
          ap Some z.1 ∙ fits_index n z.0 ∙ integer_inside

      pub index_large : (x : E) → r ≡ Err x → None ≡ index_of q t
      index_large x k = no_index n (rw k at fits) ∙ integer_inside

-- names
module _ (q t : List ℕ) (p : Path) where
  pub named_alone : p.names ≡ 1 → (n : List ℕ) → n ≡ spanned q p.first → (f : Option Property) → f ≡ find_property t n → f ≡ named q t p
  unfolding named
  named_alone h n e f g = g ∙ rw (e, eq-eqb p.names 1 h)

  module _ (several : p.names ≡ 1 → ⊥) (c : List ℕ) (first : c ≡ spanned q p.first) (b : Bool) (class : b ≡ same_name (class_name t) c) where
    pub named_classed : (eqb p.names 2 && b) ≡ true → (n : List ℕ) → n ≡ spanned q p.second → (f : Option Property) → f ≡ find_property t n → f ≡ named q t p
    unfolding named
    named_classed h n e f g = g ∙ rw (e, ne_eqb p.names 1 several, ← first, ← class, h)

    pub named_not : (eqb p.names 2 && b) ≡ false → None ≡ named q t p
    unfolding named
    named_not h = rw (ne_eqb p.names 1 several, ← first, ← class, h)

-- literals
pub units_said : (q : List ℕ) (x : Item) (w : Sequence) → x ≡ item.Sequence w → false ≡ no_datetime (item_value q x)
unfolding no_datetime item_value listed
units_said q x w h = rw h (go w.sort _)
  where
    go : (s : unit.Sort) (us : List ℕ) → false ≡ no_datetime (some (listed s us))
    go unit.TheVariants.Text us = refl
    go unit.TheVariants.Octets us = refl
    go unit.TheVariants.Reference us = refl

module _ (f : Family) (q : List ℕ) (t : Token) where
  pub literal_outside : length q < t.start → reading_of q (Err Misfit) ≡ read_literal f q t
  unfolding reading_of read_literal
  literal_outside h = rw (lt-ltb (length q) t.start h)

  module _ (inside : t.start ≤ length q) {u : Bool} (hex : u ≡ unsigned_hex q t) {s : Option Sort} (is : s ≡ sort_of t.kind) {b : Bool} (row : b ≡ fits f u s) where
    pub literal_unfit : b ≡ false → reading_of q (Err Misfit) ≡ read_literal f q t
    unfolding reading_of read_literal
    literal_unfit h = rw (le-ltb (length q) t.start inside, ← hex, ← is, ← row, h)

    module _ (h : b ≡ true) {o : Bool} (octets : o ≡ same_row f family.Octets) {d : Result Literal LiteralFault} (g : d ≡ literal_of o q t) where
      by_decoded : read_decoded f q d ≡ read_literal f q t
      unfolding read_literal
      by_decoded = rw (g, octets, le-ltb (length q) t.start inside, ← hex, ← is, ← row, h) refl

      fault_said : (x : LiteralFault) → d ≡ Err x → reading_of q (Err (fault_read x)) ≡ read_literal f q t
      unfolding reading_of
      fault_said LiteralFault.OutOfRange k = rw k at by_decoded
      fault_said LiteralFault.NoLiteral k = rw k at by_decoded

      pub literal_fault : (x : LiteralFault) → d ≡ Err x → (g : ReadFault) → g ≡ fault_read x → reading_of q (Err g) ≡ read_literal f q t
      literal_fault x k g e = ap (λ (z : ReadFault). reading_of q (Err z)) e ∙ fault_said x k

      by_value : (l : Literal) → d ≡ Ok l → (x : Item) → item_value q x ≡ literal_value f q l → read_value (item_value q x) ≡ read_literal f q t
      by_value l k x v = rw v (rw k at by_decoded)

      module _ (l : Literal) (k : d ≡ Ok l) (x : Item) (v : item_value q x ≡ literal_value f q l) {n : Bool} (says : n ≡ no_datetime (item_value q x)) where
        pub literal_malformed : n ≡ true → reading_of q (Err Malformed) ≡ read_literal f q t
        unfolding reading_of
        literal_malformed e =
            let z : true ≡ no_datetime (item_value q x) = rw e at says in
            let b : read_value (item_value q x) ≡ read_literal f q t = by_value l k x v in
            rw (← z) at b

        pub literal_reads : n ≡ false → reading_of q (Ok x) ≡ read_literal f q t
        unfolding reading_of
        literal_reads e =
            let z : false ≡ no_datetime (item_value q x) = rw e at says in
            let b : read_value (item_value q x) ≡ read_literal f q t = by_value l k x v in
            rw (← z) at b

-- patterns: what a buffer that was filled says
filled_count : (size : ℕ) (cs : List ℕ) (n : ℕ) → filled size cs ≡ Some n → n ≤ size
unfolding filled
filled_count size cs n e = go (leb (length cs) size) refl e
  where
    go : (b : Bool) → leb (length cs) size ≡ b → pick b (Some (length cs)) None ≡ Some n → n ≤ size
    go true l e = let z : length cs ≡ n = cc in omega (arith, leb-true (length cs) size l)
    go false l e = absurd (let z : ◌≡◌ {A = ℕ} 0 1 = cc in omega arith)

filled_over : (size : ℕ) (cs : List ℕ) → filled size cs ≡ None → leb (length cs) size ≡ false
unfolding filled
filled_over size cs e = go (leb (length cs) size) e
  where
    go : (b : Bool) → pick b (Some (length cs)) None ≡ None → b ≡ false
    go true e = absurd (let z : ◌≡◌ {A = ℕ} 0 1 = cc in omega arith)
    go false e = refl

module _ (r : Option ℕ) (cs : List ℕ) (n : ℕ) (out : List ℕ) (fill : r ≡ filled 256 cs) (count : r ≡ Some n) (full : length out ≡ 256) where
  pub count_within : n ≤ length out
  count_within = let h : n ≤ 256 = filled_count 256 cs n (sym fill ∙ count) in omega arith

  pub count_taken : n ≡ length (take n out)
  count_taken = sym (length-take-le n out count_within)

-- `*` follows no item
asterisk_alone : parse (42 ∷ []) ≡ none
unfolding parse alternatives sequence item symbol_item symbol ends starts_with special
asterisk_alone = refl

module _ (q : List ℕ) (t : Token) (at : ℕ) (after : at ≡ after_quote q t.start) (r : Option ℕ) (fill : r ≡ filled 256 (characters_of (text_at q at))) where
  text_same : characters_of (text_at q at) ≡ text_of q t.start
  text_same = ap (λ (k : ℕ). characters_of (text_at q k)) after ∙ after_quote_law q t.start

  pattern_over : r ≡ None → pattern_of q t ≡ none
  unfolding pattern_of parse
  pattern_over h = rw (← text_same, filled_over 256 (characters_of (text_at q at)) (sym fill ∙ h))

  module _ (out : List ℕ) (holds : Holds (characters_of (text_at q at)) out r) (n : ℕ) (count : r ≡ Some n) where
    pattern_held : parse (take n out) ≡ pattern_of q t
    unfolding pattern_of
    pattern_held = let h : take n out ≡ characters_of (text_at q at) = rw count at holds in ap parse (h ∙ text_same)

    pub is_held : (b : Bool) → b ≡ well_formed (take n out) → b ≡ is_some (pattern_of q t)
    is_held b e = e ∙ rw pattern_held

    pub text_held : (m : Matched) (s : List ℕ) → m ≡ match_of (take n out) s → m ≡ matched q t (characters s)
    text_held m s e = e ∙ rw pattern_held

    pub one_held : (b : Bool) (c : ℕ) → b ≡ like_of (parse (take n out)) (c ∷ []) → record { holds = b; characters = 1 } ≡ matched q t (c ∷ [])
    one_held b c e = rw (e, pattern_held)

  pub is_over : r ≡ None → false ≡ is_some (pattern_of q t)
  is_over h = rw (pattern_over h)

  pub text_over : r ≡ None → (m : Matched) (s : List ℕ) → m ≡ match_of (42 ∷ []) s → m ≡ matched q t (characters s)
  text_over h m s e = e ∙ rw (asterisk_alone, pattern_over h)

  pub one_over : r ≡ None → (c : ℕ) → record { holds = false; characters = 1 } ≡ matched q t (c ∷ [])
  one_over h c = rw (pattern_over h)
