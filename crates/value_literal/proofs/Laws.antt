-- One law for each exit of `src/`.
use Prim.Native.Nat.{ℕ, ◌+◌, ◌-◌, ◌≤◌, ◌<◌}
use mathlib.Core.List.{List, []}
use mathlib.Core.Bool.{Bool, true, false}
use mathlib.Core.Path.{◌≡◌, refl, sym, ap, ◌∙◌}
use mathlib.Core.Option.{some}
use native.Mathlib.Omega.{arith}
use lib.ListN.{length, take, drop_of_length-le}
use lib.Seq.{take_all, take-nil}
use lib.Dec.{ltb}
use borrow.Author.Tests.{ltb-false}
use Rattle.base.specs.Pick.{pick}
use Rattle.base.specs.Part.{part}
use Rattle.string_literal.specs.Text.{text_at, characters_of, bytes_of}
use Rattle.string_literal.proofs.Filling.{at_past}
use Rattle.datetime.specs.Datetime.{datetime_of}
use Rattle.datetime.specs.declared.Datetime.{Datetime}
use Rattle.value.specs.declared.unit.Form.{Form}
use Rattle.value.specs.declared.unit.Form.TheVariants.{Hex, Quoted, Encoded}
use Rattle.value.specs.declared.item.Sort.{Sort}
use Rattle.value.specs.declared.item.Sort.TheVariants as sort
use Rattle.value.specs.declared.item.Item.{Item}
use Rattle.value.specs.declared.item.Item.TheVariants as item
use Rattle.value.specs.Unit.{hex_pairs, utf8_after, units_from}
use Rattle.value.specs.Item.{listed, sequence_of, item_value}
use Rattle.value.proofs.Laws.{utf8_whole}
use Rattle.instance.specs.Value as value
use Rattle.value_literal.specs.LiteralValue.{text_of, after_quote, octets_of}

-- a whole slice is a part of itself
whole_part : (q : List ℕ) → part q 0 (length q) ≡ q
whole_part q = take_all (length q) q (omega arith)

pub quoted_units : (sort : Sort) (form : Form) (q : List ℕ) (at : ℕ) (n : ℕ) → n ≡ at
    → item_value q (item.Sequence (record { sort = sort; form = form; start = 0; length = length q; at = n })) ≡ some (listed sort (units_from form q at))
unfolding item_value
quoted_units sort form q at n e = rw (e, whole_part q)

-- past the end there are no characters
pub after_quote_law : (q : List ℕ) (start : ℕ) → characters_of (text_at q (after_quote q start)) ≡ text_of q start
after_quote_law q start = go (ltb start (length q)) refl
  where
    go : (t : Bool) → ltb start (length q) ≡ t → characters_of (text_at q (pick t (start + 1) (length q))) ≡ text_of q start
    go true e = refl
    go false e =
        let h : length q ≤ start = ltb-false start (length q) e in
        at_past q (length q) (omega arith) ∙ sym (at_past q (start + 1) (omega arith))

no_octets : (q : List ℕ) (start : ℕ) → length q ≤ start → (n : ℕ) → part q start n ≡ []
no_octets q start h n = ap (take n) (drop_of_length-le q h) ∙ take-nil n

-- octets
module _ (q : List ℕ) (start end : ℕ) (x : Item) where
  pub octets_past : length q ≤ start → x ≡ sequence_of sort.Octets Hex 0 0 → item_value q x ≡ some (value.octets (octets_of q start end))
  unfolding item_value listed units_from hex_pairs
  octets_past h e = let l : length q ≤ start + 2 = omega arith in rw (e, no_octets q (start + 2) l (end - (start + 2)))

  pub octets_pairs : x ≡ sequence_of sort.Octets Hex (start + 2) (end - (start + 2)) → item_value q x ≡ some (value.octets (octets_of q start end))
  unfolding item_value listed units_from
  octets_pairs e = rw e

-- text literals
module _ (q : List ℕ) (start : ℕ) where
  pub quoted_text : some (listed sort.Text (units_from Quoted q (after_quote q start))) ≡ some (value.text (text_of q start))
  unfolding listed units_from
  quoted_text = ap (λ (cs : List ℕ). some (value.text cs)) (after_quote_law q start)

  pub quoted_reference : some (listed sort.Reference (units_from (Encoded 0) q (after_quote q start))) ≡ some (value.reference (bytes_of (text_of q start)))
  unfolding listed units_from
  quoted_reference = ap (λ (us : List ℕ). some (value.reference us)) (ap (utf8_after 0) (after_quote_law q start) ∙ utf8_whole (text_of q start))

  pub quoted_datetime : (at : ℕ) → at ≡ after_quote q start → (d : Datetime) → d ≡ datetime_of (characters_of (text_at q at))
      → item_value q (item.Datetime d) ≡ some (value.datetime (datetime_of (text_of q start)))
  unfolding item_value
  quoted_datetime at e d f =
      let g : d ≡ datetime_of (text_of q start) = f ∙ ap (λ (k : ℕ). datetime_of (characters_of (text_at q k))) e ∙ ap datetime_of (after_quote_law q start) in
      rw g
