-- How a pattern's characters are read (01, "Pattern"), from the front on. proofs/Grammar shows that what is read is what the grammar of
-- specs/Grammar derives, so that the bound `f` on the depth of the calls leaves nothing out.
use Rattle.std.specs.Prelude.{Bool, true, false, ◌||◌, List, [], ◌∷◌, ℕ, zero, suc, ◌+◌, ◌*◌, length, drop, ltb, leb, eqb}
use Rattle.std.proofs.Math.Option.{Option, none, some}
use Rattle.base.specs.Pick.{pick}
use Rattle.pattern.specs.Regex.{Range, Symbol, any, one, set, Regex, empty, sym, seq, alt, opt, plus, star}
use Rattle.pattern.specs.Character.{dot, backslash, open_group, close_group, open_set, close_set, bar, asterisk, plus_sign, question_mark, circumflex, hyphen, special, starts_with}

-- what stands at the front of a text, and the characters after it
pub data Reading (A : Type 0) : Type 0 where
  malformed : Reading A
  front : A → List ℕ → Reading A

-- ---- symbols

-- the character after a `\`
unfoldable pub escaped : List ℕ → Reading ℕ
escaped [] = malformed
escaped (c ∷ s) = front c s

-- a character of a set: `]`, `\` and `-` as themselves need `\`, which may stand before any character
unfoldable pub member : List ℕ → Reading ℕ
member [] = malformed
member (c ∷ s) = pick (eqb c backslash) (escaped s) (pick (eqb c hyphen || eqb c close_set) malformed (front c s))

abbrev pub up_to : ℕ → Reading ℕ → Reading Range
up_to low malformed = malformed
up_to low (front high s) = pick (ltb high low) malformed (front (record { low = low; high = high }) s)

abbrev pub range_from : Reading ℕ → Reading Range
range_from malformed = malformed
range_from (front low s) = pick (starts_with hyphen s) (up_to low (member (drop 1 s))) (front (record { low = low; high = low }) s)

-- a character or a range, low end not above high
unfoldable pub range : List ℕ → Reading Range
range s = range_from (member s)

abbrev pub add_range : Range → Reading (List Range) → Reading (List Range)
add_range r malformed = malformed
add_range r (front rs s) = front (r ∷ rs) s

-- one or more characters or ranges, and `]`
unfoldable pub members : ℕ → List ℕ → Reading (List Range)
members zero s = malformed
members (suc f) s =
    elim (range s) [
      | malformed ↦ malformed
      | front r rest ↦ elim (starts_with close_set rest) [ true ↦ front (r ∷ []) (drop 1 rest) | false ↦ add_range r (members f rest) ]
    ]

abbrev pub as_set : Bool → Reading (List Range) → Reading Symbol
as_set negated malformed = malformed
as_set negated (front rs s) = front (set negated rs) s

abbrev pub members_of : List ℕ → Reading (List Range)
members_of s = members (suc (length s)) s

-- a set, from behind its `[` on: a first `^` negates
unfoldable pub set_from : List ℕ → Reading Symbol
set_from s = pick (starts_with circumflex s) (as_set true (members_of (drop 1 s))) (as_set false (members_of s))

abbrev pub as_character : Reading ℕ → Reading Symbol
as_character malformed = malformed
as_character (front c s) = front (one c) s

-- the dot, `\` and a character, a set, or a character other than the special ones
unfoldable pub symbol : List ℕ → Reading Symbol
symbol [] = malformed
symbol (c ∷ s) =
    pick (eqb c dot) (front any s)
    (pick (eqb c backslash) (as_character (escaped s))
    (pick (eqb c open_set) (set_from s)
    (pick (special c) malformed (front (one c) s))))

-- ---- alternatives, sequences, items

-- a part of a pattern, and the number of the pattern's symbols up to its end
pub record Part : Type 0 where
  pub regex : Regex ℕ
  pub symbols : ℕ

abbrev pub part : Regex ℕ → ℕ → List ℕ → Reading Part
part r k s = front (record { regex = r; symbols = k }) s

-- `*` `+` `?` follow one item once
unfoldable pub repeated : Regex ℕ → ℕ → List ℕ → Reading Part
repeated r k s =
    pick (starts_with asterisk s) (part (star r) k (drop 1 s))
    (pick (starts_with plus_sign s) (part (plus r) k (drop 1 s))
    (pick (starts_with question_mark s) (part (opt r) k (drop 1 s))
    (part r k s)))

abbrev pub symbol_item_of : ℕ → Reading Symbol → Reading Part
symbol_item_of k malformed = malformed
symbol_item_of k (front p s) = repeated (sym k p) (k + 1) s

-- a symbol, the k-th from 0 on, of at most 60
unfoldable pub symbol_item : ℕ → List ℕ → Reading Part
symbol_item k s = pick (ltb k 60) (symbol_item_of k (symbol s)) malformed

-- what is in a group, and its `)`
abbrev pub group_of : Reading Part → Reading Part
group_of malformed = malformed
group_of (front p s) = pick (starts_with close_group s) (repeated p.regex p.symbols (drop 1 s)) malformed

-- a sequence ends before `|`, before `)` and at the end
unfoldable pub ends : List ℕ → Bool
ends [] = true
ends (c ∷ s) = eqb c bar || eqb c close_group

abbrev pub alternative_to : Regex ℕ → Reading Part → Reading Part
alternative_to a malformed = malformed
alternative_to a (front p s) = part (alt a p.regex) p.symbols s

abbrev pub after : Regex ℕ → Reading Part → Reading Part
after a malformed = malformed
after a (front p s) = part (seq a p.regex) p.symbols s

-- `d`: the groups around the text, at most 8; `k`: the symbols before it; `f`: a bound on the depth of the calls
unfoldable mutual
  -- `|` parts alternatives
  pub alternatives : ℕ → ℕ → ℕ → List ℕ → Reading Part
  alternatives zero d k s = malformed
  alternatives (suc f) d k s =
      elim (sequence f d k s) [
        | malformed ↦ malformed
        | front p rest ↦ elim (starts_with bar rest)
            [ true ↦ alternative_to p.regex (alternatives f d p.symbols (drop 1 rest)) | false ↦ front p rest ]
      ]

  -- items follow one another
  pub sequence : ℕ → ℕ → ℕ → List ℕ → Reading Part
  sequence zero d k s = malformed
  sequence (suc f) d k s =
      elim (ends s) [
        | true ↦ part empty k s
        | false ↦ elim (item f d k s) [ malformed ↦ malformed | front p rest ↦ after p.regex (sequence f d p.symbols rest) ]
      ]

  -- an item is a symbol or a group, which holds alternatives
  pub item : ℕ → ℕ → ℕ → List ℕ → Reading Part
  item zero d k s = malformed
  item (suc f) d k s =
      elim (starts_with open_group s) [
        | false ↦ symbol_item k s
        | true ↦ elim (ltb d 8) [ true ↦ group_of (alternatives f (d + 1) k (drop 1 s)) | false ↦ malformed ]
      ]

-- alternatives with nothing after them
abbrev pub whole_of : Reading Part → Option (Regex ℕ)
whole_of malformed = none
whole_of (front p []) = some p.regex
whole_of (front p (c ∷ s)) = none

-- enough for every call: three calls for each character
abbrev pub enough : List ℕ → ℕ
enough s = 3 * length s + 3

-- a pattern of at most 256 characters
unfoldable pub parse : List ℕ → Option (Regex ℕ)
parse s = pick (leb (length s) 256) (whole_of (alternatives (enough s) 0 0 s)) none

abbrev pub is_some : {A : Type 0} → Option A → Bool
is_some none = false
is_some (some a) = true

-- whether a text is a pattern
abbrev pub well_formed : List ℕ → Bool
well_formed s = is_some (parse s)
