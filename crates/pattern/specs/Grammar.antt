-- The grammar of patterns (01, "Pattern"), as derivations of a text. proofs/Grammar shows that `parse` reads exactly what it derives.
use Rattle.std.specs.Prelude.{◌≡◌, true, false, List, [], ◌∷◌, ◌++◌, ℕ, ◌+◌, ◌≤◌, ◌<◌, length}
use Rattle.pattern.specs.Regex.{Range, Symbol, any, one, set, Regex, empty, sym, seq, alt, opt, plus, star}
use Rattle.pattern.specs.Character.{dot, backslash, open_group, close_group, open_set, close_set, bar, asterisk, plus_sign, question_mark, circumflex, hyphen, special, starts_with}

-- a character of a set: `]`, `\` and `-` as themselves need `\`, which may stand before any character
pub data MemberText : List ℕ → ℕ → Type 0 where
  plain_member : {c : ℕ} → (c ≡ close_set → ⊥) → (c ≡ backslash → ⊥) → (c ≡ hyphen → ⊥) → MemberText (c ∷ []) c
  escaped_member : {c : ℕ} → MemberText (backslash ∷ c ∷ []) c

-- a character or a range, low end not above high
pub data RangeText : List ℕ → Range → Type 0 where
  single : {s : List ℕ} {c : ℕ} → MemberText s c → RangeText s (record { low = c; high = c })
  pair : {s t : List ℕ} {a b : ℕ} → MemberText s a → MemberText t b → a ≤ b → RangeText (s ++ hyphen ∷ t) (record { low = a; high = b })

-- one or more characters or ranges
pub data MembersText : List ℕ → List Range → Type 0 where
  one_range : {s : List ℕ} {r : Range} → RangeText s r → MembersText s (r ∷ [])
  more_ranges : {s t : List ℕ} {r : Range} {rs : List Range} → RangeText s r → MembersText t rs → MembersText (s ++ t) (r ∷ rs)

-- the dot, a character other than the special ones, `\` and a character, a set `[..]` or `[^..]`
pub data SymbolText : List ℕ → Symbol → Type 0 where
  any_character : SymbolText (dot ∷ []) any
  plain_character : {c : ℕ} → special c ≡ false → SymbolText (c ∷ []) (one c)
  escaped_character : {c : ℕ} → SymbolText (backslash ∷ c ∷ []) (one c)
  plain_set : {s : List ℕ} {rs : List Range} → MembersText s rs → starts_with circumflex s ≡ false → SymbolText (open_set ∷ (s ++ close_set ∷ [])) (set false rs)
  negated_set : {s : List ℕ} {rs : List Range} → MembersText s rs → SymbolText (open_set ∷ circumflex ∷ (s ++ close_set ∷ [])) (set true rs)

-- `*` `+` `?` follow one item once
pub data Sign : List ℕ → Regex ℕ → Regex ℕ → Type 0 where
  no_sign : {a : Regex ℕ} → Sign [] a a
  star_sign : {a : Regex ℕ} → Sign (asterisk ∷ []) a (star a)
  plus_sign_rule : {a : Regex ℕ} → Sign (plus_sign ∷ []) a (plus a)
  optional_sign : {a : Regex ℕ} → Sign (question_mark ∷ []) a (opt a)

pub data Kind : Type 0 where
  Alternatives Sequence Item : Kind

-- `Derives kind d k s r m`: inside d groups and after k symbols the text s is of the kind, means r and ends after m symbols
pub data Derives : Kind → ℕ → ℕ → List ℕ → Regex ℕ → ℕ → Type 0 where
  -- `|` parts alternatives, which may be empty
  one_alternative : {d k m : ℕ} {s : List ℕ} {a : Regex ℕ} → Derives Sequence d k s a m → Derives Alternatives d k s a m
  more_alternatives : {d k j m : ℕ} {s t : List ℕ} {a b : Regex ℕ} → Derives Sequence d k s a j → Derives Alternatives d j t b m
      → Derives Alternatives d k (s ++ bar ∷ t) (alt a b) m
  -- items follow one another
  no_item : {d k : ℕ} → Derives Sequence d k [] empty k
  more_items : {d k j m : ℕ} {s t : List ℕ} {a b : Regex ℕ} → Derives Item d k s a j → Derives Sequence d j t b m → Derives Sequence d k (s ++ t) (seq a b) m
  -- an item is a symbol, of at most 60, or a group, nested to 8, which holds alternatives
  symbol_item_rule : {d k : ℕ} {s u : List ℕ} {p : Symbol} {b : Regex ℕ} → k < 60 → SymbolText s p → Sign u (sym k p) b → Derives Item d k (s ++ u) b (k + 1)
  group_item : {d k m : ℕ} {s u : List ℕ} {a b : Regex ℕ} → d < 8 → Derives Alternatives (d + 1) k s a m → Sign u a b
      → Derives Item d k (open_group ∷ (s ++ close_group ∷ u)) b m

-- a pattern has at most 256 characters
abbrev pub DerivesPattern : List ℕ → Regex ℕ → Type 0
DerivesPattern s r = (length s ≤ 256) × ((m : ℕ) × Derives Alternatives 0 0 s r m)
