-- The symbols of what is read are numbered from the symbols before it on. Assumes nothing.
use mathlib.Core.Path.{refl}
use mathlib.Core.Bool.{Bool, true, false}
use mathlib.Core.List.{List, [], ◌∷◌}
use mathlib.Core.Option.{Option, none, some}
use Prim.Native.Nat.{ℕ, zero, suc, ◌+◌}
use lib.ListN.{length, drop}
use lib.Dec.{ltb, leb}
use Rattle.base.specs.Pick.{pick}
use Rattle.pattern.specs.Regex.{Symbol, Regex, sym, seq, alt}
use Rattle.pattern.specs.Character.{asterisk, plus_sign, question_mark, bar, open_group, close_group, starts_with}
use Rattle.pattern.specs.Reading.{Reading, malformed, front, Part, symbol, repeated, symbol_item, symbol_item_of, group_of, ends, after, alternative_to, alternatives, sequence, item, whole_of, enough, parse}
use Rattle.matcher.proofs.Steps.{Numbered}

pub data NumberedPart (k : ℕ) : Reading Part → Type 0 where
  no_part : NumberedPart k malformed
  a_part : {p : Part} {s : List ℕ} → Numbered p.regex k p.symbols → NumberedPart k (front p s)

module _ (k : ℕ) where
  by_test : (b : Bool) {x y : Reading Part} → NumberedPart k x → NumberedPart k y → NumberedPart k (pick b x y)
  by_test true p q = p
  by_test false p q = q

  by_branch : (b : Bool) {x y : Reading Part} → NumberedPart k x → NumberedPart k y → NumberedPart k (elim b [ true ↦ x | false ↦ y ])
  by_branch true p q = p
  by_branch false p q = q

  by_part : (X : Reading Part) {j : ℕ} {y : Part → List ℕ → Reading Part} → NumberedPart j X
      → ((p : Part) (s : List ℕ) → Numbered p.regex j p.symbols → NumberedPart k (y p s))
      → NumberedPart k (elim X [ malformed ↦ malformed | front p s ↦ y p s ])
  by_part malformed n f = no_part
  by_part (front p s) (a_part n) f = f p s n

  by_repeat : (r : Regex ℕ) (m : ℕ) (s : List ℕ) → Numbered r k m → NumberedPart k (repeated r m s)
  unfolding Numbered repeated
  by_repeat r m s n =
      by_test (starts_with asterisk s) (a_part n)
      (by_test (starts_with plus_sign s) (a_part n) (by_test (starts_with question_mark s) (a_part n) (a_part n)))

  by_symbol : (X : Reading Symbol) → NumberedPart k (symbol_item_of k X)
  unfolding Numbered
  by_symbol malformed = no_part
  by_symbol (front p s) = by_repeat (sym k p) (k + 1) s (refl, refl)

  by_group : (X : Reading Part) → NumberedPart k X → NumberedPart k (group_of X)
  by_group malformed n = no_part
  by_group (front p s) (a_part n) = by_test (starts_with close_group s) (by_repeat p.regex p.symbols (drop 1 s) n) no_part

  by_alternative : (a : Regex ℕ) {j : ℕ} (X : Reading Part) → Numbered a k j → NumberedPart j X → NumberedPart k (alternative_to a X)
  unfolding Numbered
  by_alternative a malformed n m = no_part
  by_alternative a {j} (front p s) n (a_part m) = a_part {p = record { regex = alt a p.regex; symbols = p.symbols }} (j, n, m)

  by_item : (a : Regex ℕ) {j : ℕ} (X : Reading Part) → Numbered a k j → NumberedPart j X → NumberedPart k (after a X)
  unfolding Numbered
  by_item a malformed n m = no_part
  by_item a {j} (front p s) n (a_part m) = a_part {p = record { regex = seq a p.regex; symbols = p.symbols }} (j, n, m)

mutual
  unfolding alternatives sequence item symbol_item Numbered

  pub alternatives_numbered : (f d k : ℕ) (s : List ℕ) → NumberedPart k (alternatives f d k s)
  alternatives_numbered zero d k s = no_part
  alternatives_numbered (suc f) d k s =
      by_part k (sequence f d k s) (sequence_numbered f d k s) λ p t n.
      by_branch k (starts_with bar t)
      (by_alternative k p.regex (alternatives f d p.symbols (drop 1 t)) n (alternatives_numbered f d p.symbols (drop 1 t)))
      (a_part n)

  sequence_numbered : (f d k : ℕ) (s : List ℕ) → NumberedPart k (sequence f d k s)
  sequence_numbered zero d k s = no_part
  sequence_numbered (suc f) d k s =
      by_branch k (ends s) (a_part refl)
      (by_part k (item f d k s) (item_numbered f d k s) λ p t n.
      by_item k p.regex (sequence f d p.symbols t) n (sequence_numbered f d p.symbols t))

  item_numbered : (f d k : ℕ) (s : List ℕ) → NumberedPart k (item f d k s)
  item_numbered zero d k s = no_part
  item_numbered (suc f) d k s =
      by_branch k (starts_with open_group s)
      (by_branch k (ltb d 8) (by_group k (alternatives f (d + 1) k (drop 1 s)) (alternatives_numbered f (d + 1) k (drop 1 s))) no_part)
      (by_test k (ltb k 60) (by_symbol k (symbol s)) no_part)

-- a pattern's symbols are numbered from 0 on
pub data NumberedPattern : Option (Regex ℕ) → Type 0 where
  no_pattern : NumberedPattern none
  a_pattern : {r : Regex ℕ} (m : ℕ) → Numbered r 0 m → NumberedPattern (some r)

pub parse_numbered : (s : List ℕ) → NumberedPattern (parse s)
unfolding parse
parse_numbered s = by_length (leb (length s) 256)
  where
    whole : (X : Reading Part) → NumberedPart 0 X → NumberedPattern (whole_of X)
    whole malformed n = no_pattern
    whole (front p []) (a_part n) = a_pattern p.symbols n
    whole (front p (c ∷ t)) n = no_pattern

    by_length : (b : Bool) → NumberedPattern (pick b (whole_of (alternatives (enough s) 0 0 s)) none)
    by_length true = whole (alternatives (enough s) 0 0 s) (alternatives_numbered (enough s) 0 0 s)
    by_length false = no_pattern
