-- How much of a text a part takes: a symbol and an item at least one character, and nothing reads past the end. Assumes nothing.
use mathlib.Core.List.{List, [], ◌∷◌}
use mathlib.Core.Bool.{Bool, true, false}
use Prim.Native.Nat.{ℕ, zero, suc, ◌<◌, ◌+◌}
use native.Mathlib.Omega.{arith}
use lib.ListN.{length, drop}
use lib.Dec.{ltb, eqb}
use Rattle.pattern.specs.Regex.{Range, Symbol, Regex, sym}
use Rattle.pattern.specs.Character.{dot, backslash, open_set, close_set, circumflex, special, bar, open_group, close_group, asterisk, plus_sign, question_mark, starts_with}
use Rattle.pattern.specs.Reading.{Reading, malformed, front, range, add_range, members, as_set, set_from, as_character, symbol, Part, repeated, symbol_item_of, symbol_item, group_of, ends, alternative_to, after, alternatives, sequence, item}
use Rattle.pattern.proofs.Sets.{Leaves, leaves_none, leaves, leaves_more, leaves_pick, drop_less, escaped_leaves, range_leaves}

-- ---- symbols

add_leaves : {n : ℕ} (r : Range) {X : Reading (List Range)} → Leaves n X → Leaves n (add_range r X)
add_leaves r leaves_none = leaves_none
add_leaves r (leaves s l) = leaves s l

pub members_leaves : (f : ℕ) (s : List ℕ) → Leaves (length s) (members f s)
unfolding members
members_leaves zero s = leaves_none
members_leaves (suc f) s = go (range s) (range_leaves s) (λ t. members_leaves f t)
  where
    close : (r : Range) (t : List ℕ) (b : Bool) → length t < length s → Leaves (length s) (add_range r (members f t))
        → Leaves {A = List Range} (length s) (elim b [ true ↦ front (r ∷ []) (drop 1 t) | false ↦ add_range r (members f t) ])
    close r t true l k = let d = drop_less t in leaves (drop 1 t) (omega arith)
    close r t false l k = k

    go : (X : Reading Range) → Leaves (length s) X → ((t : List ℕ) → Leaves (length t) (members f t))
        → Leaves {A = List Range} (length s) (elim X [ malformed ↦ malformed | front r rest ↦ elim (starts_with close_set rest) [ true ↦ front (r ∷ []) (drop 1 rest) | false ↦ add_range r (members f rest) ] ])
    go malformed l k = leaves_none
    go (front r t) (leaves u l) k = close r t (starts_with close_set t) l (add_leaves r (leaves_more (k t) (omega arith)))

set_leaves : {n : ℕ} (b : Bool) {X : Reading (List Range)} → Leaves n X → Leaves n (as_set b X)
set_leaves b leaves_none = leaves_none
set_leaves b (leaves s l) = leaves s l

character_leaves : {n : ℕ} {X : Reading ℕ} → Leaves n X → Leaves n (as_character X)
character_leaves leaves_none = leaves_none
character_leaves (leaves s l) = leaves s l

set_from_leaves : (s : List ℕ) → Leaves (length s) (set_from s)
unfolding set_from
set_from_leaves s =
    leaves_pick (starts_with circumflex s)
    (set_leaves true (leaves_more (members_leaves (suc (length (drop 1 s))) (drop 1 s)) (drop_less s)))
    (set_leaves false (members_leaves (suc (length s)) s))

pub symbol_leaves : (s : List ℕ) → Leaves (length s) (symbol s)
unfolding symbol
symbol_leaves [] = leaves_none
symbol_leaves (c ∷ s) =
    leaves_pick (eqb c dot) (leaves s (omega arith))
    (leaves_pick (eqb c backslash) (character_leaves (leaves_more (escaped_leaves s) (omega arith)))
    (leaves_pick (eqb c open_set) (leaves_more (set_from_leaves s) (omega arith)) (leaves_pick (special c) leaves_none (leaves s (omega arith)))))

-- ---- parts

pub repeated_leaves : (r : Regex ℕ) (k : ℕ) (s : List ℕ) → Leaves (suc (length s)) (repeated r k s)
unfolding repeated
repeated_leaves r k s =
    let d = drop_less s in
    let l : length (drop 1 s) < suc (length s) = omega arith in
    leaves_pick (starts_with asterisk s) (leaves (drop 1 s) l)
    (leaves_pick (starts_with plus_sign s) (leaves (drop 1 s) l) (leaves_pick (starts_with question_mark s) (leaves (drop 1 s) l) (leaves s (omega arith))))

pub symbol_item_leaves : (k : ℕ) (s : List ℕ) → Leaves (length s) (symbol_item k s)
unfolding symbol_item
symbol_item_leaves k s = leaves_pick (ltb k 60) (go (symbol s) (symbol_leaves s)) leaves_none
  where
    go : (X : Reading Symbol) → Leaves (length s) X → Leaves (length s) (symbol_item_of k X)
    go malformed l = leaves_none
    go (front p t) (leaves u l) = leaves_more (repeated_leaves (sym k p) (k + 1) t) (omega arith)

group_leaves : {n : ℕ} {X : Reading Part} → Leaves n X → Leaves n (group_of X)
group_leaves leaves_none = leaves_none
group_leaves (leaves {a = p} t l) =
    let d = drop_less t in
    leaves_pick (starts_with close_group t) (leaves_more (repeated_leaves p.regex p.symbols (drop 1 t)) (omega arith)) leaves_none

alternative_leaves : {n : ℕ} (a : Regex ℕ) {X : Reading Part} → Leaves n X → Leaves n (alternative_to a X)
alternative_leaves a leaves_none = leaves_none
alternative_leaves a (leaves s l) = leaves s l

after_leaves : {n : ℕ} (a : Regex ℕ) {X : Reading Part} → Leaves n X → Leaves n (after a X)
after_leaves a leaves_none = leaves_none
after_leaves a (leaves s l) = leaves s l

by_part : {n m : ℕ} (X : Reading Part) {y : Part → List ℕ → Reading Part} → Leaves m X
    → ((p : Part) (t : List ℕ) → length t < m → Leaves n (y p t)) → Leaves {A = Part} n (elim X [ malformed ↦ malformed | front p t ↦ y p t ])
by_part malformed l f = leaves_none
by_part (front p t) (leaves u l) f = f p t l

by_branch : {n : ℕ} (b : Bool) {x y : Reading Part} → Leaves n x → Leaves n y → Leaves {A = Part} n (elim b [ true ↦ x | false ↦ y ])
by_branch true p q = p
by_branch false p q = q

mutual
  unfolding alternatives sequence item starts_with

  pub alternatives_leaves : (f d k : ℕ) (s : List ℕ) → Leaves (suc (length s)) (alternatives f d k s)
  alternatives_leaves zero d k s = leaves_none
  alternatives_leaves (suc f) d k s =
      by_part (sequence f d k s) (sequence_leaves f d k s) λ p t l.
      let dl = drop_less t in
      by_branch (starts_with bar t) (alternative_leaves p.regex (leaves_more (alternatives_leaves f d p.symbols (drop 1 t)) (omega arith))) (leaves t l)

  pub sequence_leaves : (f d k : ℕ) (s : List ℕ) → Leaves (suc (length s)) (sequence f d k s)
  sequence_leaves zero d k s = leaves_none
  sequence_leaves (suc f) d k s =
      by_branch (ends s) (leaves s (omega arith))
      (by_part (item f d k s) (item_leaves f d k s) λ p t l.
      after_leaves p.regex (leaves_more (sequence_leaves f d p.symbols t) (omega arith)))

  pub item_leaves : (f d k : ℕ) (s : List ℕ) → Leaves (length s) (item f d k s)
  item_leaves zero d k s = leaves_none
  item_leaves (suc f) d k [] = symbol_item_leaves k []
  item_leaves (suc f) d k (c ∷ s) =
      by_branch (eqb c open_group) (by_branch (ltb d 8) (group_leaves (alternatives_leaves f (d + 1) k s)) leaves_none) (symbol_item_leaves k (c ∷ s))
