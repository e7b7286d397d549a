-- What the grammar derives is read, at every bound on the depth of the calls that is large enough. Assumes nothing.
use mathlib.Core.Path.{◌≡◌, refl, ap, sym as inv, subst}
use mathlib.Core.Bool.{Bool, true, false, ◌||◌}
use mathlib.Core.List.{List, [], ◌∷◌, ◌++◌, append_assoc}
use Prim.Native.Nat.{ℕ, zero, suc, ◌+◌, ◌*◌, ◌≤◌}
use native.Mathlib.Omega.{arith}
use borrow.Author.Tests.{eqb-true, ne_eqb, lt-ltb, le-ltb}
use lib.ListN.{length, length-append}
use lib.Dec.{eqb}
use Rattle.base.proofs.Says.{or_neither}
use Rattle.pattern.specs.Regex.{Range, Symbol, Regex, seq}
use Rattle.pattern.specs.Character.{dot, backslash, open_group, close_group, open_set, close_set, bar, asterisk, plus_sign, question_mark, circumflex, hyphen, special, starts_with}
use Rattle.pattern.specs.Grammar.{MemberText, plain_member, escaped_member, RangeText, single, pair, MembersText, one_range, more_ranges, SymbolText, any_character, plain_character, escaped_character, plain_set, negated_set, Sign, no_sign, star_sign, plus_sign_rule, optional_sign, Alternatives, Sequence, Item, Derives, one_alternative, more_alternatives, no_item, more_items, symbol_item_rule, group_item}
use Rattle.pattern.specs.Reading.{Reading, front, escaped, member, range, members, set_from, symbol, Part, part, repeated, symbol_item, ends, alternatives, sequence, item}
use Rattle.pattern.proofs.Sets.{Leaves, left_less, range_leaves}
use Rattle.pattern.proofs.Leaves.{item_leaves}

-- ---- sets

member_complete : {u : List ℕ} {c : ℕ} → MemberText u c → (t : List ℕ) → member (u ++ t) ≡ front c t
unfolding member escaped
member_complete (plain_member n n2 n3) t = rw (ne_eqb _ _ n2, ne_eqb _ _ n3, ne_eqb _ _ n)
member_complete escaped_member t = refl

range_complete : {u : List ℕ} {r : Range} → RangeText u r → (t : List ℕ) → starts_with hyphen t ≡ false → range (u ++ t) ≡ front r t
unfolding range starts_with
range_complete (single m) t h = rw (member_complete m t, h)
range_complete (pair {s = s} {t = v} {a = a} {b = b} m k l) t h =
    rw (append_assoc s (hyphen ∷ v) t, member_complete m (hyphen ∷ (v ++ t)), member_complete k t, le-ltb b a l)

-- what a member starts with, and with it a range and members
abbrev Inside : List ℕ → Type 0
Inside s = (starts_with hyphen s ≡ false) × (starts_with close_set s ≡ false)

member_inside : {u : List ℕ} {c : ℕ} → MemberText u c → (t : List ℕ) → Inside (u ++ t)
unfolding starts_with
member_inside (plain_member n n2 n3) t = (ne_eqb _ _ n3, ne_eqb _ _ n)
member_inside escaped_member t = (refl, refl)

range_inside : {u : List ℕ} {r : Range} → RangeText u r → (t : List ℕ) → Inside (u ++ t)
range_inside (single m) t = member_inside m t
range_inside (pair {s = s} {t = v} m k l) t = subst Inside (inv (append_assoc s (hyphen ∷ v) t)) (member_inside m (hyphen ∷ (v ++ t)))

members_inside : {u : List ℕ} {rs : List Range} → MembersText u rs → (t : List ℕ) → Inside (u ++ t)
members_inside (one_range r) t = range_inside r t
members_inside (more_ranges {s = s} {t = v} r m) t = subst Inside (inv (append_assoc s v t)) (range_inside r (v ++ t))

members_complete : {v : List ℕ} {rs : List Range} → MembersText v rs → (f : ℕ) (t : List ℕ) → length (v ++ close_set ∷ t) ≤ f → members f (v ++ close_set ∷ t) ≡ front rs t
unfolding members starts_with
members_complete {v} m zero t l = absurd (omega (arith, length-append v (close_set ∷ t)))
members_complete (one_range r) (suc f) t l = rw (range_complete r (close_set ∷ t) refl, members)
members_complete (more_ranges {s = s} {t = v} {r = r} k m) (suc f) t l =
    let i = members_inside m (close_set ∷ t) in
    let e : range (s ++ (v ++ close_set ∷ t)) ≡ front r (v ++ close_set ∷ t) = range_complete k (v ++ close_set ∷ t) i.0 in
    let less = left_less (subst (λ (X : Reading Range). Leaves (length (s ++ (v ++ close_set ∷ t))) X) e (range_leaves (s ++ (v ++ close_set ∷ t)))) in
    let all : length ((s ++ v) ++ close_set ∷ t) ≡ length (s ++ (v ++ close_set ∷ t)) = ap length (append_assoc s v (close_set ∷ t)) in
    rw (append_assoc s v (close_set ∷ t), e, i.1, members_complete m f t (omega arith), members)

-- ---- symbols

not_negated : (s t : List ℕ) → starts_with circumflex s ≡ false → starts_with circumflex (s ++ close_set ∷ t) ≡ false
unfolding starts_with
not_negated [] t h = refl
not_negated (c ∷ s) t h = h

-- the special characters that a character is not
pub plain : (c : ℕ) → special c ≡ false
    → (eqb c dot ≡ false) × (eqb c backslash ≡ false) × (eqb c open_group ≡ false) × (eqb c close_group ≡ false) × (eqb c open_set ≡ false) × (eqb c bar ≡ false)
    × (eqb c asterisk ≡ false) × (eqb c plus_sign ≡ false) × (eqb c question_mark ≡ false)
unfolding special
plain c e =
    let q = or_neither _ (eqb c question_mark) e in
    let p = or_neither _ (eqb c plus_sign) q.0 in
    let a = or_neither _ (eqb c asterisk) p.0 in
    let b = or_neither _ (eqb c bar) a.0 in
    let x = or_neither _ (eqb c close_set) b.0 in
    let o = or_neither _ (eqb c open_set) x.0 in
    let g = or_neither _ (eqb c close_group) o.0 in
    let h = or_neither _ (eqb c open_group) g.0 in
    let k = or_neither _ (eqb c backslash) h.0 in
    (k.0, k.1, h.1, g.1, o.1, b.1, a.1, p.1, q.1)

pub symbol_complete : {u : List ℕ} {p : Symbol} → SymbolText u p → (t : List ℕ) → symbol (u ++ t) ≡ front p t
unfolding symbol escaped set_from starts_with
symbol_complete any_character t = refl
symbol_complete (plain_character {c = c} e) t = let z = plain c e in rw (z.0, z.1, z.4, e)
symbol_complete escaped_character t = refl
symbol_complete (plain_set {s = s} {rs = rs} m h) t =
    rw (append_assoc s (close_set ∷ []) t, not_negated s t h, members_complete m (suc (length (s ++ close_set ∷ t))) t (omega arith))
symbol_complete (negated_set {s = s} m) t =
    rw (append_assoc s (close_set ∷ []) t, members_complete m (suc (length (s ++ close_set ∷ t))) t (omega arith))

-- ---- what an item starts with

-- no sign, no `|` and no `)`
abbrev Begins : List ℕ → Type 0
Begins s = (starts_with asterisk s ≡ false) × (starts_with plus_sign s ≡ false) × (starts_with question_mark s ≡ false)

symbol_begins : {u : List ℕ} {p : Symbol} → SymbolText u p → (t : List ℕ) → Begins (u ++ t) × (ends (u ++ t) ≡ false) × (starts_with open_group (u ++ t) ≡ false)
unfolding starts_with ends
symbol_begins any_character t = ((refl, refl, refl), refl, refl)
symbol_begins (plain_character {c = c} e) t = let z = plain c e in ((z.6, z.7, z.8), rw (z.5, z.3), z.2)
symbol_begins escaped_character t = ((refl, refl, refl), refl, refl)
symbol_begins (plain_set m h) t = ((refl, refl, refl), refl, refl)
symbol_begins (negated_set m) t = ((refl, refl, refl), refl, refl)

item_begins : {d k m : ℕ} {u : List ℕ} {a : Regex ℕ} → Derives Item d k u a m → (t : List ℕ) → Begins (u ++ t) × (ends (u ++ t) ≡ false)
unfolding starts_with ends
item_begins (symbol_item_rule {s = s} {u = v} l p g) t =
    let z = symbol_begins p (v ++ t) in
    subst (λ (w : List ℕ). Begins w × (ends w ≡ false)) (inv (append_assoc s v t)) (z.0, z.1)
item_begins (group_item l m g) t = ((refl, refl, refl), refl)

ends_begins : (t : List ℕ) → ends t ≡ true → Begins t
unfolding starts_with ends
ends_begins [] h = (refl, refl, refl)
ends_begins (c ∷ t) h = go (eqb c bar) refl h
  where
    is : (x : ℕ) → c ≡ x → (eqb x asterisk ≡ false) → (eqb x plus_sign ≡ false) → (eqb x question_mark ≡ false) → (eqb c asterisk ≡ false) × (eqb c plus_sign ≡ false) × (eqb c question_mark ≡ false)
    is x e p q r = rw e (p, q, r)

    go : (b : Bool) → eqb c bar ≡ b → (b || eqb c close_group) ≡ true → (eqb c asterisk ≡ false) × (eqb c plus_sign ≡ false) × (eqb c question_mark ≡ false)
    go true e k = is bar (eqb-true c bar e) refl refl refl
    go false e k = is close_group (eqb-true c close_group k) refl refl refl

sequence_begins : {d k m : ℕ} {u : List ℕ} {a : Regex ℕ} → Derives Sequence d k u a m → (t : List ℕ) → ends t ≡ true → Begins (u ++ t)
sequence_begins no_item t h = ends_begins t h
sequence_begins (more_items {s = s} {t = v} i q) t h = subst Begins (inv (append_assoc s v t)) (item_begins i (v ++ t)).0

-- ---- parts

sign_complete : {u : List ℕ} {a b : Regex ℕ} → Sign u a b → (k : ℕ) (t : List ℕ) → Begins t → repeated a k (u ++ t) ≡ part b k t
unfolding repeated starts_with
sign_complete no_sign k t h = rw (h.0, h.1, h.2)
sign_complete star_sign k t h = refl
sign_complete plus_sign_rule k t h = refl
sign_complete optional_sign k t h = refl

mutual
  unfolding alternatives sequence item symbol_item starts_with ends

  pub alternatives_complete : {d k m : ℕ} {u : List ℕ} {a : Regex ℕ} → Derives Alternatives d k u a m → (f : ℕ) (t : List ℕ)
      → ends t ≡ true → starts_with bar t ≡ false → 3 * length (u ++ t) + 3 ≤ f → alternatives f d k (u ++ t) ≡ part a m t
  alternatives_complete x zero t e b l = absurd (omega arith)
  alternatives_complete (one_alternative x) (suc f) t e b l = rw (sequence_complete x f t e (omega arith), b, alternatives)
  alternatives_complete (more_alternatives {s = s} {t = v} x y) (suc f) t e b l =
      let all = ap length (append_assoc s (bar ∷ v) t) in
      let long = length-append s (bar ∷ (v ++ t)) in
      rw (append_assoc s (bar ∷ v) t, sequence_complete x f (bar ∷ (v ++ t)) refl (omega arith), alternatives_complete y f t e b (omega arith), alternatives)

  sequence_complete : {d k m : ℕ} {u : List ℕ} {a : Regex ℕ} → Derives Sequence d k u a m → (f : ℕ) (t : List ℕ)
      → ends t ≡ true → 3 * length (u ++ t) + 2 ≤ f → sequence f d k (u ++ t) ≡ part a m t
  sequence_complete x zero t e l = absurd (omega arith)
  sequence_complete no_item (suc f) t e l = rw (e, sequence)
  sequence_complete (more_items {d = d} {k = k} {j = j} {m = m} {s = s} {t = v} {a = a} {b = b} x y) (suc f) t e l =
      let all = ap length (append_assoc s v t) in
      let q : item f d k (s ++ (v ++ t)) ≡ part a j (v ++ t) = item_complete x f (v ++ t) (sequence_begins y t e) (omega arith) in
      let less = left_less (subst (λ (X : Reading Part). Leaves (length (s ++ (v ++ t))) X) q (item_leaves f d k (s ++ (v ++ t)))) in
      subst (λ (w : List ℕ). sequence (suc f) d k w ≡ part (seq a b) m t) (inv (append_assoc s v t))
      (rw ((item_begins x (v ++ t)).1, q, sequence_complete y f t e (omega arith), sequence))

  item_complete : {d k m : ℕ} {u : List ℕ} {a : Regex ℕ} → Derives Item d k u a m → (f : ℕ) (t : List ℕ)
      → Begins t → 3 * length (u ++ t) + 1 ≤ f → item f d k (u ++ t) ≡ part a m t
  item_complete x zero t b l = absurd (omega arith)
  item_complete (symbol_item_rule {d = d} {k = k} {s = s} {u = v} {b = a} room p g) (suc f) t b l =
      subst (λ (w : List ℕ). item (suc f) d k w ≡ part a (k + 1) t) (inv (append_assoc s v t))
      (rw ((symbol_begins p (v ++ t)).2, lt-ltb k 60 room, symbol_complete p (v ++ t), item) (sign_complete g (k + 1) t b))
  item_complete (group_item {d = d} {k = k} {m = m} {s = s} {u = v} {b = a} room x g) (suc f) t b l =
      let all = ap length (append_assoc s (close_group ∷ v) t) in
      subst (λ (w : List ℕ). item (suc f) d k (open_group ∷ w) ≡ part a m t) (inv (append_assoc s (close_group ∷ v) t))
      (rw (lt-ltb d 8 room, alternatives_complete x f (close_group ∷ (v ++ t)) refl refl (omega arith), item) (sign_complete g m t b))
