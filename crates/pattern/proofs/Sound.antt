-- What is read is derived by the grammar. Assumes nothing.
use mathlib.Core.Path.{◌≡◌, refl, ap, sym as inv, subst, ◌∙◌}
use mathlib.Core.Bool.{Bool, true, false, ◌||◌, false≢true}
use mathlib.Core.List.{List, [], ◌∷◌, ◌++◌, append_assoc}
use Prim.Native.Nat.{ℕ, zero, suc, ◌+◌, ◌<◌}
use borrow.Author.Tests.{eqb-true, eqb-false, ltb-true, ltb-false}
use lib.ListN.{length, drop}
use lib.Dec.{ltb, eqb}
use Rattle.base.specs.Pick.{pick}
use Rattle.base.proofs.Says.{or_neither}
use Rattle.pattern.specs.Regex.{Range, Symbol, any, one, Regex, sym, opt, plus, star}
use Rattle.pattern.specs.Character.{dot, backslash, open_group, close_group, open_set, close_set, bar, asterisk, plus_sign, question_mark, circumflex, hyphen, special, starts_with}
use Rattle.pattern.specs.Grammar.{MemberText, plain_member, escaped_member, RangeText, single, pair, MembersText, one_range, more_ranges, SymbolText, any_character, plain_character, escaped_character, plain_set, negated_set, Sign, no_sign, star_sign, plus_sign_rule, optional_sign, Kind, Alternatives, Sequence, Item, Derives, one_alternative, more_alternatives, no_item, more_items, symbol_item_rule, group_item}
use Rattle.pattern.specs.Reading.{Reading, malformed, front, escaped, member, up_to, range_from, range, add_range, members, members_of, as_set, set_from, as_character, symbol, Part, part, repeated, symbol_item_of, symbol_item, group_of, ends, alternative_to, after, alternatives, sequence, item}

-- a reading of s whose front part is a text of T
pub data Reads {A : Type 0} (T : List ℕ → A → Type 0) (s : List ℕ) : Reading A → Type 0 where
  reads_none : Reads T s malformed
  reads : {a : A} {t : List ℕ} (u : List ℕ) → s ≡ u ++ t → T u a → Reads T s (front a t)

pub starts_true : (x : ℕ) (s : List ℕ) → starts_with x s ≡ true → s ≡ x ∷ drop 1 s
unfolding starts_with
starts_true x [] e = absurd (false≢true e)
starts_true x (c ∷ s) e = ap (λ (n : ℕ). n ∷ s) (eqb-true c x e)

-- what a text's front starts with, the text starts with
starts_front : (x : ℕ) {s : List ℕ} (v w : List ℕ) → s ≡ v ++ w → starts_with x s ≡ false → starts_with x v ≡ false
unfolding starts_with
starts_front x [] w e h = refl
starts_front x (c ∷ v) w e h = inv (ap (starts_with x) e) ∙ h

-- ---- sets

pub member_sound : (s : List ℕ) → Reads MemberText s (member s)
unfolding member escaped
member_sound [] = reads_none
member_sound (c ∷ s) = by_escape s (eqb c backslash) refl
  where
    escape : (s : List ℕ) → c ≡ backslash → Reads MemberText (c ∷ s) (escaped s)
    escape [] e = reads_none
    escape (x ∷ s) e = reads (backslash ∷ x ∷ []) (ap (λ (n : ℕ). n ∷ x ∷ s) e) escaped_member

    by_plain : (s : List ℕ) (b : Bool) → (eqb c hyphen || eqb c close_set) ≡ b → (c ≡ backslash → ⊥) → Reads MemberText (c ∷ s) (pick b malformed (front c s))
    by_plain s true e n = reads_none
    by_plain s false e n =
        let z = or_neither (eqb c hyphen) (eqb c close_set) e in
        reads (c ∷ []) refl (plain_member (eqb-false c close_set z.1) n (eqb-false c hyphen z.0))

    by_escape : (s : List ℕ) (b : Bool) → eqb c backslash ≡ b → Reads MemberText (c ∷ s) (pick b (escaped s) (pick (eqb c hyphen || eqb c close_set) malformed (front c s)))
    by_escape s true e = escape s (eqb-true c backslash e)
    by_escape s false e = by_plain s (eqb c hyphen || eqb c close_set) refl (eqb-false c backslash e)

range_sound : (s : List ℕ) → Reads RangeText s (range s)
unfolding range
range_sound s = go (member s) (member_sound s)
  where
    to : (low : ℕ) (u t : List ℕ) (X : Reading ℕ) → s ≡ u ++ hyphen ∷ t → MemberText u low → Reads MemberText t X → Reads RangeText s (up_to low X)
    to low u t malformed e m r = reads_none
    to low u t (front high w) e m (reads v q k) = order (ltb high low) refl
      where
        order : (b : Bool) → ltb high low ≡ b → Reads RangeText s (pick b malformed (front (record { low = low; high = high }) w))
        order true h = reads_none
        order false h = reads (u ++ hyphen ∷ v) (e ∙ ap (λ (l : List ℕ). u ++ hyphen ∷ l) q ∙ inv (append_assoc u (hyphen ∷ v) w)) (pair m k (ltb-false high low h))

    by_hyphen : (low : ℕ) (u t : List ℕ) → s ≡ u ++ t → MemberText u low → (b : Bool) → starts_with hyphen t ≡ b
        → Reads RangeText s (pick b (up_to low (member (drop 1 t))) (front (record { low = low; high = low }) t))
    by_hyphen low u t e m true h = to low u (drop 1 t) (member (drop 1 t)) (e ∙ ap (λ (l : List ℕ). u ++ l) (starts_true hyphen t h)) m (member_sound (drop 1 t))
    by_hyphen low u t e m false h = reads u e (single m)

    go : (X : Reading ℕ) → Reads MemberText s X → Reads RangeText s (range_from X)
    go malformed r = reads_none
    go (front low t) (reads u e m) = by_hyphen low u t e m (starts_with hyphen t) refl

-- members with their `]`
abbrev Closed : List ℕ → List Range → Type 0
Closed u rs = (v : List ℕ) × (u ≡ v ++ close_set ∷ []) × MembersText v rs

members_sound : (f : ℕ) (s : List ℕ) → Reads Closed s (members f s)
unfolding members
members_sound zero s = reads_none
members_sound (suc f) s = go (range s) (range_sound s) (λ t. members_sound f t)
  where
    add : (r : Range) (u t : List ℕ) (X : Reading (List Range)) → s ≡ u ++ t → RangeText u r → Reads Closed t X → Reads Closed s (add_range r X)
    add r u t malformed e k m = reads_none
    add r u t (front rs w) e k (reads v q c) =
        reads (u ++ v) (e ∙ ap (λ (l : List ℕ). u ++ l) q ∙ inv (append_assoc u v w))
        (u ++ c.0, ap (λ (l : List ℕ). u ++ l) c.1 ∙ inv (append_assoc u c.0 (close_set ∷ [])), more_ranges k c.2)

    close : (r : Range) (u t : List ℕ) → s ≡ u ++ t → RangeText u r → (b : Bool) → starts_with close_set t ≡ b → Reads Closed t (members f t)
        → Reads Closed s (elim b [ true ↦ front (r ∷ []) (drop 1 t) | false ↦ add_range r (members f t) ])
    close r u t e k true h m =
        reads (u ++ close_set ∷ []) (e ∙ ap (λ (l : List ℕ). u ++ l) (starts_true close_set t h) ∙ inv (append_assoc u (close_set ∷ []) (drop 1 t))) (u, refl, one_range k)
    close r u t e k false h m = add r u t (members f t) e k m

    go : (X : Reading Range) → Reads RangeText s X → ((t : List ℕ) → Reads Closed t (members f t))
        → Reads Closed s (elim X [ malformed ↦ malformed | front r rest ↦ elim (starts_with close_set rest) [ true ↦ front (r ∷ []) (drop 1 rest) | false ↦ add_range r (members f rest) ] ])
    go malformed r k = reads_none
    go (front r t) (reads u e m) k = close r u t e m (starts_with close_set t) refl (k t)

-- ---- symbols

set_sound : (c : ℕ) (s : List ℕ) → c ≡ open_set → Reads SymbolText (c ∷ s) (set_from s)
unfolding set_from
set_sound c s o = go (starts_with circumflex s) refl
  where
    negated : (t : List ℕ) (X : Reading (List Range)) → s ≡ circumflex ∷ t → Reads Closed t X → Reads SymbolText (c ∷ s) (as_set true X)
    negated t malformed e r = reads_none
    negated t (front rs w) e (reads u q k) =
        reads (open_set ∷ circumflex ∷ (k.0 ++ close_set ∷ []))
        ((λ i. o i ∷ e i) ∙ ap (λ (l : List ℕ). open_set ∷ circumflex ∷ l) (q ∙ ap (λ (l : List ℕ). l ++ w) k.1))
        (negated_set k.2)

    plain : (X : Reading (List Range)) → starts_with circumflex s ≡ false → Reads Closed s X → Reads SymbolText (c ∷ s) (as_set false X)
    plain malformed h r = reads_none
    plain (front rs w) h (reads u q k) =
        let z : s ≡ (k.0 ++ close_set ∷ []) ++ w = q ∙ ap (λ (l : List ℕ). l ++ w) k.1 in
        reads (open_set ∷ (k.0 ++ close_set ∷ []))
        (λ i. o i ∷ z i)
        (plain_set k.2 (starts_front circumflex k.0 (close_set ∷ w) (z ∙ append_assoc k.0 (close_set ∷ []) w) h))

    go : (b : Bool) → starts_with circumflex s ≡ b → Reads SymbolText (c ∷ s) (pick b (as_set true (members_of (drop 1 s))) (as_set false (members_of s)))
    go true h = negated (drop 1 s) (members_of (drop 1 s)) (starts_true circumflex s h) (members_sound (suc (length (drop 1 s))) (drop 1 s))
    go false h = plain (members_of s) h (members_sound (suc (length s)) s)

pub symbol_sound : (s : List ℕ) → Reads SymbolText s (symbol s)
unfolding symbol escaped
symbol_sound [] = reads_none
symbol_sound (c ∷ s) = by_dot (eqb c dot) refl
  where
    escape : (s : List ℕ) → c ≡ backslash → Reads SymbolText (c ∷ s) (as_character (escaped s))
    escape [] e = reads_none
    escape (x ∷ s) e = reads (backslash ∷ x ∷ []) (ap (λ (n : ℕ). n ∷ x ∷ s) e) escaped_character

    by_special : (b : Bool) → special c ≡ b → Reads SymbolText (c ∷ s) (pick b malformed (front (one c) s))
    by_special true e = reads_none
    by_special false e = reads (c ∷ []) refl (plain_character e)

    by_set : (b : Bool) → eqb c open_set ≡ b → Reads SymbolText (c ∷ s) (pick b (set_from s) (pick (special c) malformed (front (one c) s)))
    by_set true e = set_sound c s (eqb-true c open_set e)
    by_set false e = by_special (special c) refl

    by_escape : (b : Bool) → eqb c backslash ≡ b
        → Reads SymbolText (c ∷ s) (pick b (as_character (escaped s)) (pick (eqb c open_set) (set_from s) (pick (special c) malformed (front (one c) s))))
    by_escape true e = escape s (eqb-true c backslash e)
    by_escape false e = by_set (eqb c open_set) refl

    by_dot : (b : Bool) → eqb c dot ≡ b
        → Reads SymbolText (c ∷ s)
        (pick b (front any s) (pick (eqb c backslash) (as_character (escaped s)) (pick (eqb c open_set) (set_from s) (pick (special c) malformed (front (one c) s)))))
    by_dot true e = reads (dot ∷ []) (ap (λ (n : ℕ). n ∷ s) (eqb-true c dot e)) any_character
    by_dot false e = by_escape (eqb c backslash) refl

-- ---- parts

-- a sign, and the part with it
abbrev Signed : Regex ℕ → ℕ → List ℕ → Part → Type 0
Signed r k u p = Sign u r p.regex × (p.symbols ≡ k)

repeated_sound : (r : Regex ℕ) (k : ℕ) (s : List ℕ) → Reads (Signed r k) s (repeated r k s)
unfolding repeated
repeated_sound r k s = by_star (starts_with asterisk s) refl
  where
    by_optional : (b : Bool) → starts_with question_mark s ≡ b → Reads (Signed r k) s (pick b (part (opt r) k (drop 1 s)) (part r k s))
    by_optional true e = reads (question_mark ∷ []) (starts_true question_mark s e) (optional_sign, refl)
    by_optional false e = reads [] refl (no_sign, refl)

    by_plus : (b : Bool) → starts_with plus_sign s ≡ b
        → Reads (Signed r k) s (pick b (part (plus r) k (drop 1 s)) (pick (starts_with question_mark s) (part (opt r) k (drop 1 s)) (part r k s)))
    by_plus true e = reads (plus_sign ∷ []) (starts_true plus_sign s e) (plus_sign_rule, refl)
    by_plus false e = by_optional (starts_with question_mark s) refl

    by_star : (b : Bool) → starts_with asterisk s ≡ b
        → Reads (Signed r k) s (pick b (part (star r) k (drop 1 s)) (pick (starts_with plus_sign s) (part (plus r) k (drop 1 s)) (pick (starts_with question_mark s) (part (opt r) k (drop 1 s)) (part r k s))))
    by_star true e = reads (asterisk ∷ []) (starts_true asterisk s e) (star_sign, refl)
    by_star false e = by_plus (starts_with plus_sign s) refl

abbrev pub Of : Kind → ℕ → ℕ → List ℕ → Part → Type 0
Of kind d k u p = Derives kind d k u p.regex p.symbols

symbol_item_sound : (d k : ℕ) (s : List ℕ) → Reads (Of Item d k) s (symbol_item k s)
unfolding symbol_item
symbol_item_sound d k s = by_room (ltb k 60) refl
  where
    sign : (p : Symbol) (u t : List ℕ) (X : Reading Part) → s ≡ u ++ t → k < 60 → SymbolText u p → Reads (Signed (sym k p) (k + 1)) t X → Reads (Of Item d k) s X
    sign p u t malformed e l m r = reads_none
    sign p u t (front q w) e l m (reads v h g) =
        reads (u ++ v) (e ∙ ap (λ (x : List ℕ). u ++ x) h ∙ inv (append_assoc u v w))
        (subst (λ (n : ℕ). Derives Item d k (u ++ v) q.regex n) (inv g.1) (symbol_item_rule l m g.0))

    go : (X : Reading Symbol) → k < 60 → Reads SymbolText s X → Reads (Of Item d k) s (symbol_item_of k X)
    go malformed l r = reads_none
    go (front p t) l (reads u e m) = sign p u t (repeated (sym k p) (k + 1) t) e l m (repeated_sound (sym k p) (k + 1) t)

    by_room : (b : Bool) → ltb k 60 ≡ b → Reads (Of Item d k) s (pick b (symbol_item_of k (symbol s)) malformed)
    by_room true h = go (symbol s) (ltb-true k 60 h) (symbol_sound s)
    by_room false h = reads_none

group_sound : (d k : ℕ) (s t : List ℕ) (X : Reading Part) → s ≡ open_group ∷ t → d < 8 → Reads (Of Alternatives (d + 1) k) t X → Reads (Of Item d k) s (group_of X)
group_sound d k s t malformed o l r = reads_none
group_sound d k s t (front p w) o l (reads u e m) = by_close (starts_with close_group w) refl
  where
    sign : (X : Reading Part) → w ≡ close_group ∷ drop 1 w → Reads (Signed p.regex p.symbols) (drop 1 w) X → Reads (Of Item d k) s X
    sign malformed h r = reads_none
    sign (front q y) h (reads v z g) =
        let all : s ≡ open_group ∷ (u ++ close_group ∷ (v ++ y)) = o ∙ ap (λ (x : List ℕ). open_group ∷ x) (e ∙ ap (λ (x : List ℕ). u ++ x) (h ∙ ap (λ (x : List ℕ). close_group ∷ x) z)) in
        reads (open_group ∷ (u ++ close_group ∷ v)) (all ∙ ap (λ (x : List ℕ). open_group ∷ x) (inv (append_assoc u (close_group ∷ v) y)))
        (subst (λ (n : ℕ). Derives Item d k (open_group ∷ (u ++ close_group ∷ v)) q.regex n) (inv g.1) (group_item l m g.0))

    by_close : (b : Bool) → starts_with close_group w ≡ b → Reads (Of Item d k) s (pick b (repeated p.regex p.symbols (drop 1 w)) malformed)
    by_close true h = sign (repeated p.regex p.symbols (drop 1 w)) (starts_true close_group w h) (repeated_sound p.regex p.symbols (drop 1 w))
    by_close false h = reads_none

alternative_sound : (d k : ℕ) (s u t : List ℕ) (a : Regex ℕ) (j : ℕ) (X : Reading Part) → s ≡ u ++ bar ∷ t → Derives Sequence d k u a j
    → Reads (Of Alternatives d j) t X → Reads (Of Alternatives d k) s (alternative_to a X)
alternative_sound d k s u t a j malformed e m r = reads_none
alternative_sound d k s u t a j (front p w) e m (reads v q n) =
    reads (u ++ bar ∷ v) (e ∙ ap (λ (l : List ℕ). u ++ bar ∷ l) q ∙ inv (append_assoc u (bar ∷ v) w)) (more_alternatives m n)

after_sound : (d k : ℕ) (s u t : List ℕ) (a : Regex ℕ) (j : ℕ) (X : Reading Part) → s ≡ u ++ t → Derives Item d k u a j
    → Reads (Of Sequence d j) t X → Reads (Of Sequence d k) s (after a X)
after_sound d k s u t a j malformed e m r = reads_none
after_sound d k s u t a j (front p w) e m (reads v q n) = reads (u ++ v) (e ∙ ap (λ (l : List ℕ). u ++ l) q ∙ inv (append_assoc u v w)) (more_items m n)

by_part : (T U : List ℕ → Part → Type 0) (s : List ℕ) (X : Reading Part) {y : Part → List ℕ → Reading Part} → Reads T s X
    → ((p : Part) (u t : List ℕ) → s ≡ u ++ t → T u p → Reads U s (y p t)) → Reads {A = Part} U s (elim X [ malformed ↦ malformed | front p t ↦ y p t ])
by_part T U s malformed r f = reads_none
by_part T U s (front p t) (reads u e m) f = f p u t e m

by_branch : (U : List ℕ → Part → Type 0) (s : List ℕ) (c b : Bool) {x y : Reading Part} → c ≡ b → (c ≡ true → Reads U s x) → (c ≡ false → Reads U s y)
    → Reads {A = Part} U s (elim b [ true ↦ x | false ↦ y ])
by_branch U s c true e p q = p e
by_branch U s c false e p q = q e

mutual
  unfolding alternatives sequence item

  pub alternatives_sound : (f d k : ℕ) (s : List ℕ) → Reads (Of Alternatives d k) s (alternatives f d k s)
  alternatives_sound zero d k s = reads_none
  alternatives_sound (suc f) d k s =
      by_part (Of Sequence d k) (Of Alternatives d k) s (sequence f d k s) (sequence_sound f d k s) λ p u t e m.
      by_branch (Of Alternatives d k) s (starts_with bar t) (starts_with bar t) refl
      (λ h. alternative_sound d k s u (drop 1 t) p.regex p.symbols (alternatives f d p.symbols (drop 1 t))
      (e ∙ ap (λ (l : List ℕ). u ++ l) (starts_true bar t h)) m (alternatives_sound f d p.symbols (drop 1 t)))
      (λ h. reads u e (one_alternative m))

  sequence_sound : (f d k : ℕ) (s : List ℕ) → Reads (Of Sequence d k) s (sequence f d k s)
  sequence_sound zero d k s = reads_none
  sequence_sound (suc f) d k s =
      by_branch (Of Sequence d k) s (ends s) (ends s) refl
      (λ h. reads [] refl no_item)
      (λ h. by_part (Of Item d k) (Of Sequence d k) s (item f d k s) (item_sound f d k s) λ p u t e m.
      after_sound d k s u t p.regex p.symbols (sequence f d p.symbols t) e m (sequence_sound f d p.symbols t))

  item_sound : (f d k : ℕ) (s : List ℕ) → Reads (Of Item d k) s (item f d k s)
  item_sound zero d k s = reads_none
  item_sound (suc f) d k s =
      by_branch (Of Item d k) s (starts_with open_group s) (starts_with open_group s) refl
      (λ h. by_branch (Of Item d k) s (ltb d 8) (ltb d 8) refl
      (λ l. group_sound d k s (drop 1 s) (alternatives f (d + 1) k (drop 1 s)) (starts_true open_group s h) (ltb-true d 8 l) (alternatives_sound f (d + 1) k (drop 1 s)))
      (λ l. reads_none))
      (λ h. symbol_item_sound d k s)
